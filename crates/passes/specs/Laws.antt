-- Laws of the two passes, for games that expand no more than their budget, and all of it where it stops them. Rests on Passes.
use Rattle.std.specs.Prelude.{◌≡◌}
use Prim.Native.Nat.{ℕ, ◌≤◌}
use Rattle.passes.specs.Passes.{OneGame}

-- What is asked of a game
pub record Bounded (g : OneGame) : Type 0 where
  pub most : (b : ℕ) → (g.search b).expanded ≤ b
  pub all : (b : ℕ) → (g.search b).cause ≡ 1 → (g.search b).expanded ≡ b
