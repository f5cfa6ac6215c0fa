-- A free choice that can't be, by its three conditions; check 22 refuses it. Rests on Rules.
use Rattle.std.specs.Prelude.{◌≡◌, ℕ, ◌<◌}
use Rattle.rules.specs.Rules.{Position, code, state, board}

pub record ChoiceThatCantBe (p : Position) : Type 0 where
  -- a cell is taken;
  pub taken : (i : ℕ) × (i < 81) × (code p.cells i ≡ 0 → ⊥)
  -- no board is done, won or drawn;
  pub none_done : (b : ℕ) → b < 9 → state (board p.cells b) ≡ 0
  -- the choice is free.
  pub free : p.target ≡ 15
