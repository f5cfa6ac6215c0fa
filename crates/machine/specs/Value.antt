-- The laws asked of a game, and what follows for value and N: each from the positions one move on. Rests on Game.
use mathlib.Core.List.{map, foldr}
use Prim.Native.Nat.{ℕ, ◌+◌}
pub use Rattle.machine.specs.Game.{Distinct}
use Rattle.machine.specs.Game.{Game, sequences}

-- The nodes that may yet be made below an unexpanded node: one for each sequence but the empty one
unfoldable pub extra : (G : Game) → G.Pos → ℕ
extra G p = foldr ◌+◌ 0 (map (λ m. sequences G (G.play p m)) (G.moves p))
