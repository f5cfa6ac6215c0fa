-- What step 3 asks for: two policies that differ in it alone, and the one that asks for a node for each legal move. Definitions; NeedsNoMore has what follows. Rests on Machine.
use Rattle.std.specs.Prelude.{◌≡◌, ◌≤◌, length}
use Rattle.machine.specs.Game.{Game}
use Rattle.machine.specs.Tree.{Node, Children}
use Rattle.machine.specs.Machine.{Stay, Policy, standard}

-- P and Q choose the same child and differ in step 3 alone: P asks for no less nodes than Q, at any position
pub record AsksNoLess (G : Game) (P Q : Policy G) : Type 0 where
  pub same_child : (n : Node G.Pos) (ks : Children G.Pos) → Q.select n ks ≡ P.select n ks
  pub no_less : (p : G.Pos) → Q.need p ≤ P.need p

-- The choices of MANUAL, Search, but for step 3: as many nodes as the leaf has legal moves, though step 4 may make fewer children
unfoldable pub asking_for_moves : (G : Game) → Stay → Policy G
asking_for_moves G y = record { select = (standard G y).select; need = λ p. length (G.moves p) }
