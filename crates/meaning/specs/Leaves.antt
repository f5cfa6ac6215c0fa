-- What the lines of open leaves name: positions, reached by legal moves. Definitions only. Rests on Meaning, and on Game and Tree of the machine.
use Rattle.std.specs.Prelude.{◌≡◌, false, length}
use mathlib.Core.List.{[], ◌∷◌, Memᴰ}
use Rattle.machine.specs.Game.{Game, Legal, Distinct}
use Rattle.machine.specs.Tree.{Node, solved, Children, In, open_leaves}
use Rattle.meaning.specs.Meaning.{Line, open_lines}

-- The position after a line
unfoldable pub position_after : (G : Game) → G.Pos → Line → G.Pos
position_after G p [] = p
position_after G p (m ∷ l) = position_after G (G.play p m) l

-- A line played from p: its moves are legal, and the position after them is that of an open leaf of the tree
pub record NamesLeaf (G : Game) (tree : Children G.Pos) (p : G.Pos) (l : Line) : Type 0 where
  pub legal : Legal G p l
  pub node : Node G.Pos
  pub below : Children G.Pos
  pub there : In node below tree
  pub at_end : node.pos ≡ position_after G p l
  pub not_solved : solved node ≡ false
  pub unexpanded : node.expanded ≡ false

-- The lines of a tree that is searched from p: each is so, none stands twice, and they are as many as the open leaves
pub record LeavesNamed (G : Game) (tree : Children G.Pos) (p : G.Pos) : Type 0 where
  pub names : (l : Line) → Memᴰ l (open_lines tree) → NamesLeaf G tree p l
  pub none_twice : Distinct (open_lines tree)
  pub as_many : length (open_lines tree) ≡ open_leaves tree
