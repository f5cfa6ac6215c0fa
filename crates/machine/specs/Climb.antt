-- Step 5 sets the tree right on its way up, and keeps the counts. Rests on Place.
use Rattle.std.specs.Prelude.{◌≡◌}
use mathlib.Core.List.{List, [], ◌∷◌, Memᴰ}
use Rattle.std.proofs.Math.Bool.{true}
use Prim.Native.Nat.{ℕ, ◌+◌, ◌≤◌, ◌<◌}
use Rattle.machine.specs.Game.{Game}
use Rattle.machine.specs.Tree.{Node, Children, least_delta}
use Rattle.machine.specs.Machine.{Counts, Ancestor, State}
use Rattle.machine.specs.Numbers.{ByMoves, AllMoves, NoMoveTwice, NodeOk, Good}
use Rattle.machine.specs.Place.{Above}
use Rattle.machine.specs.Place.{Sizes}

-- Where the climb stands: the node is expanded, its children are right, and its own numbers, which those above have counted with, may be out of date
pub record Climbing (G : Game) (r : G.Pos) (up : List (Ancestor G.Pos)) (n : Node G.Pos) (ks : Children G.Pos) : Type 0 where
  pub opened : n.expanded ≡ true
  pub good : Good G ks
  pub by_moves : ByMoves G n.pos ks
  pub all_moves : 0 < least_delta ks → AllMoves G n.pos ks
  pub no_move_twice : NoMoveTwice ks
  pub some : ℕ
  pub legal : Memᴰ some (G.moves n.pos)
  pub above : Above G r up n
  pub phi_pos : 0 < n.phi
  pub delta_pos : 0 < n.delta

-- The current node between rounds is unsolved, or it is the root
abbrev pub UnsolvedOrRoot : {Pos : Type 0} → List (Ancestor Pos) → Node Pos → Type 0
UnsolvedOrRoot [] n = Unit {0}
UnsolvedOrRoot (a ∷ up) n = (0 < n.phi) × (0 < n.delta)

pub record TreeOk (G : Game) (r : G.Pos) (s : State G.Pos) : Type 0 where
  pub ok : NodeOk G s.node s.below
  pub good : Good G s.below
  pub above : Above G r s.above s.node
  pub unsolved_or_root : UnsolvedOrRoot s.above s.node

-- The counts against the tree's sizes: a node counted as proved or disproved was expanded, and is no inner node any more. N is the number of sequences
pub record CountsFit (N : ℕ) (c : Counts) (z : Sizes) : Type 0 where
  pub live : c.allocated ≡ c.freed + z.nodes
  pub roomy : c.allocated + z.room ≤ N
  pub spent : c.expanded < c.allocated
  pub solved_once : c.proved + c.disproved + z.inner ≤ c.expanded
