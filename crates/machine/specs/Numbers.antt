-- What holds of a node of the machine's tree with its children, and what follows for its numbers and its value. Rests on Tree and Value.
use Rattle.std.specs.Prelude.{◌≡◌, ◌⊎◌}
use mathlib.Core.List.{Memᴰ}
use Rattle.std.proofs.Math.Bool.{true, false, not}
use Prim.Native.Nat.{ℕ, ◌≤◌, ◌<◌, min}
use Rattle.machine.specs.Game.{Game, value}
unfoldable pub use Rattle.machine.specs.Tree.{tally, open_at, open_leaves}
use Rattle.machine.specs.Tree.{INFINITY, u32_max, Node, Children, none, child, least_delta, sum_phi}

-- The move m leads to one of the children
abbrev pub HasMove : {Pos : Type 0} → ℕ → Children Pos → Type 0
HasMove m none = ⊥
HasMove m (child n b ks) = (m ≡ n.move) ⊎ HasMove m ks

-- Each of the children comes from p by a legal move; and each legal move of p leads to one of them
abbrev pub ByMoves : (G : Game) → G.Pos → Children G.Pos → Type 0
ByMoves G p none = Unit {0}
ByMoves G p (child n b ks) = Memᴰ n.move (G.moves p) × (n.pos ≡ G.play p n.move) × ByMoves G p ks

abbrev pub AllMoves : (G : Game) → G.Pos → Children G.Pos → Type 0
AllMoves G p ks = (m : ℕ) → Memᴰ m (G.moves p) → HasMove m ks

-- No move leads to two of them
abbrev pub NoMoveTwice : {Pos : Type 0} → Children Pos → Type 0
NoMoveTwice none = Unit {0}
NoMoveTwice (child n b ks) = (HasMove n.move ks → ⊥) × NoMoveTwice ks

-- An open leaf
pub record OpenLeaf (G : Game) (n : Node G.Pos) (ks : Children G.Pos) : Type 0 where
  pub closed : n.expanded ≡ false
  pub bare : ks ≡ none
  pub phi_is : n.phi ≡ 1
  pub delta_is : n.delta ≡ 1
  pub some : ℕ
  pub legal : Memᴰ some (G.moves n.pos)

-- An expanded node that is not solved: its numbers are worked out from its children, one for each legal move
pub record Inner (G : Game) (n : Node G.Pos) (ks : Children G.Pos) : Type 0 where
  pub opened : n.expanded ≡ true
  pub phi_pos : 0 < n.phi
  pub delta_pos : 0 < n.delta
  pub phi_is : n.phi ≡ least_delta ks
  pub delta_is : n.delta ≡ min (sum_phi ks) u32_max
  pub by_moves : ByMoves G n.pos ks
  pub all_moves : AllMoves G n.pos ks
  pub no_move_twice : NoMoveTwice ks

-- A node is one of these, or it is solved: nothing is below it, one number is 0, the other INFINITY or more, and its value is known
pub data NodeOk (G : Game) (n : Node G.Pos) (ks : Children G.Pos) : Type 0 where
  open_leaf : OpenLeaf G n ks → NodeOk G n ks
  inner : Inner G n ks → NodeOk G n ks
  won : ks ≡ none → n.phi ≡ 0 → INFINITY ≤ n.delta → value G n.pos ≡ G.mine n.pos → NodeOk G n ks
  lost : ks ≡ none → n.delta ≡ 0 → INFINITY ≤ n.phi → value G n.pos ≡ not (G.mine n.pos) → NodeOk G n ks

-- All nodes of a list, and all below, are so
abbrev pub Good : (G : Game) → Children G.Pos → Type 0
Good G none = Unit {0}
Good G (child n b ks) = NodeOk G n b × Good G b × Good G ks
