-- The machine's tree seen from a node, what is asked of a policy, and one move down. Rests on Machine and Numbers.
use Rattle.std.specs.Prelude.{◌≡◌, cond, ℕ, zero, suc, ◌+◌, ◌<◌, length}
use mathlib.Core.List.{List, [], ◌∷◌}
use Rattle.machine.specs.Game.{Game}
use Rattle.machine.specs.Tree.{Node, solved, Children, none, child, size, append}
use Rattle.machine.specs.Machine.{Ancestor, State}
use Rattle.machine.specs.Value.{extra}
use Rattle.machine.specs.Numbers.{Inner, NodeOk, Good, tally}

-- Pools have at most this many nodes
abbrev pub pool_max : ℕ
pool_max = 16777216

-- Two nodes that may stand for each other in a list: alike in position and move, and for Same in their numbers too
pub record Alike {Pos : Type 0} (n n' : Node Pos) : Type 0 where
  pub pos : n.pos ≡ n'.pos
  pub move : n.move ≡ n'.move

pub record Same {Pos : Type 0} (n n' : Node Pos) : Type 0 where
  pub alike : Alike n n'
  pub phi : n.phi ≡ n'.phi
  pub delta : n.delta ≡ n'.delta

-- A node above, on the way to its child n; and all above n, up to the root, whose position is r
pub record AncestorOk (G : Game) (a : Ancestor G.Pos) (n : Node G.Pos) : Type 0 where
  pub mid : Inner G a.node (append a.before (child n none a.after))
  pub before_good : Good G a.before
  pub after_good : Good G a.after

abbrev pub Above : (G : Game) → G.Pos → List (Ancestor G.Pos) → Node G.Pos → Type 0
Above G r [] n = n.pos ≡ r
Above G r (a ∷ up) n = AncestorOk G a n × Above G r up a.node

-- Nodes that may yet be made: below an unexpanded one all that N leaves. Inner nodes: expanded and unsolved
unfoldable pub room_at : (G : Game) → Node G.Pos → ℕ → ℕ
room_at G n below = cond n.expanded below (extra G n.pos)

unfoldable pub inner_at : {Pos : Type 0} → Node Pos → ℕ → ℕ
inner_at n below = cond (solved n) 0 (cond n.expanded (suc below) 0)

unfoldable pub tally_above : {Pos : Type 0} → (Node Pos → ℕ → ℕ) → List (Ancestor Pos) → ℕ
tally_above f [] = 0
tally_above f (a ∷ up) = tally f a.before + tally f a.after + tally_above f up

unfoldable pub size_above : {Pos : Type 0} → List (Ancestor Pos) → ℕ
size_above [] = 0
size_above (a ∷ up) = suc (size a.before + size a.after + size_above up)

-- Of the whole tree, seen from the node n with the children ks: its nodes, those that may yet be made, and its inner nodes
abbrev pub Sizes : Type 0
Sizes = record { nodes : ℕ; room : ℕ; inner : ℕ }

unfoldable pub sizes : (G : Game) → List (Ancestor G.Pos) → Node G.Pos → Children G.Pos → Sizes
sizes G up n ks = record {
  nodes = suc (size ks + size_above up);
  room = room_at G n (tally (room_at G) ks) + tally_above (room_at G) up;
  inner = inner_at n (tally inner_at ks) + (length up + tally_above inner_at up);
}

abbrev pub sizes_of : (G : Game) → State G.Pos → Sizes
sizes_of G s = sizes G s.above s.node s.below

-- The tree seen from an unsolved node
pub record AtUnsolved (G : Game) (r : G.Pos) (s : State G.Pos) : Type 0 where
  pub ok : NodeOk G s.node s.below
  pub good : Good G s.below
  pub above : Above G r s.above s.node
  pub phi_pos : 0 < s.node.phi
  pub delta_pos : 0 < s.node.delta

-- The child at a place is there and unsolved
abbrev pub UnsolvedAt : {Pos : Type 0} → Children Pos → ℕ → Type 0
UnsolvedAt none i = ⊥
UnsolvedAt (child n b ks) zero = (0 < n.phi) × (0 < n.delta)
UnsolvedAt (child n b ks) (suc i) = UnsolvedAt ks i
