-- The nodes of the plain machine's tree, with their numbers (MANUAL, Bounds), and lists of children. Rests on Game.
use Rattle.std.specs.Prelude.{List, [], ◌∷◌, Bool, false, not, ◌||◌, cond, ℕ, suc, ◌+◌, min, eqb}
use Rattle.std.specs.Bool.{beq}
use Rattle.machine.specs.Game.{Game}

abbrev pub INFINITY : ℕ  -- from here upward a number stands for infinity
INFINITY = 2147483648

abbrev pub u32_max : ℕ  -- where sums are held
u32_max = 4294967295

-- What the pool holds of a node, and its position; move is the one that led to it, remembered the one last taken from it (255: none yet)
abbrev pub Node : Type 0 → Type 0
Node Pos = record { pos : Pos; phi : ℕ; delta : ℕ; move : ℕ; expanded : Bool; remembered : ℕ }

-- A leaf that is won for its mover (finished, with the value that the mover wants) is (0, INFINITY), a lost one the reverse, an open one (1, 1)
unfoldable pub bound : Bool → List ℕ → ℕ
bound won [] = cond won 0 INFINITY
bound won (m ∷ ms) = 1

unfoldable pub leaf : (G : Game) → G.Pos → ℕ → Node G.Pos
leaf G p m =
    let won = beq (G.final p) (G.mine p) in
    record { pos = p; phi = bound won (G.moves p); delta = bound (not won) (G.moves p); move = m; expanded = false; remembered = 255 }

unfoldable pub solved : {Pos : Type 0} → Node Pos → Bool  -- a number is 0
solved n = eqb n.phi 0 || eqb n.delta 0

-- At nodes of the root's side phi is proof and delta disproof; at the others the reverse
unfoldable pub proof_of : (G : Game) → Node G.Pos → ℕ
proof_of G n = cond (G.mine n.pos) n.phi n.delta

unfoldable pub disproof_of : (G : Game) → Node G.Pos → ℕ
disproof_of G n = cond (G.mine n.pos) n.delta n.phi

-- A list of children, last made first: a node, the list of its own children, and the rest of the list
pub data Children (Pos : Type 0) : Type 0 where
  none : Children Pos
  child : (n : Node Pos) (below next : Children Pos) → Children Pos

module _ {Pos : Type 0} where
  unfoldable pub size : Children Pos → ℕ  -- the nodes of the list and all below
  size none = 0
  size (child n b ks) = suc (size b + size ks)

  unfoldable pub least_delta : Children Pos → ℕ
  least_delta none = u32_max
  least_delta (child n b ks) = min n.delta (least_delta ks)

  unfoldable pub sum_phi : Children Pos → ℕ
  sum_phi none = 0
  sum_phi (child n b ks) = n.phi + sum_phi ks

  unfoldable pub append : Children Pos → Children Pos → Children Pos  -- the first list, then the second
  append none r = r
  append (child n b ks) r = child n b (append ks r)

-- A node of a list of children, or of all below it, with its own children
pub data In {Pos : Type 0} (n : Node Pos) (b : Children Pos) : Children Pos → Type 0 where
  here : {ks : Children Pos} → In n b (child n b ks)
  beneath : {m : Node Pos} {c ks : Children Pos} → In n b c → In n b (child m c ks)
  further : {m : Node Pos} {c ks : Children Pos} → In n b ks → In n b (child m c ks)

-- Counts over a tree: f of a node and of the count below it
unfoldable pub tally : {Pos : Type 0} → (Node Pos → ℕ → ℕ) → Children Pos → ℕ
tally f none = 0
tally f (child n b ks) = f n (tally f b) + tally f ks

-- How many open leaves there are: neither solved nor expanded
unfoldable pub open_at : {Pos : Type 0} → Node Pos → ℕ → ℕ
open_at n below = cond (solved n) 0 (cond n.expanded below 1)

abbrev pub open_leaves : {Pos : Type 0} → Children Pos → ℕ
open_leaves ks = tally open_at ks
