-- Laws of specs/Numbers.antt. What holds of a node of the machine's tree with its children, and what follows for its numbers and its value. Rests on Tree and Value.
use Rattle.std.specs.Prelude.{◌≡◌, ◌⊎◌, Bool, cond}
use Rattle.std.proofs.Math.Path.{refl, ap}
use Rattle.std.proofs.Common.{sym, ◌∙◌, inl, inr, true≢false}
use mathlib.Core.List.{List, [], ◌∷◌, Memᴰ}
use Rattle.std.proofs.Math.Bool.{true, false, not, beq, not-not}
use Prim.Native.Nat.{ℕ, zero, suc, ◌+◌, ◌≤◌, ◌<◌, min}
use native.Mathlib.Omega.{arith}
use Rattle.std.proofs.Math.Dec.{eqb-suc-zero}
use Rattle.machine.specs.Game.{Game, value}
use Rattle.machine.specs.Tree.{tally, open_at, open_leaves}
use Rattle.machine.specs.Tree.{INFINITY, Node, bound, leaf, solved, Children, none, child, size, least_delta, sum_phi}
use Rattle.machine.proofs.Value.{Lawful, value_final, value_some}
use Rattle.machine.specs.Numbers.{HasMove, ByMoves, OpenLeaf, Inner, NodeOk, inner, lost, open_leaf, won, Good}

module _ (G : Game) (n : Node G.Pos) (b : Children G.Pos) (k : NodeOk G n b) (p : 0 < n.phi) (d : 0 < n.delta) where
  pub inner_of : n.expanded ≡ true → Inner G n b
  inner_of e = go k
    where
      go : NodeOk G n b → Inner G n b
      go (open_leaf o) = absurd (true≢false (sym e ∙ o.closed))
      go (inner i) = i
      go (won q z y v) = absurd (omega arith)
      go (lost q z y v) = absurd (omega arith)

  pub leaf_of : n.expanded ≡ false → OpenLeaf G n b
  leaf_of e = go k
    where
      go : NodeOk G n b → OpenLeaf G n b
      go (open_leaf o) = o
      go (inner i) = absurd (true≢false (sym i.opened ∙ e))
      go (won q z y v) = absurd (omega arith)
      go (lost q z y v) = absurd (omega arith)

-- What the test for solved says
pub data Solved {Pos : Type 0} (n : Node Pos) : Type 0 where
  yes : solved n ≡ true → (n.phi ≡ 0) ⊎ (n.delta ≡ 0) → Solved n
  no : solved n ≡ false → 0 < n.phi → 0 < n.delta → Solved n

pub is_solved : {Pos : Type 0} (n : Node Pos) → Solved n
unfolding solved
is_solved n = go n.phi n.delta refl refl
  where
    go : (x y : ℕ) → n.phi ≡ x → n.delta ≡ y → Solved n
    go zero y e d = yes (rw e) (inl e)
    go (suc x) zero e d = yes (rw (e, d, eqb-suc-zero x)) (inr d)
    go (suc x) (suc y) e d = no (rw (e, d, eqb-suc-zero x, eqb-suc-zero y)) (omega arith) (omega arith)

pub unsolved : {Pos : Type 0} (n : Node Pos) → 0 < n.phi → 0 < n.delta → solved n ≡ false
unsolved n a b = go (is_solved n)
  where
    go : Solved n → solved n ≡ false
    go (yes e (inl z)) = absurd (omega arith)
    go (yes e (inr z)) = absurd (omega arith)
    go (no e x y) = e

pub open_of : {Pos : Type 0} (n : Node Pos) → solved n ≡ false → (0 < n.phi) × (0 < n.delta)
open_of n e = go (is_solved n)
  where
    go : Solved n → (0 < n.phi) × (0 < n.delta)
    go (yes q z) = absurd (let y : ◌≡◌ {A = ℕ} 0 1 = cc in omega arith)
    go (no q x y) = (x, y)

pub zero_solved : {Pos : Type 0} (n : Node Pos) → (n.phi ≡ 0) ⊎ (n.delta ≡ 0) → solved n ≡ true
zero_solved n z = go (is_solved n) z
  where
    go : Solved n → (n.phi ≡ 0) ⊎ (n.delta ≡ 0) → solved n ≡ true
    go (yes e w) q = e
    go (no e a b) (inl q) = absurd (omega arith)
    go (no e a b) (inr q) = absurd (omega arith)

open_at_leaf : {Pos : Type 0} (n : Node Pos) (below : ℕ) → solved n ≡ false → n.expanded ≡ false → open_at n below ≡ 1
unfolding open_at
open_at_leaf n below e x = ap (λ (b : Bool). cond b 0 (cond n.expanded below 1)) e ∙ ap (λ (b : Bool). cond b below 1) x

pub open_at_inner : {Pos : Type 0} (n : Node Pos) (below : ℕ) → solved n ≡ false → n.expanded ≡ true → open_at n below ≡ below
unfolding open_at
open_at_inner n below e x = ap (λ (b : Bool). cond b 0 (cond n.expanded below 1)) e ∙ ap (λ (b : Bool). cond b below 1) x

pub open_size : {Pos : Type 0} (ks : Children Pos) → open_leaves ks ≤ size ks
unfolding tally size open_at
open_size none = omega arith
open_size (child n b ks) = go (solved n) n.expanded (open_size b) (open_size ks)
  where
    go : (s x : Bool) → open_leaves b ≤ size b → open_leaves ks ≤ size ks → cond s 0 (cond x (open_leaves b) 1) + open_leaves ks ≤ suc (size b + size ks)
    go true x h i = omega arith
    go false true h i = omega arith
    go false false h i = omega arith

-- The numbers of a node that stands above k open leaves: a 0 beside INFINITY or more, or both from 1 to k
pub data Nums {Pos : Type 0} (k : ℕ) (n : Node Pos) : Type 0 where
  nwon : n.phi ≡ 0 → INFINITY ≤ n.delta → Nums k n
  nlost : n.delta ≡ 0 → INFINITY ≤ n.phi → Nums k n
  nopen : 0 < n.phi → n.phi ≤ k → 0 < n.delta → n.delta ≤ k → Nums k n

-- The same of a list in which no child is lost for its mover
abbrev pub Bounded : {Pos : Type 0} → Children Pos → Type 0
Bounded ks = 0 < least_delta ks → (sum_phi ks ≤ open_leaves ks) × (0 < sum_phi ks → least_delta ks ≤ open_leaves ks)

module _ (G : Game) where
  node_nums : (n : Node G.Pos) (b : Children G.Pos) → NodeOk G n b → Bounded b → Nums (open_at n (open_leaves b)) n
  node_nums n b (open_leaf o) h =
      let q = open_at_leaf n (open_leaves b) (unsolved n (omega (arith, o.phi_is)) (omega (arith, o.delta_is))) o.closed in
      nopen (omega (arith, o.phi_is)) (omega (arith, o.phi_is)) (omega (arith, o.delta_is)) (omega (arith, o.delta_is))
  node_nums n b (inner i) h =
      let q = open_at_inner n (open_leaves b) (unsolved n i.phi_pos i.delta_pos) i.opened in
      let least : 0 < least_delta b = omega (arith, i.phi_pos, i.phi_is) in
      let sum : 0 < sum_phi b = omega (arith, i.delta_pos, i.delta_is) in
      nopen i.phi_pos (omega (arith, i.phi_is, (h least).1 sum)) i.delta_pos (omega (arith, i.delta_is, (h least).0))
  node_nums n b (won e p d v) h = nwon p d
  node_nums n b (lost e d p v) h = nlost d p

  bounded_child : (n : Node G.Pos) (b ks : Children G.Pos) → Nums (open_at n (open_leaves b)) n → Bounded ks → Bounded (child n b ks)
  unfolding tally least_delta sum_phi
  bounded_child n b ks (nwon e d) h = λ l.
      let hk = h (omega arith) in
      (omega (arith, hk.0), λ s. omega (arith, hk.1 (omega arith)))
  bounded_child n b ks (nlost e d) h = λ l. absurd (omega arith)
  bounded_child n b ks (nopen p p' d d') h = λ l.
      let hk = h (omega arith) in
      (omega (arith, hk.0), λ s. omega arith)

  pub bounded : (ks : Children G.Pos) → Good G ks → Bounded ks
  unfolding tally least_delta sum_phi
  bounded none g = λ l. (omega arith, λ s. absurd (omega arith))
  bounded (child n b ks) g = bounded_child n b ks (node_nums n b g.0 (bounded b g.1)) (bounded ks g.2)

  pub numbers : (n : Node G.Pos) (b : Children G.Pos) → NodeOk G n b → Good G b → Nums (open_at n (open_leaves b)) n
  numbers n b k g = node_nums n b k (bounded b g)

beq_true : (a b : Bool) → beq a b ≡ true → a ≡ b
beq_true true true e = refl
beq_true true false e = cc
beq_true false true e = cc
beq_true false false e = refl

beq_false : (a b : Bool) → beq a b ≡ false → a ≡ not b
beq_false true true e = cc
beq_false true false e = refl
beq_false false true e = refl
beq_false false false e = cc

module _ (G : Game) (L : Lawful G) where
  -- A new node is as it should be
  pub leaf_good : (p : G.Pos) (m : ℕ) → NodeOk G (leaf G p m) none
  unfolding leaf bound
  leaf_good p m = go (beq (G.final p) (G.mine p)) (G.moves p) refl refl
    where
      go : (w : Bool) (ms : List ℕ) → beq (G.final p) (G.mine p) ≡ w → G.moves p ≡ ms
          → NodeOk G (record { pos = p; phi = bound w ms; delta = bound (not w) ms; move = m; expanded = false; remembered = 255 }) none
      go true [] e q = won refl refl (omega arith) (value_final G L p q ∙ beq_true _ _ e)
      go false [] e q = lost refl refl (omega arith) (value_final G L p q ∙ beq_false _ _ e)
      go w (x ∷ xs) e q = open_leaf (record { closed = refl; bare = refl; phi_is = refl; delta_is = refl; some = x; legal = rw q (Memᴰ.head refl) })

  -- A number that is 0 tells the value
  pub sound : (n : Node G.Pos) (b : Children G.Pos) → NodeOk G n b
      → (n.phi ≡ 0 → value G n.pos ≡ G.mine n.pos) × (n.delta ≡ 0 → value G n.pos ≡ not (G.mine n.pos))
  sound n b (open_leaf o) = (λ z. absurd (omega (arith, o.phi_is)), λ z. absurd (omega (arith, o.delta_is)))
  sound n b (inner i) = (λ z. absurd (omega (arith, i.phi_pos)), λ z. absurd (omega (arith, i.delta_pos)))
  sound n b (won e p d v) = (λ z. v, λ z. absurd (omega arith))
  sound n b (lost e d p v) = (λ z. absurd (omega arith), λ z. v)

  -- A child lost for its mover: the node is won
  pub some_zero : (p : G.Pos) (ks : Children G.Pos) → Good G ks → ByMoves G p ks → least_delta ks ≡ 0 → (INFINITY ≤ sum_phi ks) × (value G p ≡ G.mine p)
  unfolding least_delta sum_phi
  some_zero p none g i e = absurd (omega arith)
  some_zero p (child n b ks) g i e = go (numbers G n b g.0 g.1) (λ z. some_zero p ks g.2 i.2 z)
    where
      up : n.delta ≡ 0 → value G p ≡ G.mine p
      up z = value_some G L p n.move i.0
          (ap (value G) (sym i.1) ∙ (sound n b g.0).1 z ∙ ap not (ap G.mine i.1 ∙ L.turns p n.move i.0) ∙ not-not (G.mine p))

      go : Nums (open_at n (open_leaves b)) n → (least_delta ks ≡ 0 → (INFINITY ≤ sum_phi ks) × (value G p ≡ G.mine p)) → (INFINITY ≤ n.phi + sum_phi ks) × (value G p ≡ G.mine p)
      go (nlost q d) h = (omega arith, up q)
      go (nwon q d) h = let r = h (omega arith) in (omega (arith, r.0), r.1)
      go (nopen q q' d d') h = let r = h (omega arith) in (omega (arith, r.0), r.1)

  -- All children won for their mover: so is each position that they show, and the node's phi is INFINITY or more
  pub all_zero : (p : G.Pos) (ks : Children G.Pos) → Good G ks → ByMoves G p ks → sum_phi ks ≡ 0
      → (INFINITY ≤ least_delta ks) × ((m : ℕ) → HasMove m ks → value G (G.play p m) ≡ not (G.mine p))
  unfolding least_delta sum_phi
  all_zero p none g i e = (omega arith, λ m h. absurd h)
  all_zero p (child n b ks) g i e = let r = all_zero p ks g.2 i.2 (omega arith) in (least (numbers G n b g.0 g.1) r.0, each r.1)
    where
      least : Nums (open_at n (open_leaves b)) n → INFINITY ≤ least_delta ks → INFINITY ≤ min n.delta (least_delta ks)
      least (nwon q d) h = omega arith
      least (nlost q d) h = absurd (omega arith)
      least (nopen q q' d d') h = absurd (omega arith)

      each : ((m : ℕ) → HasMove m ks → value G (G.play p m) ≡ not (G.mine p)) → (m : ℕ) → HasMove m (child n b ks) → value G (G.play p m) ≡ not (G.mine p)
      each h m (inl q) = ap (λ (x : ℕ). value G (G.play p x)) q ∙ ap (value G) (sym i.1) ∙ (sound n b g.0).0 (omega arith) ∙ ap G.mine i.1 ∙ L.turns p n.move i.0
      each h m (inr q) = h m q
