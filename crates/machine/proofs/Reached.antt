-- Every state that the machine reaches, for any game with the stated laws and any sane policy: its tree is right, its counts fit, its numbers are small. Rests on Rounds and Runs.
use Rattle.std.specs.Prelude.{◌≡◌, refl, List, [], ◌∷◌, Bool, length}
use Rattle.std.proofs.Math.Path.{ap}
use Rattle.std.proofs.Math.Bool.{true, false, cond}
use Prim.Native.Nat.{ℕ, zero, suc, ◌+◌, ◌≤◌, ◌<◌}
use native.Mathlib.Omega.{arith}
use Rattle.machine.specs.Game.{Game, sequences}
pub use Rattle.machine.specs.Tree.{In, here, beneath, further}
use Rattle.machine.specs.Tree.{Node, solved, Children, none, child, size, least_delta, sum_phi, append}
use Rattle.machine.specs.Machine.{Settings, Counts, Ancestor, State, root_of, root, tree_of, tree, start, Policy, to_leaf, short, round, result, run, ends, search}
use Rattle.machine.proofs.Value.{Lawful}
use Rattle.machine.specs.Numbers.{Inner, NodeOk, inner, Good, open_at, open_leaves}
use Rattle.machine.proofs.Numbers.{inner_of, open_of, open_at_inner, open_size, Nums, nwon, nlost, nopen, numbers}
use Rattle.machine.specs.Place.{pool_max, Above, size_above, sizes}
use Rattle.machine.proofs.Place.{size_append, good_append, inner_swap, Sane}
use Rattle.machine.specs.Descent.{height}
use Rattle.machine.proofs.Descent.{node_height, depth_left}
use Rattle.machine.specs.Rounds.{StateOk}
use Rattle.machine.proofs.Rounds.{start_ok, found_leaf, leaf_state, round_ok}
use Rattle.machine.proofs.Runs.{run_solved, run_short, run_over, run_next, Course, at_end, lacking, stopped, onward, course}

-- The states of a search between its steps: after the start, step 2 and step 5
pub data Reached (G : Game) (P : Policy G) (S : Settings) (p : G.Pos) : State G.Pos → Type 0 where
  begin : Reached G P S p (start G p)
  descended : {s : State G.Pos} → Reached G P S p s → solved (root s) ≡ false → Reached G P S p (to_leaf G P s)
  climbed : {s : State G.Pos} → Reached G P S p s → solved (root s) ≡ false → short G P S (to_leaf G P s) ≡ false → Reached G P S p (round G P s)

-- A search ends in one of them
pub run_reached : (G : Game) (P : Policy G) (S : Settings) (p : G.Pos) (k : ℕ) (s : State G.Pos) → Reached G P S p s → Reached G P S p (run G P S k s).0
unfolding run
run_reached G P S p zero s h = h
run_reached G P S p (suc k) s h = go (course G P S s) (λ w. run_reached G P S p k (round G P s) w)
  where
    go : Course G P S s → (Reached G P S p (round G P s) → Reached G P S p (run G P S k (round G P s)).0) → Reached G P S p (run G P S (suc k) s).0
    go (at_end e) f = rw (run_solved G P S k s e) h
    go (lacking e t) f = rw (run_short G P S k s e t) (descended h e)
    go (stopped e t o) f = rw (run_over G P S k s e t o) (climbed h e t)
    go (onward e t o) f = rw (run_next G P S k s e t o) (f (climbed h e t))

pub ends_reached : (G : Game) (P : Policy G) (S : Settings) (p : G.Pos) → Reached G P S p (ends G P S p).0
unfolding ends
ends_reached G P S p = run_reached G P S p S.budget (start G p) begin

-- A pool within the range
pub record PoolInRange (S : Settings) : Type 0 where
  pub some : 1 ≤ S.pool
  pub most : S.pool ≤ pool_max

-- The whole tree is the root with what is below it; it is right, and has so many nodes
pub tree_root : {Pos : Type 0} (s : State Pos) → (b : Children Pos) × (tree s ≡ child (root s) b none)
unfolding tree root tree_of root_of
tree_root {Pos = Pos} s = go s.above s.node s.below
  where
    go : (up : List (Ancestor Pos)) (n : Node Pos) (ks : Children Pos) → (b : Children Pos) × (tree_of up n ks ≡ child (root_of up n) b none)
    go [] n ks = (ks, refl)
    go (a ∷ up) n ks = go up a.node (append a.before (child n ks a.after))

pub tree_good : (G : Game) (r : G.Pos) (up : List (Ancestor G.Pos)) (n : Node G.Pos) (ks : Children G.Pos) → NodeOk G n ks → Good G ks → Above G r up n → Good G (tree_of up n ks)
unfolding tree_of
tree_good G r [] n ks k g u = (k, g, tt)
tree_good G r (a ∷ up) n ks k g u =
    let m : Inner G a.node (append a.before (child n ks a.after)) =
    inner_swap G a.after n n none ks a.node a.before (record { alike = record { pos = refl; move = refl }; phi = refl; delta = refl }) u.0.mid in
    tree_good G r up a.node _ (inner m) (good_append G a.before _ u.0.before_good (k, g, u.0.after_good)) u.1

pub tree_size : {Pos : Type 0} (up : List (Ancestor Pos)) (n : Node Pos) (ks : Children Pos) → size (tree_of up n ks) ≡ suc (size ks + size_above up)
unfolding tree_of size size_above
tree_size [] n ks = omega arith
tree_size (a ∷ up) n ks = omega (arith, tree_size up a.node (append a.before (child n ks a.after)), size_append a.before (child n ks a.after))

in_good : (G : Game) {n : Node G.Pos} {b : Children G.Pos} (ks : Children G.Pos) → In n b ks → Good G ks → NodeOk G n b × Good G b
in_good G {n = n} {b = b} none x'' g = elim x'' [ ]
in_good G (child m c ks) here g = (g.0, g.1)
in_good G (child m c ks) (beneath i) g = in_good G c i g.1
in_good G (child m c ks) (further i) g = in_good G ks i g.2

in_size : {Pos : Type 0} {n : Node Pos} {b : Children Pos} (ks : Children Pos) → In n b ks → size b < size ks
unfolding size
in_size {Pos = Pos} {n = n} {b = b} none x' = elim x' [ ]
in_size (child m c ks) here = omega arith
in_size (child m c ks) (beneath i) = omega (arith, in_size c i)
in_size (child m c ks) (further i) = omega (arith, in_size ks i)

-- An unsolved node n with the children b: both numbers lie between 1 and the number of open leaves at or below it;
-- if it is expanded they are below the pool's range, phi is the least child delta, and delta the sum of child phis, not held
pub record UnsolvedNode {Pos : Type 0} (n : Node Pos) (b : Children Pos) : Type 0 where
  pub phi_least : 1 ≤ n.phi
  pub phi_most : n.phi ≤ open_at n (open_leaves b)
  pub delta_least : 1 ≤ n.delta
  pub delta_most : n.delta ≤ open_at n (open_leaves b)
  pub phi_small : n.expanded ≡ true → n.phi < pool_max
  pub delta_small : n.expanded ≡ true → n.delta < pool_max
  pub phi_is : n.expanded ≡ true → n.phi ≡ least_delta b
  pub delta_is : n.expanded ≡ true → n.delta ≡ sum_phi b

-- The counts of a state: live is the number of nodes in its tree, and N bounds what is ever allocated
pub record CountsOk (G : Game) (p : G.Pos) (s : State G.Pos) : Type 0 where
  pub live : s.counts.allocated ≡ s.counts.freed + size (tree s)
  pub allocated_most : s.counts.allocated ≤ sequences G p
  pub expanded_most : s.counts.expanded < s.counts.allocated
  pub solved_once : s.counts.proved + s.counts.disproved ≤ s.counts.expanded

unsolved_node : (G : Game) (n : Node G.Pos) (b : Children G.Pos) → NodeOk G n b → Good G b → size b < pool_max → solved n ≡ false → UnsolvedNode n b
unsolved_node G n b k g z e = go (numbers G n b k g) (open_of n e)
  where
    go : Nums (open_at n (open_leaves b)) n → (0 < n.phi) × (0 < n.delta) → UnsolvedNode n b
    go (nwon p d) u = absurd (omega (arith, u.0))
    go (nlost d p) u = absurd (omega (arith, u.1))
    go (nopen p p' d d') u = record {
      phi_least = p;
      phi_most = p';
      delta_least = d;
      delta_most = d';
      phi_small = λ x. omega (arith, open_at_inner n (open_leaves b) e x, open_size b);
      delta_small = λ x. omega (arith, open_at_inner n (open_leaves b) e x, open_size b);
      phi_is = λ x. (inner_of G n b k p d x).phi_is;
      delta_is = λ x. omega (arith, open_at_inner n (open_leaves b) e x, open_size b, (inner_of G n b k p d x).delta_is);
    }

-- Step 1 in terms of expanded: a run ends with no more than n of them, and with n of them where the cause is 1
pub record Spent {Pos : Type 0} (n : ℕ) (e : State Pos × ℕ) : Type 0 where
  pub most : e.0.counts.expanded ≤ n
  pub all : e.1 ≡ 1 → e.0.counts.expanded ≡ n

module _ (G : Game) (L : Lawful G) (P : Policy G) (Q : Sane G P) (S : Settings) (in_range : PoolInRange S) (p : G.Pos) where
  pub reached_ok : (s : State G.Pos) → Reached G P S p s → StateOk G p S.pool s
  reached_ok s begin = start_ok G L p S.pool in_range.some
  reached_ok s (descended {s = t} h e) = leaf_state G L P Q p S in_range.most t (reached_ok t h) e
  reached_ok s (climbed {s = t} h e q) = (round_ok G L P Q p S in_range.most t (reached_ok t h) e q).0

  -- Each node of the tree is right
  pub reached_node : (s : State G.Pos) → Reached G P S p s → (n : Node G.Pos) (b : Children G.Pos) → In n b (tree s) → NodeOk G n b × Good G b
  unfolding tree
  reached_node s h n b i =
      let k = (reached_ok s h).tree_ok in
      in_good G (tree_of s.above s.node s.below) i (tree_good G p s.above s.node s.below k.ok k.good k.above)

  -- THEOREM: the numbers of an unsolved node
  pub reached_numbers : (s : State G.Pos) → Reached G P S p s → (n : Node G.Pos) (b : Children G.Pos) → In n b (tree s) → solved n ≡ false → UnsolvedNode n b
  unfolding tree sizes
  reached_numbers s h n b i e =
      let k = reached_node s h n b i in
      unsolved_node G n b k.0 k.1
      (omega (arith, in_size (tree_of s.above s.node s.below) i, tree_size s.above s.node s.below, (reached_ok s h).fits, in_range.most)) e

  -- THEOREM: the counts. No more nodes are counted as proved or disproved than were expanded: leaves solved on sight are not
  pub reached_counts : (s : State G.Pos) → Reached G P S p s → CountsOk G p s
  unfolding tree sizes
  reached_counts s h =
      let b = (reached_ok s h).counts_fit in
      record {
        live = omega (arith, b.live, tree_size s.above s.node s.below);
        allocated_most = omega (arith, b.roomy);
        expanded_most = b.spent;
        solved_once = omega (arith, b.solved_once);
      }

  -- The nodes above the current one and the height below it are no more than what is left at the root: 82 places are enough where 81 are left
  pub reached_depth : (s : State G.Pos) → Reached G P S p s → length s.above + height s.below ≤ G.left p
  reached_depth s h =
      let k = (reached_ok s h).tree_ok in
      omega (arith, depth_left G L p s.above s.node k.above, node_height G L s.node s.below k.ok k.good)

  run_spent : (k : ℕ) (s : State G.Pos) → StateOk G p S.pool s → Spent (k + s.counts.expanded) (run G P S k s)
  unfolding run
  run_spent zero s h = record { most = omega arith; all = λ c. omega arith }
  run_spent (suc k) s h = go (course G P S s) (λ w. run_spent k (round G P s) w)
    where
      go : Course G P S s → (StateOk G p S.pool (round G P s) → Spent (k + (round G P s).counts.expanded) (run G P S k (round G P s))) → Spent (suc k + s.counts.expanded) (run G P S (suc k) s)
      go (at_end e) f = rw (run_solved G P S k s e) (record { most = omega arith; all = λ c. absurd (omega arith) })
      go (lacking e t) f =
          let l = ap (λ (c : Counts). c.expanded) (found_leaf G L P Q p S in_range.most s h e).counts_same in
          rw (run_short G P S k s e t) (record { most = omega arith; all = λ c. absurd (omega arith) })
      go (stopped e t o) f =
          let n = (round_ok G L P Q p S in_range.most s h e t).1 in
          rw (run_over G P S k s e t o) (record { most = omega arith; all = λ c. absurd (omega arith) })
      go (onward e t o) f =
          let n = round_ok G L P Q p S in_range.most s h e t in
          let q = f n.0 in
          rw (run_next G P S k s e t o) (record { most = omega (arith, q.most, n.1); all = λ c. omega (arith, q.all c, n.1) })

  -- In the result: no more are expanded than the budget, and cause 1 says that expanded equals it
  pub ends_spent : ((search G P S p).expanded ≤ S.budget) × ((search G P S p).cause ≡ 1 → (search G P S p).expanded ≡ S.budget)
  unfolding search ends result start
  ends_spent =
      let q = run_spent S.budget (start G p) (start_ok G L p S.pool in_range.some) in
      (omega (arith, q.most), λ c. omega (arith, q.all (stopped_by (solved (root (ends G P S p).0)) c)))
    where
      stopped_by : (b : Bool) → cond b 0 (ends G P S p).1 ≡ 1 → (ends G P S p).1 ≡ 1
      stopped_by true c = absurd (omega arith)
      stopped_by false c = c
