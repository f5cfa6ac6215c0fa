-- No sum that a search takes in step 5 is held, if its pool is within the range and at most 127 moves are left at its root: no sum, and no number in its tree,
-- is more than INFINITY and 16777216 for each move left. Rests on Reached.
use Rattle.std.specs.Prelude.{◌≡◌, Bool, not, cond, eqb}
use Rattle.std.proofs.Math.Path.{refl, ap}
use mathlib.Core.List.{List, [], ◌∷◌, Memᴰ}
use Rattle.std.proofs.Math.Bool.{true, false, beq}
use Prim.Native.Nat.{ℕ, zero, suc, ◌+◌, ◌*◌, ◌-◌, ◌≤◌, ◌<◌}
use native.Mathlib.Omega.{arith}
use borrow.Author.Tests.{eqb-false, ltb-false}
use Rattle.machine.specs.Game.{Game}
use Rattle.machine.specs.Tree.{INFINITY, u32_max, Node, bound, leaf, solved, proof_of, disproof_of, Children, none, child, size, least_delta, sum_phi, append}
use Rattle.machine.specs.Machine.{Settings, Counts, live, Ancestor, State, root, tree_of, tree, start, Policy, result, ends, search}
use Rattle.machine.specs.Machine.{into, down, descend, to_leaf, short, make, children, opened, expand, renumber, unchanged, store, climb, round}
use Rattle.machine.proofs.Value.{Lawful}
use Rattle.machine.specs.Numbers.{HasMove, ByMoves, NodeOk, open_leaf, inner, won, lost, Good, open_at, open_leaves, tally}
use Rattle.machine.proofs.Numbers.{unsolved, open_size}
use Rattle.machine.proofs.Numbers.{Nums, nwon, nlost, nopen, bounded, numbers}
use Rattle.machine.specs.Place.{pool_max, Sizes, sizes}
use Rattle.machine.proofs.Place.{sizes_up, Sane}
use Rattle.machine.specs.Climb.{Climbing}
use Rattle.machine.proofs.Climb.{stored_size, climb_stay, climb_root, climb_next, climb_up}
use Rattle.machine.specs.Rounds.{StateOk}
use Rattle.machine.proofs.Rounds.{expand_ok, found_leaf, leaf_state}
use Rattle.machine.proofs.Reached.{In, here, beneath, further, Reached, begin, descended, climbed, ends_reached, tree_root, PoolInRange, reached_ok, reached_node, reached_numbers}

-- The most that a number or a sum is at a position
abbrev pub most_at : (G : Game) → G.Pos → ℕ
most_at G p = INFINITY + G.left p * pool_max

-- Each sum that a climb takes is below the largest number, so that it is not held
abbrev pub Unheld : (G : Game) → List (Ancestor G.Pos) → Counts → Node G.Pos → Children G.Pos → Type 0
Unheld G [] c n ks = sum_phi ks < u32_max
Unheld G (a ∷ up) c n ks =
    let t = store G c up n ks in
    (sum_phi ks < u32_max) × (unchanged G n ks ≡ false → Unheld G up t.counts a.node (append a.before (child t.node t.below a.after)))

-- A node in the tree of a search of r: no more moves are left than at r, and the number beside a 0 is no more than it may be
record Capped (G : Game) (r : G.Pos) (n : Node G.Pos) : Type 0 where
  pub left : G.left n.pos ≤ G.left r
  pub if_won : n.phi ≡ 0 → n.delta ≤ most_at G n.pos
  pub if_lost : n.delta ≡ 0 → n.phi ≤ most_at G n.pos

-- All nodes of a list and below, all above with their other children, and a whole tree
abbrev AllCapped : (G : Game) → G.Pos → Children G.Pos → Type 0
AllCapped G r none = Unit {0}
AllCapped G r (child n b ks) = Capped G r n × AllCapped G r b × AllCapped G r ks

abbrev CappedAbove : (G : Game) → G.Pos → List (Ancestor G.Pos) → Type 0
CappedAbove G r [] = Unit {0}
CappedAbove G r (a ∷ up) = Capped G r a.node × AllCapped G r a.before × AllCapped G r a.after × CappedAbove G r up

record TreeCapped (G : Game) (r : G.Pos) (up : List (Ancestor G.Pos)) (n : Node G.Pos) (ks : Children G.Pos) : Type 0 where
  pub node : Capped G r n
  pub below : AllCapped G r ks
  pub above : CappedAbove G r up

abbrev StateCapped : (G : Game) → G.Pos → State G.Pos → Type 0
StateCapped G r s = TreeCapped G r s.above s.node s.below

-- At most one child is lost for its mover
abbrev OneLost : {Pos : Type 0} → Children Pos → Type 0
OneLost none = Unit {0}
OneLost (child n b ks) = (n.delta ≡ 0 → 0 < least_delta ks) × OneLost ks

-- Where none is: so it is, and stays if one of them changes
one_lost : {Pos : Type 0} (ks : Children Pos) → 0 < least_delta ks → OneLost ks
unfolding least_delta
one_lost none l = tt
one_lost (child n b ks) l = (λ z. absurd (omega arith), one_lost ks (omega arith))

one_lost_at : {Pos : Type 0} (c : Children Pos) (n n' : Node Pos) (b b' a : Children Pos) → 0 < least_delta (append a (child n b c)) → OneLost (append a (child n' b' c))
unfolding least_delta append
one_lost_at c n n' b b' none l = (λ z. omega arith, one_lost c (omega arith))
one_lost_at c n n' b b' (child x y a) l = (λ z. absurd (omega arith), one_lost_at c n n' b b' a (omega arith))

bound_most : (w : Bool) (ms : List ℕ) → bound w ms ≤ INFINITY
unfolding bound
bound_most true [] = omega arith
bound_most false [] = omega arith
bound_most w (m ∷ ms) = omega arith

module _ (G : Game) (L : Lawful G) (r : G.Pos) where
  capped_append : (a ks : Children G.Pos) → AllCapped G r a → AllCapped G r ks → AllCapped G r (append a ks)
  unfolding append
  capped_append none ks c d = d
  capped_append (child x y a) ks c d = (c.0, c.1, capped_append a ks c.2 d)

  leaf_capped : (p : G.Pos) (m : ℕ) → G.left p ≤ G.left r → Capped G r (leaf G p m)
  unfolding leaf
  leaf_capped p m l =
      let w = beq (G.final p) (G.mine p) in
      record { left = l; if_won = λ z. omega (arith, bound_most (not w) (G.moves p)); if_lost = λ z. omega (arith, bound_most w (G.moves p)) }

  -- Step 4 ends after the first child that is lost for its mover
  make_capped : (p : G.Pos) (ms : List ℕ) (ks : Children G.Pos) → G.left p ≤ G.left r → ((m : ℕ) → Memᴰ m ms → Memᴰ m (G.moves p))
      → AllCapped G r ks → 0 < least_delta ks → AllCapped G r (make G p ms ks) × OneLost (make G p ms ks)
  unfolding make least_delta leaf
  make_capped p [] ks l i c o = (c, one_lost ks o)
  make_capped p (m ∷ ms) ks l i c o = go (eqb new.delta 0) refl (λ z. make_capped p ms (child new none ks) l (λ x j. i x (Memᴰ.tail j)) (k, tt, c) (omega arith))
    where
      new : Node G.Pos
      new = leaf G (G.play p m) m

      k : Capped G r new
      k = leaf_capped (G.play p m) m (omega (arith, L.falls p m (i m (Memᴰ.head refl))))

      go : (t : Bool) → eqb new.delta 0 ≡ t → (0 < new.delta → AllCapped G r (make G p ms (child new none ks)) × OneLost (make G p ms (child new none ks)))
          → AllCapped G r (make G p (m ∷ ms) ks) × OneLost (make G p (m ∷ ms) ks)
      go true e f = rw (e, make) ((k, tt, c), (λ z. o, one_lost ks o))
      go false e f = rw (e, make) (f (omega (arith, eqb-false new.delta 0 e)))

  child_most : (p : G.Pos) (n : Node G.Pos) → Memᴰ n.move (G.moves p) → n.pos ≡ G.play p n.move → most_at G n.pos + pool_max ≤ most_at G p
  child_most p n i e = omega (arith, L.falls p n.move i, ap G.left e)

  -- The sum at a node: at most one child's phi is infinite, and the others count open leaves
  sum_most : (p : G.Pos) (ks : Children G.Pos) → Good G ks → ByMoves G p ks → AllCapped G r ks → OneLost ks → sum_phi ks + pool_max ≤ most_at G p + size ks
  unfolding sum_phi size tally
  sum_most p none g i c o = omega arith
  sum_most p (child n b ks) g i c o = go (numbers G n b g.0 g.1) (sum_most p ks g.2 i.2 c.2 o.1)
    where
      go : Nums (open_at n (open_leaves b)) n → sum_phi ks + pool_max ≤ most_at G p + size ks → n.phi + sum_phi ks + pool_max ≤ most_at G p + suc (size b + size ks)
      go (nwon e d) h = omega arith
      go (nlost e d) h = omega (arith, c.0.if_lost e, child_most p n i.0 i.1, (bounded G ks g.2 (o.0 e)).0, open_size ks)
      go (nopen x x' d d') h = omega (arith, open_size (child n b none))

  -- The least child delta where all children are won for their mover
  least_most : (p : G.Pos) (m : ℕ) (ks : Children G.Pos) → HasMove m ks → ByMoves G p ks → AllCapped G r ks → sum_phi ks ≡ 0 → least_delta ks ≤ most_at G p
  unfolding sum_phi least_delta
  least_most p m none h i c z = absurd h
  least_most p m (child n b ks) h i c z = omega (arith, c.0.if_won (omega arith), child_most p n i.0 i.1)

  -- Where a climb stands: what Climbing says, a tree that fits a pool and is capped, and at most one child lost for its mover
  record ClimbingCapped (up : List (Ancestor G.Pos)) (n : Node G.Pos) (ks : Children G.Pos) : Type 0 where
    pub climbing : Climbing G r up n ks
    pub small : (sizes G up n ks).nodes ≤ pool_max
    pub capped : TreeCapped G r up n ks
    pub one : OneLost ks

  module _ (up : List (Ancestor G.Pos)) (n : Node G.Pos) (ks : Children G.Pos) (h : ClimbingCapped up n ks) where
    sum_here : sum_phi ks ≤ most_at G n.pos
    unfolding sizes
    sum_here = omega (arith, sum_most n.pos ks h.climbing.good h.climbing.by_moves h.capped.below h.one, h.small)

    unheld_here : G.left r ≤ 127 → sum_phi ks < u32_max
    unheld_here l = omega (arith, sum_here, h.capped.node.left)

    renumbered : Capped G r (renumber G n ks)
    unfolding renumber
    renumbered = record { left = h.capped.node.left; if_won = λ z. omega (arith, sum_here); if_lost = λ z. go (least_delta ks) refl (omega arith) }
      where
        c : Climbing G r up n ks
        c = h.climbing

        go : (x : ℕ) → least_delta ks ≡ x → sum_phi ks ≡ 0 → least_delta ks ≤ most_at G n.pos
        go zero e z = omega arith
        go (suc x) e z = least_most n.pos c.some ks (c.all_moves (omega arith) c.some c.legal) c.by_moves h.capped.below z

    kept : (t : Bool) → AllCapped G r (cond t none ks)
    kept true = tt
    kept false = h.capped.below

  climb_higher : (a : Ancestor G.Pos) (up : List (Ancestor G.Pos)) (c : Counts) (n : Node G.Pos) (ks : Children G.Pos) → ClimbingCapped (a ∷ up) n ks
      → ClimbingCapped up a.node (append a.before (child (store G c up n ks).node (store G c up n ks).below a.after))
  unfolding store
  climb_higher a up c n ks h =
      let t = store G c up n ks in
      let m = h.climbing.above.0.mid in
      let u = h.capped.above in
      let same = sizes_up G a up t.node t.below m.opened (unsolved a.node m.phi_pos m.delta_pos) in
      record {
        climbing = climb_up G L r a up c n ks h.climbing;
        small = omega (arith, ap (λ (z : Sizes). z.nodes) same, stored_size G L r c (a ∷ up) n ks, h.small);
        capped = record {
          node = u.0;
          below = capped_append a.before _ u.1 (renumbered (a ∷ up) n ks h, kept (a ∷ up) n ks h (solved (renumber G n ks)), u.2);
          above = u.3;
        };
        one = one_lost_at a.after n t.node none t.below a.before (omega (arith, m.phi_pos, m.phi_is));
      }

  -- Step 5 takes no sum that is held, and leaves the tree capped
  climb_capped : (up : List (Ancestor G.Pos)) (c : Counts) (n : Node G.Pos) (ks : Children G.Pos) → ClimbingCapped up n ks
      → StateCapped G r (climb G up c n ks) × (G.left r ≤ 127 → Unheld G up c n ks)
  unfolding store
  climb_capped [] c n ks h = (go (unchanged G n ks) refl, unheld_here [] n ks h)
    where
      go : (b : Bool) → unchanged G n ks ≡ b → StateCapped G r (climb G [] c n ks)
      go true e = rw (climb_stay G c n ks [] e) h.capped
      go false e = rw (climb_root G c n ks e) (record { node = renumbered [] n ks h; below = kept [] n ks h (solved (renumber G n ks)); above = tt })
  climb_capped (a ∷ up) c n ks h = let f = climb_capped up _ _ _ (climb_higher a up c n ks h) in (go (unchanged G n ks) refl f.0, λ l. (unheld_here (a ∷ up) n ks h l, λ e. f.1 l))
    where
      t : State G.Pos
      t = store G c up n ks

      go : (b : Bool) → unchanged G n ks ≡ b → StateCapped G r (climb G up t.counts a.node (append a.before (child t.node t.below a.after)))
          → StateCapped G r (climb G (a ∷ up) c n ks)
      go true e f = rw (climb_stay G c n ks (a ∷ up) e) h.capped
      go false e f = rw (climb_next G c n ks a up e) f

  -- Step 2 takes nothing away
  into_capped : (c : Counts) (up : List (Ancestor G.Pos)) (n : Node G.Pos) (a ks : Children G.Pos) (i : ℕ)
      → Capped G r n → AllCapped G r a → AllCapped G r ks → CappedAbove G r up → StateCapped G r (into c up n a ks i)
  unfolding into
  into_capped c up n a none i k x y u = record { node = k; below = x; above = u }
  into_capped c up n a (child m b ks) zero k x y u = record { node = y.0; below = y.1; above = (record { left = k.left; if_won = k.if_won; if_lost = k.if_lost }, x, y.2, u) }
  into_capped c up n a (child m b ks) (suc i) k x y u = into_capped c up n (append a (child m b none)) ks i k (capped_append a (child m b none) x (y.0, y.1, tt)) y.2 u

  descend_capped : (P : Policy G) (k : ℕ) (s : State G.Pos) → StateCapped G r s → StateCapped G r (descend G P k s)
  unfolding descend down
  descend_capped P zero s h = h
  descend_capped P (suc k) s h =
      go s.node.expanded (descend_capped P k (down G P s) (into_capped s.counts s.above s.node none s.below _ h.node tt h.below h.above))
    where
      go : (b : Bool) → StateCapped G r (descend G P k (down G P s)) → StateCapped G r (elim b [ true ↦ descend G P k (down G P s) | false ↦ s ])
      go true f = f
      go false f = h

  tree_capped : (up : List (Ancestor G.Pos)) (n : Node G.Pos) (ks : Children G.Pos) → TreeCapped G r up n ks → AllCapped G r (tree_of up n ks)
  unfolding tree_of
  tree_capped [] n ks h = (h.node, h.below, tt)
  tree_capped (a ∷ up) n ks h =
      let u = h.above in
      tree_capped up a.node _ (record { node = u.0; below = capped_append a.before _ u.1 (h.node, h.below, u.2); above = u.3 })

  in_capped : {n : Node G.Pos} {b : Children G.Pos} (ks : Children G.Pos) → In n b ks → AllCapped G r ks → Capped G r n
  in_capped {n = n} {b = b} none x'' h = elim x'' [ ]
  in_capped (child m c ks) here h = h.0
  in_capped (child m c ks) (beneath i) h = in_capped c i h.1
  in_capped (child m c ks) (further i) h = in_capped ks i h.2

module _ (G : Game) (L : Lawful G) (P : Policy G) (Q : Sane G P) (S : Settings) (in_range : PoolInRange S) (p : G.Pos) where
  -- Where step 5 begins
  expand_capped : (s : State G.Pos) → StateOk G p S.pool s → StateCapped G p (to_leaf G P s) → solved (root s) ≡ false → short G P S (to_leaf G P s) ≡ false
      → let t = expand G (to_leaf G P s) in ClimbingCapped G L p t.above t.node t.below
  unfolding short live expand opened children sizes least_delta
  expand_capped s h k e t =
      let l = found_leaf G L P Q p S in_range.most s h e in
      let u = to_leaf G P s in
      let b = leaf_state G L P Q p S in_range.most s h e in
      let m = make_capped G L p u.node.pos (G.moves u.node.pos) none k.node.left (λ x i. i) tt (omega arith) in
      let free = ltb-false (S.pool - (u.counts.allocated - u.counts.freed)) (P.need u.node.pos) t in
      record {
        climbing = expand_ok G L p u l.rest l.shut;
        small = omega (arith, b.counts_fit.live, b.fits, Q.covers u.node.pos, in_range.most);
        capped = record { node = record { left = k.node.left; if_won = k.node.if_won; if_lost = k.node.if_lost }; below = m.0; above = k.above };
        one = m.1;
      }

  leaf_state_capped : (s : State G.Pos) → StateCapped G p s → StateCapped G p (to_leaf G P s)
  unfolding to_leaf
  leaf_state_capped s h = descend_capped G L p P (G.left s.node.pos) s h

  reached_capped : (s : State G.Pos) → Reached G P S p s → StateCapped G p s
  unfolding start round
  reached_capped s begin = record { node = leaf_capped G L p p 255 (omega arith); below = tt; above = tt }
  reached_capped s (descended {s = t} h e) = leaf_state_capped t (reached_capped t h)
  reached_capped s (climbed {s = t} h e q) =
      (climb_capped G L p _ _ _ _ (expand_capped t (reached_ok G L P Q S in_range p t h) (leaf_state_capped t (reached_capped t h)) e q)).0

  -- THEOREM: no sum is held
  pub reached_unheld : G.left p ≤ 127 → (s : State G.Pos) → Reached G P S p s → solved (root s) ≡ false → short G P S (to_leaf G P s) ≡ false
      → let t = expand G (to_leaf G P s) in Unheld G t.above t.counts t.node t.below
  reached_unheld l s h e q = (climb_capped G L p _ _ _ _ (expand_capped s (reached_ok G L P Q S in_range p s h) (leaf_state_capped s (reached_capped s h)) e q)).1 l

  -- THEOREM: the numbers of every node
  pub reached_most : (s : State G.Pos) → Reached G P S p s → (n : Node G.Pos) (b : Children G.Pos) → In n b (tree s) → (n.phi ≤ most_at G p) × (n.delta ≤ most_at G p)
  unfolding tree
  reached_most s h n b i = go (reached_node G L P Q S in_range p s h n b i).0 (in_capped G L p _ i (tree_capped G L p s.above s.node s.below (reached_capped s h)))
    where
      go : NodeOk G n b → Capped G p n → (n.phi ≤ most_at G p) × (n.delta ≤ most_at G p)
      go (open_leaf o) c = (omega (arith, o.phi_is), omega (arith, o.delta_is))
      go (inner j) c =
          let k = reached_numbers G L P Q S in_range p s h n b i (unsolved n j.phi_pos j.delta_pos) in
          (omega (arith, k.phi_small j.opened), omega (arith, k.delta_small j.opened))
      go (won q z y v) c = (omega arith, omega (arith, c.if_won z, c.left))
      go (lost q z y v) c = (omega (arith, c.if_lost z, c.left), omega arith)

  -- And so of a search's result
  pub result_most : ((search G P S p).proof ≤ most_at G p) × ((search G P S p).disproof ≤ most_at G p)
  unfolding search result root tree proof_of disproof_of
  result_most = let s = (ends G P S p).0 in let t = tree_root s in go (G.mine (root s).pos) (reached_most s (ends_reached G P S p) (root s) t.0 (rw t.1 here))
    where
      go : (t : Bool) {x y : ℕ} → (x ≤ most_at G p) × (y ≤ most_at G p) → (cond t x y ≤ most_at G p) × (cond t y x ≤ most_at G p)
      go true h = h
      go false h = (h.1, h.0)
