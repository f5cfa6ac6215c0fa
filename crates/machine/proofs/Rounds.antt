-- Laws of specs/Rounds.antt. Step 4, and the whole round: what holds between rounds holds at the start and is kept. Rests on Descent and Climb.
use Rattle.std.specs.Prelude.{◌≡◌, ◌⊎◌, Bool}
use Rattle.std.proofs.Math.Path.{refl, ap}
use Rattle.std.proofs.Common.{sym, ◌∙◌}
use Rattle.std.proofs.Math.Logic.{inl, inr}
use mathlib.Core.List.Memᴰ
use mathlib.Core.List.{List, [], ◌∷◌, map, foldr, Memᴰ}
use Rattle.std.proofs.Math.Bool.{true, false, cond}
use Prim.Native.Nat.{ℕ, suc, ◌+◌, ◌-◌, ◌≤◌, ◌<◌}
use native.Mathlib.Omega.{arith}
use Rattle.std.proofs.Math.Dec.{eqb}
use Rattle.std.proofs.Math.ListN.{length}
use borrow.Author.Tests.{eqb-true, ltb-false}
use Rattle.machine.specs.Game.{Game, sequences}
use Rattle.machine.specs.Tree.{Node, leaf, solved, Children, none, child, size, least_delta}
use Rattle.machine.specs.Machine.{Settings, Counts, live, Ancestor, State, root_of, root, start, Policy, to_leaf, short, make, children, opened, expand, round}
use Rattle.machine.specs.Value.{Distinct, extra}
use Rattle.machine.proofs.Value.{Lawful, sequences_step}
use Rattle.machine.specs.Numbers.{HasMove, ByMoves, NoMoveTwice, Good, tally}
use Rattle.machine.proofs.Numbers.{leaf_of, unsolved, open_of, leaf_good}
use Rattle.machine.specs.Place.{pool_max, room_at, inner_at, tally_above, size_above, sizes, sizes_of, AtUnsolved}
use Rattle.machine.proofs.Place.{above_same, inner_inner, Sane}
use Rattle.machine.proofs.Descent.{Found, leaf_ok}
use Rattle.machine.specs.Climb.{Climbing, UnsolvedOrRoot, TreeOk, CountsFit}
use Rattle.machine.proofs.Climb.{climb_ok}
use Rattle.machine.specs.Rounds.{StateOk}

-- Step 4 at p, where the moves ms are still to come and the children ks are made: the invariant of a loop that makes them
pub record Making (G : Game) (p : G.Pos) (ms : List ℕ) (ks : Children G.Pos) : Type 0 where
  pub legal : (m : ℕ) → Memᴰ m ms → Memᴰ m (G.moves p)
  pub good : Good G ks
  pub by_moves : ByMoves G p ks
  pub all_moves : 0 < least_delta ks → (m : ℕ) → Memᴰ m (G.moves p) → Memᴰ m ms ⊎ HasMove m ks
  pub no_move_twice : NoMoveTwice ks
  pub still_to_come : (m : ℕ) → Memᴰ m ms → HasMove m ks → ⊥
  pub distinct : Distinct ms
  pub most : size ks + length ms ≤ length (G.moves p)
  pub least : 0 < length (G.moves p) → 0 < size ks + length ms
  pub room : size ks + tally (room_at G) ks + foldr ◌+◌ 0 (map (λ m. sequences G (G.play p m)) ms) ≤ extra G p
  pub leaves : tally inner_at ks ≡ 0

inner_leaf : {Pos : Type 0} (n : Node Pos) (below : ℕ) → n.expanded ≡ false → inner_at n below ≡ 0
unfolding inner_at
inner_leaf n below e = ap (λ (b : Bool). cond (solved n) 0 (cond b (suc below) 0)) e ∙ go (solved n)
  where
    go : (b : Bool) → cond {A = ℕ} b 0 0 ≡ 0
    go true = refl
    go false = refl

module _ (G : Game) (L : Lawful G) (p : G.Pos) where
  pub making_start : Making G p (G.moves p) none
  unfolding size tally extra
  making_start = record {
    legal = λ m i. i;
    good = tt;
    by_moves = tt;
    all_moves = λ l m i. inl i;
    no_move_twice = tt;
    still_to_come = λ m i h. h;
    distinct = L.distinct p;
    most = omega arith;
    least = λ h. omega arith;
    room = omega arith;
    leaves = refl;
  }

  pub making_more : (m : ℕ) (ms : List ℕ) (ks : Children G.Pos) → Making G p (m ∷ ms) ks → Making G p ms (child (leaf G (G.play p m) m) none ks)
  unfolding size tally least_delta leaf room_at
  making_more m ms ks h = record {
    legal = λ x i. h.legal x (Memᴰ.tail i);
    good = (leaf_good G L (G.play p m) m, tt, h.good);
    by_moves = (h.legal m (Memᴰ.head refl), refl, h.by_moves);
    all_moves = λ l x i. pass x (h.all_moves (omega (arith, l)) x i);
    no_move_twice = (h.still_to_come m (Memᴰ.head refl), h.no_move_twice);
    still_to_come = λ x i w. other x i w;
    distinct = h.distinct.1;
    most = omega (arith, h.most);
    least = λ l. omega arith;
    room = omega (arith, h.room, sequences_step G L (G.play p m));
    leaves = omega (arith, h.leaves, inner_leaf (leaf G (G.play p m) m) 0 refl);
  }
    where
      pass : (x : ℕ) → Memᴰ x (m ∷ ms) ⊎ HasMove x ks → Memᴰ x ms ⊎ HasMove x (child (leaf G (G.play p m) m) none ks)
      pass x (inl (Memᴰ.head e)) = inr (inl e)
      pass x (inl (Memᴰ.tail j)) = inl j
      pass x (inr j) = inr (inr j)

      other : (x : ℕ) → Memᴰ x ms → HasMove x (child (leaf G (G.play p m) m) none ks) → ⊥
      other x i (inl e) = h.distinct.0 (Memᴰ.cast (sym e) i)
      other x i (inr j) = h.still_to_come x (Memᴰ.tail i) j

  -- The early end: none is missing that could matter
  pub making_stop : (ms : List ℕ) (ks : Children G.Pos) → least_delta ks ≡ 0 → Making G p ms ks → Making G p [] ks
  unfolding least_delta size
  making_stop ms ks z h = record {
    legal = λ m i. absurd (Memᴰ.not-nil i);
    good = h.good;
    by_moves = h.by_moves;
    all_moves = λ l. absurd (omega arith);
    no_move_twice = h.no_move_twice;
    still_to_come = λ m i. absurd (Memᴰ.not-nil i);
    distinct = tt;
    most = omega (arith, h.most);
    least = λ l. some ks z;
    room = omega (arith, h.room);
    leaves = h.leaves;
  }
    where
      some : (ks : Children G.Pos) → least_delta ks ≡ 0 → 0 < size ks + 0
      some none q = absurd (omega arith)
      some (child n b k) q = omega arith

  -- One child at a time: the laws of a loop that does step 4
  pub make_last : (m : ℕ) (ms : List ℕ) (ks : Children G.Pos) → eqb (leaf G (G.play p m) m).delta 0 ≡ true → make G p (m ∷ ms) ks ≡ child (leaf G (G.play p m) m) none ks
  unfolding make
  make_last m ms ks e = rw (e, make)

  pub make_next : (m : ℕ) (ms : List ℕ) (ks : Children G.Pos) → eqb (leaf G (G.play p m) m).delta 0 ≡ false → make G p (m ∷ ms) ks ≡ make G p ms (child (leaf G (G.play p m) m) none ks)
  unfolding make
  make_next m ms ks e = rw (e, make)

  pub made_ok : (ms : List ℕ) (ks : Children G.Pos) → Making G p ms ks → Making G p [] (make G p ms ks)
  unfolding make least_delta
  made_ok [] ks h = h
  made_ok (m ∷ ms) ks h = go (eqb (leaf G (G.play p m) m).delta 0) refl (made_ok ms _ (making_more m ms ks h))
    where
      go : (t : Bool) → eqb (leaf G (G.play p m) m).delta 0 ≡ t → Making G p [] (make G p ms (child (leaf G (G.play p m) m) none ks)) → Making G p [] (make G p (m ∷ ms) ks)
      go true e f = rw (make_last m ms ks e) (making_stop ms (child (leaf G (G.play p m) m) none ks) (omega (arith, eqb-true (leaf G (G.play p m) m).delta 0 e)) (making_more m ms ks h))
      go false e f = rw (make_next m ms ks e) f

  pub children_ok : Making G p [] (children G p)
  unfolding children
  children_ok = made_ok (G.moves p) none making_start

module _ (G : Game) (L : Lawful G) (r : G.Pos) (s : State G.Pos) (h : AtUnsolved G r s) (e : s.node.expanded ≡ false) where
  -- Step 4 leads to step 5
  pub expand_ok : Climbing G r (expand G s).above (expand G s).node (expand G s).below
  unfolding expand opened
  expand_ok =
      let o = leaf_of G s.node s.below h.ok h.phi_pos h.delta_pos e in
      let k = children_ok G L s.node.pos in
      record {
        opened = refl;
        good = k.good;
        by_moves = k.by_moves;
        all_moves = λ l m i. there m (k.all_moves l m i);
        no_move_twice = k.no_move_twice;
        some = o.some;
        legal = o.legal;
        above = above_same G r s.above s.node (opened G s.node) (record { alike = record { pos = refl; move = refl }; phi = refl; delta = refl }) h.above;
        phi_pos = h.phi_pos;
        delta_pos = h.delta_pos;
      }
    where
      there : (m : ℕ) → Memᴰ m [] ⊎ HasMove m (children G s.node.pos) → HasMove m (children G s.node.pos)
      there m (inl i) = absurd (Memᴰ.not-nil i)
      there m (inr i) = i

  pub expand_counts : (N : ℕ) → CountsFit N s.counts (sizes_of G s) → CountsFit N (expand G s).counts (sizes_of G (expand G s))
  unfolding expand opened sizes size room_at tally
  expand_counts N b =
      let o = leaf_of G s.node s.below h.ok h.phi_pos h.delta_pos e in
      let k = children_ok G L s.node.pos in
      let some : 0 < size (children G s.node.pos) = omega (arith, k.least (has_moves (G.moves s.node.pos) o.some o.legal)) in
      let bare : size s.below ≡ 0 = ap size o.bare in
      let room = ap (λ (t : Bool). cond t (tally (room_at G) s.below) (extra G s.node.pos)) e in
      let inner = inner_inner (opened G s.node) (tally inner_at (children G s.node.pos)) (unsolved (opened G s.node) h.phi_pos h.delta_pos) refl in
      record {
        live = omega (arith, b.live);
        roomy = omega (arith, b.roomy, k.room);
        spent = omega (arith, b.spent);
        solved_once = omega (arith, b.solved_once, k.leaves);
      }
    where
      has_moves : (ms : List ℕ) (m : ℕ) → Memᴰ m ms → 0 < length ms
      has_moves [] m i = absurd (Memᴰ.not-nil i)
      has_moves (x ∷ xs) m i = omega arith

pub start_ok : (G : Game) (L : Lawful G) (r : G.Pos) (pool : ℕ) → 1 ≤ pool → StateOk G r pool (start G r)
unfolding start leaf sizes size size_above room_at tally tally_above
start_ok G L r pool h = record {
  tree_ok = record { ok = leaf_good G L r 255; good = tt; above = refl; unsolved_or_root = tt };
  counts_fit = record { live = omega arith; roomy = omega (arith, sequences_step G L r); spent = omega arith; solved_once = omega (arith, inner_leaf (leaf G r 255) 0 refl) };
  fits = omega arith;
}

-- With the root unsolved, the current node is
pub at_unsolved : (G : Game) (r : G.Pos) (s : State G.Pos) → TreeOk G r s → solved (root s) ≡ false → AtUnsolved G r s
unfolding root root_of
at_unsolved G r s h e = let w = go s.above h.unsolved_or_root e in record { ok = h.ok; good = h.good; above = h.above; phi_pos = w.0; delta_pos = w.1 }
  where
    go : (up : List (Ancestor G.Pos)) → UnsolvedOrRoot up s.node → solved (root_of up s.node) ≡ false → (0 < s.node.phi) × (0 < s.node.delta)
    go [] a e = open_of s.node e
    go (x ∷ up) a e = a

module _ (G : Game) (L : Lawful G) (P : Policy G) (Q : Sane G P) (r : G.Pos) (S : Settings) (small : S.pool ≤ pool_max)
    (s : State G.Pos) (h : StateOk G r S.pool s) (e : solved (root s) ≡ false) where
  pub found_leaf : Found G r s (to_leaf G P s)
  found_leaf = leaf_ok G L P Q r s (at_unsolved G r s h.tree_ok e) (omega (arith, h.fits))

  pub leaf_state : StateOk G r S.pool (to_leaf G P s)
  leaf_state =
      let l = found_leaf in
      record {
        tree_ok = record { ok = l.rest.ok; good = l.rest.good; above = l.rest.above; unsolved_or_root = go (to_leaf G P s).above l.rest };
        counts_fit = rw (l.sizes_same, l.counts_same) h.counts_fit;
        fits = rw l.sizes_same h.fits;
      }
    where
      go : (up : List (Ancestor G.Pos)) → AtUnsolved G r (to_leaf G P s) → UnsolvedOrRoot up (to_leaf G P s).node
      go [] w = tt
      go (a ∷ up) w = (w.phi_pos, w.delta_pos)

  pub round_ok : short G P S (to_leaf G P s) ≡ false → StateOk G r S.pool (round G P s) × ((round G P s).counts.expanded ≡ suc s.counts.expanded)
  unfolding round short live expand sizes
  round_ok t =
      let l = found_leaf in
      let u = to_leaf G P s in
      let x = expand G u in
      let b = leaf_state.counts_fit in
      let k = climb_ok G L r (sequences G r) x.above x.counts x.node x.below (expand_ok G L r u l.rest l.shut) (expand_counts G L r u l.rest l.shut (sequences G r) b) in
      let free = ltb-false (S.pool - (u.counts.allocated - u.counts.freed)) (P.need u.node.pos) t in
      let bare = ap size (leaf_of G u.node u.below l.rest.ok l.rest.phi_pos l.rest.delta_pos l.shut).bare in
      let fits : (sizes_of G (round G P s)).nodes ≤ S.pool = omega (arith, k.no_larger, b.live, leaf_state.fits, Q.covers u.node.pos) in
      (record { tree_ok = k.tree_ok; counts_fit = k.counts_fit; fits = fits }, k.expanded_same ∙ ap (λ (c : Counts). suc c.expanded) l.counts_same)
