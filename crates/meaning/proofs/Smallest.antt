-- The numbers of an unsolved root are the sizes of the smallest sets, of any tree whose nodes are right. By induction over the tree: a node has one number towards True and one towards
-- False, and of a list of children the least delta counts where one child is enough, the sum of the phis where all are needed. Rests on Lines, Sets and Verdicts, and on Numbers
-- and Place of the machine.
use Rattle.std.specs.Prelude.{◌≡◌, ◌⊎◌, Bool, not, cond, ◌||◌, ℕ, ◌+◌, ◌≤◌, ◌<◌, min, eqb, leb, length}
use Rattle.std.proofs.Math.Path.{refl, ap, subst}
use Rattle.std.proofs.Common.{sym, ◌∙◌, inl, inr, true≢false, arith}
use mathlib.Core.List.{List, [], ◌∷◌, map, Memᴰ}
use Rattle.std.proofs.Math.Bool.{true, false, or-true, not-not}
use borrow.Author.Tests.{leb-true, leb-false, eq-eqb, ne_eqb}
use Rattle.rules.specs.Rules.{any, all, keep}
use Rattle.rules.proofs.Tests.{both_true, one_true, from_keep}
use Rattle.machine.specs.Game.{Game}
use Rattle.machine.specs.Tree.{INFINITY, u32_max, Node, solved, Children, none, child, size, least_delta, sum_phi}
use Rattle.machine.specs.Machine.{Verdict}
use Rattle.machine.specs.Value.{Distinct}
use Rattle.machine.proofs.Value.{Lawful}
use Rattle.machine.specs.Numbers.{HasMove, ByMoves, NoMoveTwice, Inner, NodeOk, open_leaf, inner, won, lost, Good}
use Rattle.machine.proofs.Numbers.{unsolved, zero_solved, open_of}
use Rattle.machine.specs.Numbers.{tally, open_at, open_leaves}
use Rattle.machine.proofs.Numbers.{open_size, Nums, nwon, nlost, nopen, numbers, bounded}
use Rattle.machine.specs.Place.{pool_max}
use Rattle.meaning.specs.Meaning.{Line, lines_at, lines_in, open_lines, is_in, from_children, verdicts_in, root_verdict, Smallest}
use Rattle.meaning.proofs.Sets.{keep_append, keep_map, keep_same, keep_none, keep_distinct, as_test, no_fewer_than}
use Rattle.meaning.proofs.Lines.{lines_inner, lines_leaf, starts_with, distinct_at, distinct_in}
use Rattle.meaning.proofs.Verdicts.{verdict_for, comes_to, comes_itself, comes_is, one_enough, one_needed, all_enough, all_needed, same_or_not}
use Rattle.meaning.proofs.Verdicts.{towards, towards_own, towards_other, phi_or_delta}
use Rattle.meaning.proofs.Verdicts.{verdict_zero, zero_verdict, verdict_solved, verdict_below, verdicts, verdict_inner, verdict_leaf, leaf_taken, same_at, same_in}

-- A set as a test of lines
abbrev Test : Type 0
Test = Line → Bool

abbrev onward : Test → ℕ → Test  -- after a move
onward test m l = test (m ∷ l)

abbrev nothing : Test
nothing l = false

-- After the move m as g says, after any other as h says; the empty line is not taken
joined : ℕ → Test → Test → Test
joined m g h [] = false
joined m g h (k ∷ l) = cond (eqb k m) (g l) (h (k ∷ l))

joined_on : (m : ℕ) (g h : Test) → onward (joined m g h) m ≡ g
unfolding joined
joined_on m g h = λ i l. at l i
  where
    at : (l : Line) → cond (eqb m m) (g l) (h (m ∷ l)) ≡ g l
    at l = rw (eq-eqb m m refl)

module _ {Pos : Type 0} where
  joined_off : (m : ℕ) (g h : Test) (ks : Children Pos) → (HasMove m ks → ⊥) → (l : Line) → Memᴰ l (lines_in ks) → joined m g h l ≡ h l
  unfolding joined
  joined_off m g h ks a l i =
      let b = starts_with ks l i in
      subst (λ (r : Line). joined m g h r ≡ h r) b.is (rw (ne_eqb b.move m (λ e. a (subst (λ (k : ℕ). HasMove k ks) e b.has))))

  -- How many open leaves pass a test: at a node and below it, and in a list of children
  abbrev count_at : Test → Node Pos → Children Pos → ℕ
  count_at test n b = length (keep test (lines_at n (lines_in b)))

  abbrev count_in : Test → Children Pos → ℕ
  count_in test ks = length (keep test (lines_in ks))

  count_child : (test : Test) (n : Node Pos) (b ks : Children Pos) → count_in test (child n b ks) ≡ count_at (onward test n.move) n b + count_in test ks
  unfolding lines_in
  count_child test n b ks =
      omega (arith, keep_append test (map (λ (l : Line). n.move ∷ l) (lines_at n (lines_in b))) (lines_in ks), keep_map test (λ (l : Line). n.move ∷ l) (lines_at n (lines_in b)))

  count_joined : (g h : Test) (n : Node Pos) (b ks : Children Pos) → (HasMove n.move ks → ⊥) → count_in (joined n.move g h) (child n b ks) ≡ count_at g n b + count_in h ks
  count_joined g h n b ks a =
      let M = joined n.move g h in
      count_child M n b ks ∙ cc (ap (λ (test : Test). count_at test n b) (joined_on n.move g h), ap (length {A = Line}) (keep_same M h (lines_in ks) (joined_off n.move g h ks a)))

module _ (G : Game) (t : Bool) where
  verdicts_joined : (g h : Test) (n : Node G.Pos) (b ks : Children G.Pos) → (HasMove n.move ks → ⊥)
      → verdicts G t (joined n.move g h) (child n b ks) ≡ verdict_below G t g n b ∷ verdicts G t h ks
  unfolding verdicts_in
  verdicts_joined g h n b ks a =
      cc (ap (λ (test : Test). verdict_below G t test n b) (joined_on n.move g h), same_in G (verdict_for t) (joined n.move g h) h ks (joined_off n.move g h ks a))

  -- OF A NODE: no set that makes it t has fewer members than its number towards t says, and a number below INFINITY is reached
  record NodeGot (n : Node G.Pos) (b : Children G.Pos) : Type 0 where
    test : Test
    makes : verdict_below G t test n b ≡ verdict_for t
    as_many : count_at test n b ≡ towards G t n

  record NodeLeast (n : Node G.Pos) (b : Children G.Pos) : Type 0 where
    lower : (test : Test) → verdict_below G t test n b ≡ verdict_for t → towards G t n ≤ count_at test n b
    reached : towards G t n < INFINITY → NodeGot n b

  -- OF A LIST: the least delta where one child is enough, the sum of the phis where all are needed
  record Got (ask : (Verdict → Bool) → List Verdict → Bool) (ks : Children G.Pos) (k : ℕ) : Type 0 where
    test : Test
    makes : ask (comes_to t) (verdicts G t test ks) ≡ true
    as_many : count_in test ks ≡ k

  -- the side to move at each child
  abbrev Sided : Bool → Children G.Pos → Type 0
  Sided mine none = Unit {0}
  Sided mine (child n b ks) = (G.mine n.pos ≡ mine) × Sided mine ks

  record ListLeast (ks : Children G.Pos) : Type 0 where
    some_lower : Sided (not t) ks → (test : Test) → any (comes_to t) (verdicts G t test ks) ≡ true → least_delta ks ≤ count_in test ks
    some_reached : Sided (not t) ks → least_delta ks < INFINITY → Got any ks (least_delta ks)
    all_lower : Sided t ks → (test : Test) → all (comes_to t) (verdicts G t test ks) ≡ true → sum_phi ks ≤ count_in test ks
    all_reached : Sided t ks → sum_phi ks < INFINITY → Got all ks (sum_phi ks)

  solved_least : (n : Node G.Pos) (b : Children G.Pos) → solved n ≡ true → ((n.phi ≡ 0) × (INFINITY ≤ n.delta)) ⊎ ((n.delta ≡ 0) × (INFINITY ≤ n.phi)) → NodeLeast n b
  solved_least n b e h = record {
    lower = λ test q. omega (arith, verdict_zero G t n (sym (verdict_solved G (verdict_for t) test n _ e) ∙ q));
    reached = λ l.
        let v = zero_verdict G t n h l in
        record {
          test = nothing;
          makes = verdict_solved G (verdict_for t) nothing n _ e ∙ v;
          as_many = keep_none (lines_at n (lines_in b)) ∙ sym (verdict_zero G t n v);
        };
  }

  leaf_towards : (n : Node G.Pos) → n.phi ≡ 1 → n.delta ≡ 1 → towards G t n ≡ 1
  leaf_towards n p d = go (phi_or_delta G t n)
    where
      go : (towards G t n ≡ n.phi) ⊎ (towards G t n ≡ n.delta) → towards G t n ≡ 1
      go (inl e) = e ∙ p
      go (inr e) = e ∙ d

  -- An open leaf is taken or not
  leaf_least : (n : Node G.Pos) (b : Children G.Pos) → solved n ≡ false → n.expanded ≡ false → n.phi ≡ 1 → n.delta ≡ 1 → NodeLeast n b
  leaf_least n b e x p d = record {
    lower = λ test q. omega (arith, leaf_towards n p d, one test (leaf_taken t (test []) (sym (verdict_leaf G (verdict_for t) test n _ e x) ∙ q)));
    reached = λ l. record {
      test = λ l. true;
      makes = verdict_leaf G (verdict_for t) (λ l. true) n _ e x;
      as_many = one (λ l. true) refl ∙ sym (leaf_towards n p d);
    };
  }
    where
      one : (test : Test) → test [] ≡ true → count_at test n b ≡ 1
      one test q = ap (λ (ls : List Line). length (keep test ls)) (lines_leaf n (lines_in b) e x) ∙ rw q

  -- An expanded unsolved node, from its list of children
  inner_least : (L : Lawful G) (n : Node G.Pos) (b : Children G.Pos) → Inner G n b → sum_phi b ≤ u32_max → ListLeast b → NodeLeast n b
  inner_least L n b i small m = go (same_or_not (G.mine n.pos) t)
    where
      e : solved n ≡ false
      e = unsolved n i.phi_pos i.delta_pos

      sided : (ks : Children G.Pos) → ByMoves G n.pos ks → Sided (not (G.mine n.pos)) ks
      sided none h = tt
      sided (child k c ks) h = (ap G.mine h.1 ∙ L.turns n.pos k.move h.0, sided ks h.2)

      from_list : (ask : (Verdict → Bool) → List Verdict → Bool) (k : ℕ) → towards G t n ≡ k
          → ((vs : List Verdict) → from_children (G.mine n.pos) vs ≡ verdict_for t → ask (comes_to t) vs ≡ true)
          → ((vs : List Verdict) → ask (comes_to t) vs ≡ true → from_children (G.mine n.pos) vs ≡ verdict_for t)
          → ((test : Test) → ask (comes_to t) (verdicts G t test b) ≡ true → k ≤ count_in test b) → (k < INFINITY → Got ask b k) → NodeLeast n b
      from_list ask k q needed enough lo re = record {
        lower = λ test h. omega (arith, lo test (needed _ (sym (verdict_inner G (verdict_for t) test n _ e i.opened) ∙ h)), count test);
        reached = λ l.
            let g = re (omega arith) in
            record { test = g.test; makes = verdict_inner G (verdict_for t) g.test n _ e i.opened ∙ enough _ g.makes; as_many = count g.test ∙ g.as_many ∙ sym q };
      }
        where
          count : (test : Test) → count_at test n b ≡ count_in test b
          count test = ap (λ (ls : List Line). length (keep test ls)) (lines_inner n (lines_in b) e i.opened)

      own : G.mine n.pos ≡ t → NodeLeast n b
      own s =
          let d : Sided (not t) b = subst (λ (u : Bool). Sided (not u) b) s (sided b i.by_moves) in
          from_list any (least_delta b) (towards_own G t n s ∙ i.phi_is) (λ vs h. one_needed t vs (subst (λ (u : Bool). from_children u vs ≡ verdict_for t) s h))
          (λ vs h. subst (λ (u : Bool). from_children u vs ≡ verdict_for t) (sym s) (one_enough t vs h)) (m.some_lower d) (m.some_reached d)

      other : G.mine n.pos ≡ not t → NodeLeast n b
      other s =
          let d : Sided t b = subst (λ (u : Bool). Sided u b) (ap not s ∙ not-not t) (sided b i.by_moves) in
          from_list all (sum_phi b) (towards_other G t n s ∙ i.delta_is ∙ omega arith) (λ vs h. all_needed t vs (subst (λ (u : Bool). from_children u vs ≡ verdict_for t) s h))
          (λ vs h. subst (λ (u : Bool). from_children u vs ≡ verdict_for t) (sym s) (all_enough t vs h)) (m.all_lower d) (m.all_reached d)

      go : (G.mine n.pos ≡ t) ⊎ (G.mine n.pos ≡ not t) → NodeLeast n b
      go (inl s) = own s
      go (inr s) = other s

  -- Where one child is enough, the first of a list or one of the rest reaches it, by which has less
  some_got : (n : Node G.Pos) (b ks : Children G.Pos) → (HasMove n.move ks → ⊥) → NodeLeast n b → ListLeast ks
      → Sided (not t) (child n b ks) → min n.delta (least_delta ks) < INFINITY → (u : Bool) → leb n.delta (least_delta ks) ≡ u
      → Got any (child n b ks) (min n.delta (least_delta ks))
  unfolding verdicts_in least_delta
  some_got n b ks a m r d l true e =
      let q = leb-true n.delta (least_delta ks) e in
      let g = m.reached (omega (arith, towards_other G t n d.0)) in
      record {
        test = joined n.move g.test nothing;
        makes = ap (any (comes_to t)) (verdicts_joined g.test nothing n b ks a) ∙ rw (g.makes, comes_itself t);
        as_many = omega (arith, count_joined g.test nothing n b ks a, g.as_many, keep_none (lines_in ks), towards_other G t n d.0);
      }
  some_got n b ks a m r d l false e =
      let q = leb-false n.delta (least_delta ks) e in
      let h = r.some_reached d.1 (omega arith) in
      record {
        test = joined n.move nothing h.test;
        makes = ap (any (comes_to t)) (verdicts_joined nothing h.test n b ks a)
            ∙ ap (λ (w : Bool). comes_to t (verdict_below G t nothing n b) || w) h.makes
            ∙ or-true (comes_to t (verdict_below G t nothing n b));
        as_many = omega (arith, count_joined nothing h.test n b ks a, h.as_many, keep_none (lines_at n (lines_in b)));
      }

  -- The first of a list, and the rest
  child_least : (n : Node G.Pos) (b ks : Children G.Pos) → (HasMove n.move ks → ⊥) → NodeLeast n b → ListLeast ks → ListLeast (child n b ks)
  unfolding verdicts_in least_delta sum_phi
  child_least n b ks a m r = record {
    some_lower = λ d test h. some_low d test (one_true (comes_to t (first test)) (any (comes_to t) (verdicts G t test ks)) h);
    some_reached = λ d l. some_got n b ks a m r d l (leb n.delta (least_delta ks)) refl;
    all_lower = λ d test h.
        let q = both_true (comes_to t (first test)) (all (comes_to t) (verdicts G t test ks)) h in
        omega (arith, m.lower (onward test n.move) (comes_is t _ q.0), towards_own G t n d.0, r.all_lower d.1 test q.1, count_child test n b ks);
    all_reached = λ d l.
        let g = m.reached (omega (arith, towards_own G t n d.0)) in
        let h = r.all_reached d.1 (omega arith) in
        record {
          test = joined n.move g.test h.test;
          makes = ap (all (comes_to t)) (verdicts_joined g.test h.test n b ks a) ∙ rw (g.makes, comes_itself t, h.makes);
          as_many = omega (arith, count_joined g.test h.test n b ks a, g.as_many, h.as_many, towards_own G t n d.0);
        };
  }
    where
      first : Test → Verdict
      first test = verdict_below G t (onward test n.move) n b

      some_low : Sided (not t) (child n b ks) → (test : Test) → (comes_to t (first test) ≡ true) ⊎ (any (comes_to t) (verdicts G t test ks) ≡ true)
          → min n.delta (least_delta ks) ≤ count_in test (child n b ks)
      some_low d test (inl e) = omega (arith, m.lower (onward test n.move) (comes_is t _ e), towards_other G t n d.0, count_child test n b ks)
      some_low d test (inr e) = omega (arith, r.some_lower d.1 test e, count_child test n b ks)

module _ (G : Game) (L : Lawful G) (t : Bool) where
  node_least : (n : Node G.Pos) (b : Children G.Pos) → NodeOk G n b → Good G b → size b ≤ pool_max → (NoMoveTwice b → ListLeast G t b) → NodeLeast G t n b
  node_least n b (open_leaf o) g z f = leaf_least G t n b (unsolved n (omega (arith, o.phi_is)) (omega (arith, o.delta_is))) o.closed o.phi_is o.delta_is
  node_least n b (inner i) g z f =
      inner_least G t L n b i (omega (arith, (bounded G b g (omega (arith, i.phi_pos, i.phi_is))).0, open_size b)) (f i.no_move_twice)
  node_least n b (won e p d v) g z f = solved_least G t n b (zero_solved n (inl p)) (inl (p, d))
  node_least n b (lost e d p v) g z f = solved_least G t n b (zero_solved n (inr d)) (inr (d, p))

  list_least : (ks : Children G.Pos) → Good G ks → NoMoveTwice ks → size ks ≤ pool_max → ListLeast G t ks
  unfolding size least_delta sum_phi verdicts_in lines_in
  list_least none g a z = record {
    some_lower = λ d test h. absurd (true≢false (sym h));
    some_reached = λ d l. absurd (omega arith);
    all_lower = λ d test h. omega arith;
    all_reached = λ d l. record { test = nothing; makes = refl; as_many = refl };
  }
  list_least (child n b ks) g a z =
      child_least G t n b ks a.0 (node_least n b g.0 g.1 (omega arith) (λ w. list_least b g.1 w (omega arith))) (list_least ks g.2 a.1 (omega arith))

  -- A tree whose root is not solved
  pub tree_least : (n : Node G.Pos) (b : Children G.Pos) → NodeOk G n b → Good G b → size b < pool_max → solved n ≡ false → Smallest G (verdict_for t) (child n b none) (towards G t n)
  unfolding root_verdict open_lines size tally
  tree_least n b k g z e =
      let m = node_least n b k g (omega arith) (λ a. list_least b g a (omega arith)) in
      let h = m.reached (below_infinity (numbers G n b k g) (open_of n e)) in
      let set = keep h.test lines in
      record {
        set = set;
        settles = record {
          each_open = λ l i. (from_keep h.test lines l i).0;
          none_twice = keep_distinct h.test lines distinct;
          makes = same h.test ∙ h.makes;
        };
        size_is = h.as_many;
        no_fewer = λ other s. omega (arith, m.lower (is_in other) s.makes, no_fewer_than other lines distinct);
      }
    where
      lines : List Line
      lines = lines_at n (lines_in b)

      distinct : Distinct lines
      distinct = distinct_at G n b k (distinct_in G b g)

      same : (test : Test) → verdict_below G t (is_in (keep test lines)) n b ≡ verdict_below G t test n b
      same test = same_at G (verdict_for t) _ test n (lines_in b) _ _ (λ l i. as_test test lines l i) (λ f. same_in G (verdict_for t) _ test b f)

      below_infinity : Nums (open_at n (open_leaves b)) n → (0 < n.phi) × (0 < n.delta) → towards G t n < INFINITY
      below_infinity (nwon p d) u = absurd (omega (arith, u.0))
      below_infinity (nlost d p) u = absurd (omega (arith, u.1))
      below_infinity (nopen p p' d d') u = go (phi_or_delta G t n)
        where
          go : (towards G t n ≡ n.phi) ⊎ (towards G t n ≡ n.delta) → towards G t n < INFINITY
          go (inl q) = omega (arith, open_size (child n b none))
          go (inr q) = omega (arith, open_size (child n b none))
