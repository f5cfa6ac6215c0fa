-- Laws of the three values, for True and False at once: what its children make of a node, what the numbers of a solved one say, and that the verdicts in a tree depend on its open
-- leaves alone. Rests on Meaning, on the rules' laws of tests, and on Runs of the machine.
use Rattle.std.specs.Prelude.{◌≡◌, ◌⊎◌, Bool, not, ℕ, ◌≤◌, ◌<◌}
use Rattle.std.proofs.Math.Path.{refl, ap}
use Rattle.std.proofs.Common.{sym, ◌∙◌, inl, inr, true≢false, arith, ne_eqb}
use mathlib.Core.List.Memᴰ
use mathlib.Core.List.{List, [], ◌∷◌, map, Memᴰ}
use Rattle.std.proofs.Math.Bool.{true, false, cond, not-not}
use Rattle.rules.specs.Rules.{any, all}
use Rattle.rules.proofs.Tests.{both_true}
use Rattle.machine.specs.Game.{Game}
use Rattle.machine.specs.Tree.{INFINITY, Node, solved, proof_of, disproof_of, Children, none, child}
use Rattle.machine.specs.Machine.{Verdict, True, False, Unknown, verdict_of}
use Rattle.machine.proofs.Runs.{Judged, jtrue, jfalse, junknown, judged}
use Rattle.meaning.specs.Meaning.{Line, lines_at, lines_in, is_true, is_false_verdict, from_children, verdict_at, verdicts_in}

-- True or False by a Boolean, and the test for it
abbrev pub verdict_for : Bool → Verdict
verdict_for true = True
verdict_for false = False

abbrev pub comes_to : Bool → Verdict → Bool
comes_to true v = is_true v
comes_to false v = is_false_verdict v

pub comes_itself : (t : Bool) → comes_to t (verdict_for t) ≡ true
unfolding is_true is_false_verdict
comes_itself true = refl
comes_itself false = refl

pub comes_is : (t : Bool) (v : Verdict) → comes_to t v ≡ true → v ≡ verdict_for t
unfolding is_true is_false_verdict
comes_is true True e = refl
comes_is true False e = absurd (true≢false (sym e))
comes_is true Unknown e = absurd (true≢false (sym e))
comes_is false True e = absurd (true≢false (sym e))
comes_is false False e = refl
comes_is false Unknown e = absurd (true≢false (sym e))

other_not : (t : Bool) (v : Verdict) → comes_to t v ≡ true → comes_to (not t) v ≡ false
unfolding is_true is_false_verdict
other_not true v e = ap is_false_verdict (comes_is true v e)
other_not false v e = ap is_true (comes_is false v e)

-- The two are not each other, nor Unknown
other_apart : (t : Bool) → verdict_for (not t) ≡ verdict_for t → ⊥
unfolding is_true is_false_verdict
other_apart t e = true≢false (sym (comes_itself t) ∙ ap (comes_to t) (sym e) ∙ go t)
  where
    go : (u : Bool) → comes_to u (verdict_for (not u)) ≡ false
    go true = refl
    go false = refl

unknown_apart : (t : Bool) → Unknown ≡ verdict_for t → ⊥
unfolding is_true is_false_verdict
unknown_apart t e = true≢false (sym (comes_itself t) ∙ ap (comes_to t) (sym e) ∙ go t)
  where
    go : (u : Bool) → comes_to u Unknown ≡ false
    go true = refl
    go false = refl

none_other : (t : Bool) (vs : List Verdict) → all (comes_to t) vs ≡ true → any (comes_to (not t)) vs ≡ false
none_other t [] e = refl
none_other t (v ∷ vs) e = let h = both_true (comes_to t v) (all (comes_to t) vs) e in rw (other_not t v h.0, none_other t vs h.1)

-- WHAT THE CHILDREN MAKE OF A NODE. Where the side to move wants t, one child that is t is enough and needed; where it does not, all must be t
from_children_is : (t : Bool) (vs : List Verdict) → from_children t vs ≡ cond (any (comes_to t) vs) (verdict_for t) (cond (all (comes_to (not t)) vs) (verdict_for (not t)) Unknown)
unfolding from_children
from_children_is true vs = refl
from_children_is false vs = refl

pub one_enough : (t : Bool) (vs : List Verdict) → any (comes_to t) vs ≡ true → from_children t vs ≡ verdict_for t
one_enough t vs e = from_children_is t vs ∙ rw e

pub one_needed : (t : Bool) (vs : List Verdict) → from_children t vs ≡ verdict_for t → any (comes_to t) vs ≡ true
one_needed t vs e = go (any (comes_to t) vs) (all (comes_to (not t)) vs) (sym (from_children_is t vs) ∙ e)
  where
    go : (s x : Bool) → cond s (verdict_for t) (cond x (verdict_for (not t)) Unknown) ≡ verdict_for t → s ≡ true
    go true x q = refl
    go false true q = absurd (other_apart t q)
    go false false q = absurd (unknown_apart t q)

all_given : (t : Bool) (vs : List Verdict) → from_children (not t) vs ≡ cond (any (comes_to (not t)) vs) (verdict_for (not t)) (cond (all (comes_to t) vs) (verdict_for t) Unknown)
all_given t vs = from_children_is (not t) vs ∙ ap (λ (u : Bool). cond (any (comes_to (not t)) vs) (verdict_for (not t)) (cond (all (comes_to u) vs) (verdict_for u) Unknown)) (not-not t)

pub all_enough : (t : Bool) (vs : List Verdict) → all (comes_to t) vs ≡ true → from_children (not t) vs ≡ verdict_for t
all_enough t vs e = all_given t vs ∙ rw (none_other t vs e, e)

pub all_needed : (t : Bool) (vs : List Verdict) → from_children (not t) vs ≡ verdict_for t → all (comes_to t) vs ≡ true
all_needed t vs e = go (any (comes_to (not t)) vs) (all (comes_to t) vs) (sym (all_given t vs) ∙ e)
  where
    go : (s x : Bool) → cond s (verdict_for (not t)) (cond x (verdict_for t) Unknown) ≡ verdict_for t → x ≡ true
    go true x q = absurd (other_apart t q)
    go false true q = refl
    go false false q = absurd (unknown_apart t q)

pub same_or_not : (a t : Bool) → (a ≡ t) ⊎ (a ≡ not t)
same_or_not true true = inl refl
same_or_not true false = inr refl
same_or_not false true = inr refl
same_or_not false false = inl refl

-- A node's number towards a verdict: proof, or disproof. It is phi where the side to move wants that verdict, and delta where it does not
unfoldable pub towards : (G : Game) → Bool → Node G.Pos → ℕ
towards G t n = cond t (proof_of G n) (disproof_of G n)

module _ (G : Game) (t : Bool) (n : Node G.Pos) where
  by_mover : (m : Bool) → G.mine n.pos ≡ m → towards G t n ≡ cond t (cond m n.phi n.delta) (cond m n.delta n.phi)
  unfolding towards proof_of disproof_of
  by_mover m e = rw e

  pub towards_own : G.mine n.pos ≡ t → towards G t n ≡ n.phi
  towards_own e = by_mover t e ∙ go t
    where
      go : (u : Bool) → cond u (cond u n.phi n.delta) (cond u n.delta n.phi) ≡ n.phi
      go true = refl
      go false = refl

  pub towards_other : G.mine n.pos ≡ not t → towards G t n ≡ n.delta
  towards_other e = by_mover (not t) e ∙ go t
    where
      go : (u : Bool) → cond u (cond (not u) n.phi n.delta) (cond (not u) n.delta n.phi) ≡ n.delta
      go true = refl
      go false = refl

  pub phi_or_delta : (towards G t n ≡ n.phi) ⊎ (towards G t n ≡ n.delta)
  phi_or_delta = go (same_or_not (G.mine n.pos) t)
    where
      go : (G.mine n.pos ≡ t) ⊎ (G.mine n.pos ≡ not t) → (towards G t n ≡ n.phi) ⊎ (towards G t n ≡ n.delta)
      go (inl e) = inl (towards_own e)
      go (inr e) = inr (towards_other e)

  -- THE NUMBERS OF A SOLVED NODE: its verdict is t where its number towards t is 0, and nowhere else
  pub verdict_zero : verdict_of (proof_of G n) (disproof_of G n) ≡ verdict_for t → towards G t n ≡ 0
  unfolding towards
  verdict_zero e = go t e (judged (proof_of G n) (disproof_of G n))
    where
      go : (u : Bool) {w : Verdict} → w ≡ verdict_for u → Judged w (proof_of G n) (disproof_of G n) → cond u (proof_of G n) (disproof_of G n) ≡ 0
      go true q (jtrue v z) = z
      go true q (jfalse v a z) = absurd (other_apart true (sym v ∙ q))
      go true q (junknown v a b) = absurd (unknown_apart true (sym v ∙ q))
      go false q (jtrue v z) = absurd (other_apart false (sym v ∙ q))
      go false q (jfalse v a z) = z
      go false q (junknown v a b) = absurd (unknown_apart false (sym v ∙ q))

  -- A solved node as Numbers has it, one number 0 and the other infinite
  solved_numbers : (m : Bool) → ((n.phi ≡ 0) × (INFINITY ≤ n.delta)) ⊎ ((n.delta ≡ 0) × (INFINITY ≤ n.phi))
      → let p : ℕ = cond m n.phi n.delta in let d : ℕ = cond m n.delta n.phi in ((p ≡ 0) × (INFINITY ≤ d)) ⊎ ((d ≡ 0) × (INFINITY ≤ p))
  solved_numbers true h = h
  solved_numbers false (inl h) = inr h
  solved_numbers false (inr h) = inl h

  pub zero_verdict : ((n.phi ≡ 0) × (INFINITY ≤ n.delta)) ⊎ ((n.delta ≡ 0) × (INFINITY ≤ n.phi)) → towards G t n < INFINITY → verdict_of (proof_of G n) (disproof_of G n) ≡ verdict_for t
  unfolding towards proof_of disproof_of verdict_of
  zero_verdict h l = go t (proof_of G n) (disproof_of G n) (solved_numbers (G.mine n.pos) h) l
    where
      go : (u : Bool) (p d : ℕ) → ((p ≡ 0) × (INFINITY ≤ d)) ⊎ ((d ≡ 0) × (INFINITY ≤ p)) → cond u p d < INFINITY → verdict_of p d ≡ verdict_for u
      go true p d (inl z) k = rw z.0
      go true p d (inr z) k = absurd (omega (arith, z.1))
      go false p d (inl z) k = absurd (omega (arith, z.1))
      go false p d (inr z) k = rw (ne_eqb p 0 (λ e. omega (arith, z.1)), z.0)

-- THE VERDICTS IN A TREE, where the leaves that pass a test are taken as t: of a node, and of a list of children
module _ (G : Game) (t : Bool) where
  abbrev pub verdict_below : (Line → Bool) → Node G.Pos → Children G.Pos → Verdict
  verdict_below test n b = verdict_at G (verdict_for t) test n (verdicts_in G (verdict_for t) test b)

  abbrev pub verdicts : (Line → Bool) → Children G.Pos → List Verdict
  verdicts test ks = verdicts_in G (verdict_for t) test ks

-- kind by kind; a leaf that comes to t is taken
pub leaf_taken : (t taken : Bool) → cond taken (verdict_for t) Unknown ≡ verdict_for t → taken ≡ true
leaf_taken t true q = refl
leaf_taken t false q = absurd (unknown_apart t q)

module _ (G : Game) (v : Verdict) where
  pub verdict_solved : (taken : Line → Bool) (n : Node G.Pos) (vs : List Verdict) → solved n ≡ true → verdict_at G v taken n vs ≡ verdict_of (proof_of G n) (disproof_of G n)
  unfolding verdict_at
  verdict_solved taken n vs e = rw e

  pub verdict_inner : (taken : Line → Bool) (n : Node G.Pos) (vs : List Verdict) → solved n ≡ false → n.expanded ≡ true → verdict_at G v taken n vs ≡ from_children (G.mine n.pos) vs
  unfolding verdict_at
  verdict_inner taken n vs e x = rw (e, x)

  pub verdict_leaf : (taken : Line → Bool) (n : Node G.Pos) (vs : List Verdict) → solved n ≡ false → n.expanded ≡ false → verdict_at G v taken n vs ≡ cond (taken []) v Unknown
  unfolding verdict_at
  verdict_leaf taken n vs e x = rw (e, x)

  -- They depend on the open leaves alone
  pub same_at : (s t : Line → Bool) (n : Node G.Pos) (below : List Line) (vs ws : List Verdict) → ((l : Line) → Memᴰ l (lines_at n below) → s l ≡ t l)
      → (((l : Line) → Memᴰ l below → s l ≡ t l) → vs ≡ ws) → verdict_at G v s n vs ≡ verdict_at G v t n ws
  unfolding verdict_at lines_at
  same_at s t n below vs ws h f = go (solved n) n.expanded h
    where
      go : (a x : Bool) → ((l : Line) → Memᴰ l (cond a [] (cond x below ([] ∷ []))) → s l ≡ t l)
          → cond a (verdict_of (proof_of G n) (disproof_of G n)) (cond x (from_children (G.mine n.pos) vs) (cond (s []) v Unknown))
          ≡ cond a (verdict_of (proof_of G n) (disproof_of G n)) (cond x (from_children (G.mine n.pos) ws) (cond (t []) v Unknown))
      go true x k = refl
      go false true k = ap (from_children (G.mine n.pos)) (f k)
      go false false k = ap (λ (b : Bool). cond b v Unknown) (k [] (Memᴰ.head refl))

  pub same_in : (s t : Line → Bool) (ks : Children G.Pos) → ((l : Line) → Memᴰ l (lines_in ks) → s l ≡ t l) → verdicts_in G v s ks ≡ verdicts_in G v t ks
  unfolding verdicts_in lines_in
  same_in s t none h = refl
  same_in s t (child n b ks) h =
      let at = same_at (λ l. s (n.move ∷ l)) (λ l. t (n.move ∷ l)) n (lines_in b) _ _
      (λ l i. h (n.move ∷ l) (Memᴰ.append_left (lines_in ks) (Memᴰ.map (λ (r : Line). n.move ∷ r) i))) (λ k. same_in (λ l. s (n.move ∷ l)) (λ l. t (n.move ∷ l)) b k) in
      cc (at, same_in s t ks (λ l i. h l (Memᴰ.append_right (map (λ r. n.move ∷ r) (lines_at n (lines_in b))) i)))
