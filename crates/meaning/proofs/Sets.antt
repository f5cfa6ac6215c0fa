-- Sets of lines, as tests and as lists: what a test keeps of a list, and the test of being in one. Rests on Meaning, on the rules' laws of tests, and on
-- Value and Sequences of the machine.
use Rattle.std.specs.Prelude.{◌≡◌, refl, Bool, true, false, ◌||◌, cond, suc, ◌+◌, ◌≤◌, length}
use Rattle.std.proofs.Common.{ap, sym, ◌∙◌, true≢false, arith}
use mathlib.Core.List.{List, [], ◌∷◌, ◌++◌, map, Memᴰ}
use Rattle.std.proofs.Math.Bool.{or-true}
use Rattle.rules.specs.Rules.{keep, same_bytes}
use Rattle.rules.proofs.Tests.{from_keep, to_keep, same_equal, same_self}
use Rattle.machine.specs.Value.{Distinct}
use Rattle.machine.proofs.Sequences.{no_longer}
use Rattle.meaning.specs.Meaning.{Line, is_in}

module _ {A : Type 0} where
  pub keep_append : (test : A → Bool) (l r : List A) → length (keep test (l ++ r)) ≡ length (keep test l) + length (keep test r)
  keep_append test [] r = omega arith
  keep_append test (x ∷ l) r = go (test x) (keep_append test l r)
    where
      go : (b : Bool) → length (keep test (l ++ r)) ≡ length (keep test l) + length (keep test r)
          → length (cond b (x ∷ keep test (l ++ r)) (keep test (l ++ r))) ≡ length (cond b (x ∷ keep test l) (keep test l)) + length (keep test r)
      go true h = omega (arith, h)
      go false h = h

  pub keep_map : (test : A → Bool) (f : A → A) (l : List A) → length (keep test (map f l)) ≡ length (keep (λ x. test (f x)) l)
  keep_map test f [] = refl
  keep_map test f (x ∷ l) = go (test (f x)) (keep_map test f l)
    where
      go : (b : Bool) → length (keep test (map f l)) ≡ length (keep (λ y. test (f y)) l)
          → length (cond b (f x ∷ keep test (map f l)) (keep test (map f l))) ≡ length (cond b (x ∷ keep (λ y. test (f y)) l) (keep (λ y. test (f y)) l))
      go true h = ap suc h
      go false h = h

  pub keep_same : (s t : A → Bool) (l : List A) → ((x : A) → Memᴰ x l → s x ≡ t x) → keep s l ≡ keep t l
  keep_same s t [] h = refl
  keep_same s t (x ∷ l) h = cc (h x (Memᴰ.head refl), keep_same s t l (λ y i. h y (Memᴰ.tail i)))

  pub keep_none : (l : List A) → length (keep (λ x. false) l) ≡ 0
  keep_none [] = refl
  keep_none (x ∷ l) = keep_none l

  pub keep_distinct : (test : A → Bool) (l : List A) → Distinct l → Distinct (keep test l)
  keep_distinct test [] d = tt
  keep_distinct test (x ∷ l) d = go (test x) (keep_distinct test l d.1)
    where
      go : (b : Bool) → Distinct (keep test l) → Distinct (cond b (x ∷ keep test l) (keep test l))
      go true h = (λ i. d.0 (from_keep test l x i).0, h)
      go false h = h

-- The test of being in a list
pub in_list : (set : List Line) (l : Line) → is_in set l ≡ true → Memᴰ l set
unfolding is_in
in_list [] l e = absurd (true≢false (sym e))
in_list (k ∷ set) l e = go (same_bytes l k) refl e (λ q. in_list set l q)
  where
    go : (b : Bool) → same_bytes l k ≡ b → b || is_in set l ≡ true → (is_in set l ≡ true → Memᴰ l set) → Memᴰ l (k ∷ set)
    go true q h f = Memᴰ.head (same_equal l k q)
    go false q h f = Memᴰ.tail (f h)

pub list_in : (set : List Line) (l : Line) → Memᴰ l set → is_in set l ≡ true
unfolding is_in
list_in [] l x' = elim x' [ ]
list_in (k ∷ set) l (Memᴰ.head e) = rw (ap (same_bytes l) (sym e) ∙ same_self l)
list_in (k ∷ set) l (Memᴰ.tail i) = ap (λ (b : Bool). same_bytes l k || b) (list_in set l i) ∙ or-true (same_bytes l k)

-- On the lines of a list, being among those that pass a test is passing it
pub as_test : (test : Line → Bool) (lines : List Line) (l : Line) → Memᴰ l lines → is_in (keep test lines) l ≡ test l
as_test test lines l i = go (test l) (is_in (keep test lines) l) refl refl
  where
    go : (b c : Bool) → test l ≡ b → is_in (keep test lines) l ≡ c → is_in (keep test lines) l ≡ test l
    go true c e d = list_in (keep test lines) l (to_keep test lines l i e) ∙ sym e
    go false true e d = absurd (true≢false (sym (from_keep test lines l (in_list (keep test lines) l d)).1 ∙ e))
    go false false e d = d ∙ sym e

-- A set has no fewer members than there are lines of the list in it
pub no_fewer_than : (set lines : List Line) → Distinct lines → length (keep (is_in set) lines) ≤ length set
no_fewer_than set lines d = no_longer (keep (is_in set) lines) set (keep_distinct (is_in set) lines d) (λ l i. in_list set l (from_keep (is_in set) lines l i).1)
