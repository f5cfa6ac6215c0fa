-- Laws of tests: what a chain of conditions that gives 0 tells, all and any under a change, what a test keeps of a list, and lists with the same bytes. Rests on Rules and the library's Booleans.
use Rattle.std.specs.Prelude.{Bool, true, false, cond, not, ◌&&◌, ◌||◌, ◌≡◌, refl, ◌⊎◌, ℕ, zero, suc, ◌<◌, eqb, get_or, length, set}
use Rattle.std.proofs.Math.Bool.{and-false, and-true, or-true}
use Rattle.std.proofs.Common.{true≢false, sym, ap, ◌∙◌, inl, inr, suc-le-suc, not-suc-le-zero, le_of_suc-le-suc, arith, eqb-true, eq-eqb}
use Rattle.std.proofs.lemmas.Bool.{false≢true}
use mathlib.Core.List.Memᴰ
use mathlib.Core.List.{List, [], ◌∷◌, Memᴰ}
use Rattle.rules.specs.Rules.{all, any, keep, same_bytes}

-- a chain of conditions gives 0: its first does not hold, and the rest gives 0
pub passed : (t : Bool) (n r : ℕ) → cond t (suc n) r ≡ 0 → (t ≡ false) × (r ≡ 0)
passed true n r e = absurd (omega arith)
passed false n r e = (refl, e)

pub held : (t : Bool) (n r : ℕ) → cond (not t) (suc n) r ≡ 0 → (t ≡ true) × (r ≡ 0)
held true n r e = (refl, e)
held false n r e = absurd (omega arith)

pub both_true : (a b : Bool) → (a && b) ≡ true → (a ≡ true) × (b ≡ true)
both_true true b e = (refl, e)
both_true false b e = absurd (false≢true e)

pub both_false : (a b : Bool) → (a || b) ≡ false → (a ≡ false) × (b ≡ false)
both_false false b e = (refl, e)
both_false true b e = absurd (true≢false e)

pub one_true : (a b : Bool) → (a || b) ≡ true → (a ≡ true) ⊎ (b ≡ true)
one_true true b e = inl refl
one_true false b e = inr e

-- tests that fail where others fail
and_fails : (a b c d : Bool) → (a ≡ false → c ≡ false) → (b ≡ false → d ≡ false) → (a && b) ≡ false → (c && d) ≡ false
and_fails false b c d h k e = rw (h refl)
and_fails true b c d h k e = rw (k e) (and-false c)

or_fails : (a b c d : Bool) → (a ≡ false → c ≡ false) → (b ≡ false → d ≡ false) → (a || b) ≡ false → (c || d) ≡ false
or_fails a b c d h k e = let f = both_false a b e in rw (h f.0, k f.1)

module _ {ℓ} {A : Type ℓ} (f g : A → Bool) (h : (x : A) → f x ≡ false → g x ≡ false) where
  pub all_fails : (l : List A) → all f l ≡ false → all g l ≡ false
  all_fails [] e = e
  all_fails (x ∷ l) e = and_fails (f x) (all f l) (g x) (all g l) (h x) (λ e'. all_fails l e') e

  pub any_fails : (l : List A) → any f l ≡ false → any g l ≡ false
  any_fails [] e = e
  any_fails (x ∷ l) e = or_fails (f x) (any f l) (g x) (any g l) (h x) (λ e'. any_fails l e') e

-- a test that must hold where another does
pub implied : (a b : Bool) → (a && not b) ≡ false → a ≡ true → b ≡ true
implied a true e h = refl
implied a false e h = let z : true ≡ false = sym h ∙ sym (and-true a) ∙ e in absurd (true≢false z)

pub implies : (a b : Bool) → (a ≡ true → b ≡ true) → (a && not b) ≡ false
implies true b h = rw (h refl)
implies false b h = refl

-- not any is all not
not_or : (a b : Bool) → not (a || b) ≡ (not a && not b)
not_or true b = refl
not_or false b = refl

module _ {ℓ} {A : Type ℓ} (f : A → Bool) where
  pub not_any : (l : List A) → not (any f l) ≡ all (λ x. not (f x)) l
  not_any [] = refl
  not_any (x ∷ l) = not_or (f x) (any f l) ∙ ap (◌&&◌ (not (f x))) (not_any l)

  -- all, any by their members
  pub all_at : (l : List A) (i : ℕ) (d : A) → all f l ≡ true → i < length l → f (get_or l i d) ≡ true
  all_at [] i d e h = absurd (not-suc-le-zero h)
  all_at (x ∷ l) zero d e h = (both_true (f x) (all f l) e).0
  all_at (x ∷ l) (suc i) d e h = all_at l i d (both_true (f x) (all f l) e).1 (le_of_suc-le-suc h)

  pub at_all : (l : List A) (d : A) → ((i : ℕ) → i < length l → f (get_or l i d) ≡ true) → all f l ≡ true
  at_all [] d h = refl
  at_all (x ∷ l) d h = rw (h 0 (omega arith)) (at_all l d (λ i b. h (suc i) (suc-le-suc b)))

  pub all_set : (l : List A) (i : ℕ) (v : A) → all f l ≡ true → f v ≡ true → all f (set l i v) ≡ true
  all_set [] i v e h = refl
  all_set (x ∷ l) zero v e h = rw h (both_true (f x) (all f l) e).1
  all_set (x ∷ l) (suc i) v e h = let r = both_true (f x) (all f l) e in rw r.0 (all_set l i v r.1 h)

  pub any_at : (l : List A) (d : A) → any f l ≡ true → (i : ℕ) × (i < length l) × (f (get_or l i d) ≡ true)
  any_at [] d e = absurd (false≢true e)
  any_at (x ∷ l) d e = go (one_true (f x) (any f l) e) (λ q. any_at l d q)
    where
      go : (f x ≡ true) ⊎ (any f l ≡ true) → (any f l ≡ true → (i : ℕ) × (i < length l) × (f (get_or l i d) ≡ true))
          → (i : ℕ) × (i < length (x ∷ l)) × (f (get_or (x ∷ l) i d) ≡ true)
      go (inl q) h = (0, omega arith, q)
      go (inr q) h = let r = h q in (suc r.0, suc-le-suc r.1, r.2)

  pub at_any : (l : List A) (i : ℕ) (d : A) → i < length l → f (get_or l i d) ≡ true → any f l ≡ true
  at_any [] i d h e = absurd (not-suc-le-zero h)
  at_any (x ∷ l) zero d h e = rw e
  at_any (x ∷ l) (suc i) d h e = rw (at_any l i d (le_of_suc-le-suc h) e) (or-true (f x))

  pub at_none : (l : List A) (d : A) → ((i : ℕ) → i < length l → f (get_or l i d) ≡ false) → any f l ≡ false
  at_none [] d h = refl
  at_none (x ∷ l) d h = rw (h 0 (omega arith)) (at_none l d (λ i b. h (suc i) (suc-le-suc b)))

-- what is kept of a list is in it and passes the test, and the other way round
module _ {A : Type 0} (f : A → Bool) where
  pub from_keep : (l : List A) (m : A) → Memᴰ m (keep f l) → Memᴰ m l × (f m ≡ true)
  from_keep [] m i = absurd (Memᴰ.not-nil i)
  from_keep (x ∷ l) m i = go (f x) refl i (λ j. from_keep l m j)
    where
      go : (t : Bool) → f x ≡ t → Memᴰ m (cond t (x ∷ keep f l) (keep f l)) → (Memᴰ m (keep f l) → Memᴰ m l × (f m ≡ true))
          → Memᴰ m (x ∷ l) × (f m ≡ true)
      go true e (Memᴰ.head q) h = (Memᴰ.head q, ap f q ∙ e)
      go true e (Memᴰ.tail j) h = (Memᴰ.tail (h j).0, (h j).1)
      go false e j h = (Memᴰ.tail (h j).0, (h j).1)

  pub to_keep : (l : List A) (m : A) → Memᴰ m l → f m ≡ true → Memᴰ m (keep f l)
  to_keep [] m x'' e = elim x'' [ ]
  to_keep (x ∷ l) m (Memᴰ.head q) e = rw (sym (ap f q) ∙ e) (Memᴰ.head q)
  to_keep (x ∷ l) m (Memᴰ.tail i) e = go (f x) (to_keep l m i e)
    where
      go : (t : Bool) → Memᴰ m (keep f l) → Memᴰ m (cond t (x ∷ keep f l) (keep f l))
      go true j = Memᴰ.tail j
      go false j = j

-- the same bytes are equal lists, and back
pub same_equal : (xs ys : List ℕ) → same_bytes xs ys ≡ true → xs ≡ ys
same_equal [] [] h = refl
same_equal [] (y ∷ ys) h = absurd (false≢true h)
same_equal (x ∷ xs) [] h = absurd (false≢true h)
same_equal (x ∷ xs) (y ∷ ys) h =
    let p = both_true (eqb x y) (same_bytes xs ys) h in
    let a : x ≡ y = eqb-true x y p.0 in
    let b : xs ≡ ys = same_equal xs ys p.1 in
    cc

pub same_self : (xs : List ℕ) → same_bytes xs xs ≡ true
same_self [] = refl
same_self (x ∷ xs) = rw (eq-eqb x x refl) (same_self xs)
