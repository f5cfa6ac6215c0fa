-- Laws of `answers`, the list f i, f (i + 1), ..: its length, its elements, one more at the end, when it is a given list, when all of it passes, and after one store. Rests on Rules.
use Rattle.std.specs.Prelude.{◌≡◌, refl, Bool, true, List, [], ◌∷◌, ◌++◌, ℕ, zero, suc, ◌+◌, ◌<◌, get_or, length, set}
use Rattle.std.proofs.Common.{sym, ap, ◌∙◌, not-suc-le-zero, le_of_suc-le-suc, add-zero, zero-add, add-one, arith, length-set, ext_get_or, get_or-set_same, get_or-set_other}
use Rattle.std.proofs.Math.Decide.{ℕ_discrete}
use Rattle.rules.specs.Rules.{answers, all}

module _ {ℓ} {A : Type ℓ} (f : ℕ → A) where
  pub length_answers : (i n : ℕ) → length (answers f i n) ≡ n
  length_answers i zero = refl
  length_answers i (suc n) = ap suc (length_answers (suc i) n)

  pub answers_at : (i n k : ℕ) (d : A) → k < n → get_or (answers f i n) k d ≡ f (i + k)
  answers_at i zero k d h = absurd (not-suc-le-zero h)
  answers_at i (suc n) zero d h = rw add-zero
  answers_at i (suc n) (suc k) d h = let e : suc i + k ≡ i + suc k = omega arith in answers_at (suc i) n k d (le_of_suc-le-suc h) ∙ ap f e

  -- answer k of those counted from 0
  pub answers_zero : (n k : ℕ) (d : A) → k < n → get_or (answers f 0 n) k d ≡ f k
  answers_zero n k d h = answers_at 0 n k d h ∙ rw zero-add

  -- one more at the end
  pub answers_more : (i n : ℕ) → answers f i (suc n) ≡ answers f i n ++ (f (i + n) ∷ [])
  answers_more i zero = rw add-zero
  answers_more i (suc n) = let e : suc i + n ≡ i + suc n = omega arith in ap (◌∷◌ (f i)) (answers_more (suc i) n ∙ ap (λ k. answers f (suc i) n ++ (f k ∷ [])) e)

  pub answers_next : (n : ℕ) → answers f 0 (n + 1) ≡ answers f 0 n ++ (f n ∷ [])
  answers_next n = ap (answers f 0) (add-one n) ∙ answers_more 0 n ∙ rw zero-add

  -- the answers are the elements of a list, so they are that list
  pub answers_are : (l : List A) (n : ℕ) (d : A) → length l ≡ n → ((k : ℕ) → k < n → f k ≡ get_or l k d) → answers f 0 n ≡ l
  answers_are l n d e same =
      ext_get_or d (answers f 0 n) l (rw (length_answers 0 n) (omega arith))
      (λ k h. let g : k < n = omega (arith, length_answers 0 n) in answers_zero n k d g ∙ same k g)

-- answers that all pass
pub all_answers {ℓ} : {A : Type ℓ} (f : A → Bool) (g : ℕ → A) → ((k : ℕ) → f (g k) ≡ true) → (i n : ℕ) → all f (answers g i n) ≡ true
all_answers f g h i zero = refl
all_answers f g h i (suc n) = rw (h i) (all_answers f g h (suc i) n)

module _ {ℓ} {A : Type ℓ} (f g : ℕ → A) (n b : ℕ) (other : (k : ℕ) → (k ≡ b → ⊥) → g k ≡ f k) where
  store_at : (k : ℕ) (d : A) → k < n → Dec (k ≡ b) → get_or (answers g 0 n) k d ≡ get_or (set (answers f 0 n) b (g b)) k d
  store_at k d h (yes e) = rw (answers_zero g n k d h, e) (sym (get_or-set_same (answers f 0 n) b (g b) d (rw (length_answers f 0 n) (omega arith))))
  store_at k d h (no q) = answers_zero g n k d h ∙ other k q ∙ sym (answers_zero f n k d h) ∙ sym (get_or-set_other (answers f 0 n) b k (g b) d q)

  -- answers that differ at b alone differ by one store
  pub answers_set : A → answers g 0 n ≡ set (answers f 0 n) b (g b)
  answers_set d =
      ext_get_or d (answers g 0 n) (set (answers f 0 n) b (g b)) (simp (length-set, length_answers))
      (λ k h. store_at k d (omega (arith, length_answers g 0 n)) (ℕ_discrete k b))
