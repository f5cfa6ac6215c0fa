-- Which record the checks name: none is refused, or the lowest game of the earliest check is. Rests on Checks.
use Rattle.std.specs.Prelude.{◌≡◌, refl, ℕ, zero, suc, ◌+◌, ◌≤◌, ◌<◌}
use Rattle.std.proofs.Common.{ap, sym, ◌∙◌, arith, eq-eqb, ne_eqb}
use Rattle.std.proofs.Math.Decide.{ℕ_discrete}
use Rattle.rules.specs.Rules.{answers}
use Rattle.games_checks.specs.Checks.{earlier, earliest, lowest}

earlier_none : (n m : ℕ) → earlier n m ≡ 0 → (n ≡ 0) × (m ≡ 0)
unfolding earlier
earlier_none zero m e = (refl, e)
earlier_none (suc n) zero e = absurd (omega arith)
earlier_none (suc n) (suc m) e = absurd (omega arith)

pub none_early : (f : ℕ → ℕ) (i n : ℕ) → earliest (answers f i n) ≡ 0 → (k : ℕ) → k < n → f (i + k) ≡ 0
unfolding earliest
none_early f i zero e k l = absurd (omega arith)
none_early f i (suc n) e zero l = let q : i + 0 ≡ i = omega arith in ap f q ∙ (earlier_none _ _ e).0
none_early f i (suc n) e (suc k) l = let q : i + suc k ≡ suc i + k = omega arith in ap f q ∙ none_early f (suc i) n (earlier_none _ _ e).1 k (omega arith)

pub early_none : (f : ℕ → ℕ) (i n : ℕ) → ((k : ℕ) → k < n → f (i + k) ≡ 0) → earliest (answers f i n) ≡ 0
unfolding earliest earlier
early_none f i zero h = refl
early_none f i (suc n) h =
    let q : i + 0 ≡ i = omega arith in
    let here : f i ≡ 0 = ap f (sym q) ∙ h 0 (omega arith) in
    rw here (early_none f (suc i) n (λ k l. let s : suc i + k ≡ i + suc k = omega arith in ap f s ∙ h (suc k) (omega arith)))

-- no record is refused by an earlier check
earlier_left : (n m : ℕ) → (n ≡ 0 → ⊥) → earlier n m ≤ n
unfolding earlier
earlier_left zero m z = absurd (z refl)
earlier_left (suc n) zero z = omega arith
earlier_left (suc n) (suc m) z = omega arith

earlier_right : (n m : ℕ) → (m ≡ 0 → ⊥) → earlier n m ≤ m
unfolding earlier
earlier_right zero m z = omega arith
earlier_right (suc n) zero z = absurd (z refl)
earlier_right (suc n) (suc m) z = omega arith

pub earliest_least : (f : ℕ → ℕ) (i n k : ℕ) → k < n → (f (i + k) ≡ 0 → ⊥) → earliest (answers f i n) ≤ f (i + k)
unfolding earliest
earliest_least f i zero k l z = absurd (omega arith)
earliest_least f i (suc n) zero l z = let q : i + 0 ≡ i = omega arith in omega (arith, ap f q, earlier_left (f i) (earliest (answers f (suc i) n)) (λ e. z (ap f q ∙ e)))
earliest_least f i (suc n) (suc k) l z =
    let q : i + suc k ≡ suc i + k = omega arith in
    let some : earliest (answers f (suc i) n) ≡ 0 → ⊥ = λ e. z (ap f q ∙ none_early f (suc i) n e k (omega arith)) in
    omega (arith, ap f q, earlier_right (f i) (earliest (answers f (suc i) n)) some, earliest_least f (suc i) n k (omega arith) (λ e. z (ap f q ∙ e)))

-- the lowest game with a number
lowest_here : (f : ℕ → ℕ) (i n number : ℕ) → f i ≡ number → lowest number (answers f i (suc n)) ≡ 0
unfolding lowest
lowest_here f i n number e = rw (eq-eqb (f i) number e)

lowest_further : (f : ℕ → ℕ) (i n number : ℕ) → (f i ≡ number → ⊥) → lowest number (answers f i (suc n)) ≡ suc (lowest number (answers f (suc i) n))
unfolding lowest
lowest_further f i n number z = rw (ne_eqb (f i) number z)

pub lowest_first : (f : ℕ → ℕ) (i n number j : ℕ) → j < lowest number (answers f i n) → f (i + j) ≡ number → ⊥
unfolding lowest
lowest_first f i zero number j l e = omega arith
lowest_first f i (suc n) number j l e = go (ℕ_discrete (f i) number) j l e (λ k. lowest_first f (suc i) n number k)
  where
    go : Dec (f i ≡ number) → (j : ℕ) → j < lowest number (answers f i (suc n)) → f (i + j) ≡ number
        → ((k : ℕ) → k < lowest number (answers f (suc i) n) → f (suc i + k) ≡ number → ⊥) → ⊥
    go (yes q) j l e r = omega (arith, lowest_here f i n number q)
    go (no q) zero l e r = let s : i + 0 ≡ i = omega arith in q (ap f (sym s) ∙ e)
    go (no q) (suc j) l e r = let s : i + suc j ≡ suc i + j = omega arith in r j (omega (arith, lowest_further f i n number q)) (ap f (sym s) ∙ e)

-- the number comes from the first, or from those after it
earlier_one : (n m : ℕ) → (n ≡ earlier n m → ⊥) → m ≡ earlier n m
unfolding earlier
earlier_one zero m z = refl
earlier_one (suc n) zero z = absurd (z refl)
earlier_one (suc n) (suc m) z = omega (arith, z)

pub lowest_found : (f : ℕ → ℕ) (i n number : ℕ) → earliest (answers f i n) ≡ number → (number ≡ 0 → ⊥) → (lowest number (answers f i n) < n) × (f (i + lowest number (answers f i n)) ≡ number)
unfolding earliest
lowest_found f i zero number e z = absurd (z (sym e))
lowest_found f i (suc n) number e z = go (ℕ_discrete (f i) number) (λ q. lowest_found f (suc i) n number q z)
  where
    go : Dec (f i ≡ number)
        → (earliest (answers f (suc i) n) ≡ number → (lowest number (answers f (suc i) n) < n) × (f (suc i + lowest number (answers f (suc i) n)) ≡ number))
        → (lowest number (answers f i (suc n)) < suc n) × (f (i + lowest number (answers f i (suc n))) ≡ number)
    go (yes q) r =
        let s : i + lowest number (answers f i (suc n)) ≡ i = omega (arith, lowest_here f i n number q) in
        (omega (arith, lowest_here f i n number q), ap f s ∙ q)
    go (no q) r =
        let h = r (earlier_one (f i) (earliest (answers f (suc i) n)) (λ k. q (k ∙ e)) ∙ e) in
        let s : i + lowest number (answers f i (suc n)) ≡ suc i + lowest number (answers f (suc i) n) = omega (arith, lowest_further f i n number q) in
        (omega (arith, lowest_further f i n number q, h.0), ap f s ∙ h.1)
