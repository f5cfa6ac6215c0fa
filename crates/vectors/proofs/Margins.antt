-- Laws of what the contracts of `vectors::margin` cite. Rests on specs/Margins.antt.
use Rattle.std.specs.Prelude.{ℕ, zero, suc, ◌+◌, ◌*◌, ◌%◌, ◌^◌, ◌<◌, ◌≤◌, ◌≡◌, refl, Bool, true, not, List, [], ◌∷◌, T, length, take, get_or, Float, Result, Ok, Err}
use Rattle.std.proofs.Common.{sym, subst, ◌∙◌, true≢false, le_of_suc-le-suc, not-suc-le-zero, lt_of_lt_of_le, add-one, arith, lt-ltb, le-ltb, pow_mono, pow-add}
use Rattle.std.specs.Float.{nan, inf, fin, binary64}
use Rattle.std.specs.Float.Ieee.{is_nan, nan_bits, of_bits}
use Rattle.std.specs.Float.Ieee.Bits.{nan_bits_is, nan_bits_above}
use Rattle.vectors.specs.Words.{hex_value}
use Rattle.vectors.specs.Margins.{spelled, Digits, BitsOf}
use Rattle.vectors.specs.declared.line.Unreadable.{Unreadable}

-- Two laws of `BitsOf`, for those who took the number apart.
pub bits_read : (xs : List ℕ) {r : Result ℕ Unreadable} {n : ℕ} → r ≡ Ok n → BitsOf xs r → Digits xs × (n ≡ spelled 0 xs)
bits_read xs e h = rw e at h

pub bits_unread : (xs : List ℕ) {r : Result ℕ Unreadable} {u : Unreadable} → r ≡ Err u → BitsOf xs r → Digits xs → ⊥
bits_unread xs e h = rw e at h

-- One more digit.
spelled_suc : (xs : List ℕ) (i n : ℕ) → i < length xs → spelled n (take (suc i) xs) ≡ spelled n (take i xs) * 16 + hex_value (get_or xs i 0)
unfolding spelled
spelled_suc [] i n h = absurd (not-suc-le-zero h)
spelled_suc (x ∷ xs) zero n h = refl
spelled_suc (x ∷ xs) (suc i) n h = spelled_suc xs i (n * 16 + hex_value x) (le_of_suc-le-suc h)

pub one_more : (xs : List ℕ) (i n d : ℕ) → i < length xs → n ≡ spelled 0 (take i xs) → d ≡ hex_value (get_or xs i 0) → n * 16 + d ≡ spelled 0 (take (i + 1) xs)
one_more xs i n d h e q = rw (add-one, spelled_suc xs i 0 h) (cc)

-- Of fewer than sixteen digits: one more fits.
pub room : (n i : ℕ) → i < 16 → n < 2 ^ (4 * i) → n < 2 ^ 60
room n i l h = lt_of_lt_of_le h (pow_mono {i = 4 * i} {j = 60} (omega arith))

pub more : (n i d : ℕ) → d < 16 → n < 2 ^ (4 * i) → n * 16 + d < 2 ^ (4 * (i + 1))
more n i d l h = subst (λ (k : ℕ). n * 16 + d < 2 ^ k) e (subst (λ (p : ℕ). n * 16 + d < p) (sym (pow-add 2 (4 * i) 4)) (go (2 ^ (4 * i)) h))
  where
    e : 4 * i + 4 ≡ 4 * (i + 1)
    e = omega arith

    go : (p : ℕ) → n < p → n * 16 + d < p * 16
    go p q = omega arith

-- Which patterns are a NaN's, by the tests of `float_of`.
only_nan : (x : Float) → is_nan x ≡ true → x ≡ nan
unfolding is_nan
only_nan nan e = refl
only_nan (inf s) e = absurd (true≢false (sym e))
only_nan (fin s m k) e = absurd (true≢false (sym e))

pub pattern_nan : (n : ℕ) → 9218868437227405312 < n % 9223372036854775808 → of_bits binary64 n ≡ nan
pattern_nan n h = only_nan (of_bits binary64 n) (sym (nan_bits_is binary64 n) ∙ nan_bits_above binary64 n ∙ lt-ltb _ _ h)

pub pattern_number : (n : ℕ) → n % 9223372036854775808 ≤ 9218868437227405312 → T (not (nan_bits binary64 n))
pattern_number n h = subst (λ (b : Bool). T (not b)) (sym (nan_bits_above binary64 n ∙ le-ltb _ _ h)) tt
