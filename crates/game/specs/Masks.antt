-- Nine codes as masks of nine bits, bit c for code c: what the code keeps of a board, and of the boards' states. Rests on the rules' codes.
use Rattle.std.specs.Prelude.{ℕ, zero, suc, ◌+◌, ◌*◌, ◌/◌, ◌%◌, ◌^◌, ◌<◌, ◌≡◌, refl, Bool, true, false, cond, not, ◌||◌, List, [], ◌∷◌, length, set, eqb, ltb}
use Rattle.std.proofs.Common.{ap, ◌∙◌, not-suc-le-zero, le_of_suc-le-suc, div-one, arith, eq-eqb, ne_eqb, ltb-true}
use Rattle.std.proofs.Math.Nat.{pow-succ', pow-zero, div-div-eq-div-mul}
use Rattle.std.specs.Int.Count.{ones, ones_step}
use Rattle.std.proofs.Math.Dec.{eqb-zero-suc, eqb-suc-zero}
use Rattle.rules.specs.Rules.{code, all, any, count}
use Rattle.rules.proofs.Tests.{both_true}

-- 1 if the test is true
abbrev pub bit : Bool → ℕ
bit b = cond b 1 0

-- the codes that pass a test, as bits
abbrev pub mask_of : (ℕ → Bool) → List ℕ → ℕ
mask_of f [] = 0
mask_of f (c ∷ cs) = bit (f c) + mask_of f cs * 2

-- the codes that are k
abbrev pub mask : ℕ → List ℕ → ℕ
mask k cs = mask_of (λ c. eqb c k) cs

-- bit c of a mask
abbrev pub has_bit : ℕ → ℕ → Bool
has_bit m c = eqb (m / 2 ^ c % 2) 1

bit_lt : (b : Bool) → bit b < 2
bit_lt true = omega arith
bit_lt false = omega arith

half_bit : (b : Bool) (m : ℕ) → (bit b + m * 2) / 2 ≡ m
half_bit true m = omega arith
half_bit false m = omega arith

odd_bit : (b : Bool) (m : ℕ) → (bit b + m * 2) % 2 ≡ bit b
odd_bit true m = omega arith
odd_bit false m = omega arith

pub bit_test : (b : Bool) → eqb (bit b) 1 ≡ b
bit_test true = refl
bit_test false = refl

pub mask_lt : (f : ℕ → Bool) (cs : List ℕ) → mask_of f cs < 2 ^ length cs
mask_lt f [] = rw (pow-zero 2) (omega arith)
mask_lt f (c ∷ cs) =
    let h : mask_of f cs < 2 ^ length cs = mask_lt f cs in
    rw (pow-succ' 2 (length cs)) (omega (arith, bit_lt (f c)))

-- bit c of the mask is the test of code c; past the end there is none
pub mask_bit : (f : ℕ → Bool) (cs : List ℕ) (c : ℕ) → c < length cs → mask_of f cs / 2 ^ c % 2 ≡ bit (f (code cs c))
mask_bit f [] c h = absurd (not-suc-le-zero h)
mask_bit f (x ∷ cs) zero h = rw (pow-zero 2, div-one) (odd_bit (f x) (mask_of f cs))
mask_bit f (x ∷ cs) (suc c) h =
    rw (pow-succ' 2 c, ← div-div-eq-div-mul, half_bit (f x) (mask_of f cs)) (mask_bit f cs c (le_of_suc-le-suc h))

pub has_bit_of : (f : ℕ → Bool) (cs : List ℕ) (c : ℕ) → c < length cs → has_bit (mask_of f cs) c ≡ f (code cs c)
has_bit_of f cs c h = ap (λ n. eqb n 1) (mask_bit f cs c h) ∙ bit_test (f (code cs c))

-- a code that failed the test is replaced
pub mask_put : (f : ℕ → Bool) (cs : List ℕ) (c v : ℕ) → c < length cs → f (code cs c) ≡ false
    → mask_of f (set cs c v) ≡ mask_of f cs + bit (f v) * 2 ^ c
mask_put f [] c v h e = absurd (not-suc-le-zero h)
mask_put f (x ∷ cs) zero v h e = rw (e, pow-zero 2) (omega arith)
mask_put f (x ∷ cs) (suc c) v h e =
    rw (mask_put f cs c v (le_of_suc-le-suc h) e, pow-succ' 2 c) (omega arith)

-- every code that is not 0
abbrev pub nonzero : ℕ → Bool
nonzero c = not (eqb c 0)

-- what is not 0 is 1, 2 or 3
pub mask_sum : (cs : List ℕ) → all (λ c. ltb c 4) cs ≡ true → mask_of nonzero cs ≡ mask 1 cs + mask 2 cs + mask 3 cs
mask_sum [] h = refl
mask_sum (c ∷ cs) h = let s = both_true (ltb c 4) _ h in small c (mask_of nonzero cs) (mask 1 cs) (mask 2 cs) (mask 3 cs) (ltb-true _ _ s.0) (mask_sum cs s.1)
  where
    small : (c m x o d : ℕ) → c < 4 → m ≡ x + o + d
        → bit (nonzero c) + m * 2 ≡ bit (eqb c 1) + x * 2 + (bit (eqb c 2) + o * 2) + (bit (eqb c 3) + d * 2)
    small zero m x o d h e = omega arith
    small (suc zero) m x o d h e = omega arith
    small (suc (suc zero)) m x o d h e = omega arith
    small (suc (suc (suc zero))) m x o d h e = omega arith
    small (suc (suc (suc (suc c)))) m x o d h e = absurd (omega arith)

-- the mask of all codes is full exactly if none of them is 0
rest : (b : Bool) (m z n : ℕ) → z + m + 1 ≡ n → bit b + z * 2 + (bit (not b) + m * 2) + 1 ≡ 2 * n
rest true m z n e = omega arith
rest false m z n e = omega arith

pub mask_rest : (cs : List ℕ) → mask 0 cs + mask_of nonzero cs + 1 ≡ 2 ^ length cs
mask_rest [] = rw (pow-zero 2)
mask_rest (c ∷ cs) = rw (pow-succ' 2 (length cs)) (rest (eqb c 0) (mask_of nonzero cs) (mask 0 cs) (2 ^ length cs) (mask_rest cs))

no_zero : (cs : List ℕ) → any (eqb 0) cs ≡ not (eqb (mask 0 cs) 0)
no_zero [] = refl
no_zero (c ∷ cs) = go c (mask 0 cs) (any (eqb 0) cs) (no_zero cs)
  where
    go : (c z : ℕ) (b : Bool) → b ≡ not (eqb z 0) → (eqb 0 c || b) ≡ not (eqb (bit (eqb c 0) + z * 2) 0)
    go zero z b e = rw (ne_eqb (1 + z * 2) 0 (λ q. omega arith))
    go (suc c) zero b e = rw (eqb-zero-suc c, eqb-suc-zero c) e
    go (suc c) (suc z) b e =
        rw (eqb-zero-suc c, eqb-suc-zero c, e, ne_eqb (0 + suc z * 2) 0 (λ q. omega arith), eqb-suc-zero z)

pub full : (cs : List ℕ) → length cs ≡ 9 → eqb (mask_of nonzero cs) 511 ≡ not (any (eqb 0) cs)
full cs n = rw (no_zero cs) (go (mask 0 cs) (mask_of nonzero cs) (mask_rest cs ∙ ap (λ k. 2 ^ k) n))
  where
    go : (z m : ℕ) → z + m + 1 ≡ 512 → eqb m 511 ≡ not (not (eqb z 0))
    go zero m e = eq-eqb m 511 (omega arith)
    go (suc z) m e = ne_eqb m 511 (λ q. omega arith) ∙ rw (eqb-suc-zero z)

-- how many codes are k, as bits that are set
pub ones_mask : (k : ℕ) (cs : List ℕ) → ones (mask k cs) ≡ count k cs
unfolding ones
ones_mask k [] = refl
ones_mask k (c ∷ cs) =
    ones_step (bit (eqb c k) + mask k cs * 2)
    ∙ rw (odd_bit (eqb c k) (mask k cs), half_bit (eqb c k) (mask k cs), ones_mask k cs) (one (eqb c k) (count k cs))
  where
    one : (t : Bool) (n : ℕ) → bit t + n ≡ cond t (suc n) n
    one true n = omega arith
    one false n = omega arith
