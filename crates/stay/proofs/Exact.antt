-- Sums, products and comparisons of floats that are fractions of whole numbers: where 53 digits are enough nothing is rounded. Rests on Margin and Steps.
use Rattle.std.specs.Prelude.{ℕ, zero, suc, ◌+◌, ◌-◌, ◌*◌, ◌^◌, ◌<◌, ◌≤◌, ◌≡◌, refl, Bool, true, false, ◌&&◌, ◌||◌, pos, ℤ, Float}
use Rattle.std.proofs.Common.{ap, sym, subst, ◌∙◌, true≢false, add-mul, zero-mul, mul_right_comm, mul-pos, mul_assoc, mul-one, mul_comm, mul-lt-mul_of_pos_right, lt_of_lt_of_le, lt_of_le_of_lt, le_of_lt, mul-le-mul, arith, lt-ltb, le-ltb, eqb-true, eq-eqb, ne_eqb, le-leb, pow_pos}
use Rattle.std.specs.Bool.{beq}
use Rattle.std.proofs.Math.Nat.{eq_of_mul-eq-mul_right, mul-mul-mul_comm}
use Rattle.std.proofs.Math.Bool.{or-true}
use Rattle.std.proofs.Math.Decide.{dec_le, ℕ_discrete}
use Rattle.std.proofs.lemmas.Bool.{lt-leb}
use lib.Dec.{eqb, ltb, lit<, leb}
use Rattle.std.specs.Float.Ieee as Ieee
use Rattle.std.specs.Float.{nan, inf, fin, binary64}
use Rattle.std.specs.Float.Ieee.{up, down, round, sum, add, mul, eq, le, of_int}
use Rattle.std.specs.List.{list_any, range_with_len}
use Rattle.stay.specs.Margin.{steps_in, is_margin, IsAt}
use Rattle.stay.proofs.Steps.{both, margin_at, at_margin}
use Rattle.std.specs.Float.Ieee.Exact.{HasValue, round_exact}
use Rattle.std.specs.Float.Ieee.Back.{round_whole}
use Rattle.std.specs.Float.Ieee.Fits.{down_pos}
use Rattle.std.specs.Float.Ieee.Scale.{round_same}
use Rattle.std.specs.Float.Ieee.Order.{transfer}

-- Of two floats that have values which are not negative, what holds of finite ones without a sign holds
positives : (P : Float → Float → Type 0) (x y : Float) (a c b d : ℕ) → HasValue x false a c → HasValue y false b d
    → ((m : ℕ) (e : ℤ) (n : ℕ) (g : ℤ) → HasValue (fin false m e) false a c → HasValue (fin false n g) false b d → P (fin false m e) (fin false n g)) → P x y
positives P nan y a c b d h k f = absurd h
positives P (inf s) y a c b d h k f = absurd h
positives P (fin true m e) y a c b d h k f = absurd (true≢false h.0)
positives P (fin false m e) nan a c b d h k f = absurd k
positives P (fin false m e) (inf t) a c b d h k f = absurd k
positives P (fin false m e) (fin true n g) a c b d h k f = absurd (true≢false k.0)
positives P (fin false m e) (fin false n g) a c b d h k f = f m e n g h k

pub mul_value : (x y : Float) (a c b d : ℕ) → 0 < c → 0 < d → HasValue x false a c → HasValue y false b d
    → mul binary64 x y ≡ round binary64 false (a * b) (c * d)
unfolding mul
mul_value x y a c b d C D h k = positives (λ x y. mul binary64 x y ≡ round binary64 false (a * b) (c * d)) x y a c b d h k (λ m e n g h k.
    round_same binary64 false (m * up e * (n * up g)) (down e * down g) (a * b) (c * d) (mul-pos (down_pos e) (down_pos g)) (mul-pos C D)
    (mul-mul-mul_comm (m * up e) (n * up g) c d ∙ ap (λ (z : ℕ). z * (n * up g * d)) h.1 ∙ ap (λ (z : ℕ). a * down e * z) k.1 ∙ mul-mul-mul_comm a (down e) b (down g)))

-- a / 256 is a value of the format for a of at most 53 digits
pub over_256 : (a : ℕ) → a < 2 ^ 53 → HasValue (round binary64 false a 256) false a 256
over_256 a h =
    round_exact binary64 false a 256 a 1066 (lit< tt) h
    (lt_of_lt_of_le (mul-lt-mul_of_pos_right h (pow_pos 1066)) (lib.Dec.lit≤ tt))
    (sym (mul_assoc a (2 ^ 1066) 256))

pub product : (x y : Float) (a b : ℕ) → HasValue x false a 1 → HasValue y false b 256 → a * b < 2 ^ 53 → HasValue (mul binary64 x y) false (a * b) 256
product x y a b h k l = subst (λ (z : Float). HasValue z false (a * b) 256) (sym (mul_value x y a 1 b 256 (lit< tt) (lit< tt) h k)) (over_256 (a * b) l)

pub whole : (n : ℕ) → n ≤ 2 ^ 53 → HasValue (of_int binary64 (pos n)) false n 1
unfolding of_int
whole n h = round_whole binary64 false n h

-- At most, as the format compares: less, or equal
at_most : (A B : ℕ) → (ltb A B || (eqb A B && true)) ≡ leb A B
at_most A B = go (dec_le A B) (ℕ_discrete A B)
  where
    go : Dec (A ≤ B) → Dec (A ≡ B) → (ltb A B || (eqb A B && true)) ≡ leb A B
    go (yes l) (yes e) = rw (le-ltb A B (omega arith), eq-eqb A B e, le-leb A B l)
    go (yes l) (no q) = rw (lt-ltb A B (omega (arith, q)), le-leb A B l)
    go (no q) d = rw (le-ltb A B (omega (arith, q)), ne_eqb A B (λ e. q (omega arith)), lt-leb A B (omega (arith, q)))

same_test : (A B C D : ℕ) → (A ≤ B → C ≤ D) → (C ≤ D → A ≤ B) → leb A B ≡ leb C D
same_test A B C D f g = go (dec_le A B)
  where
    go : Dec (A ≤ B) → leb A B ≡ leb C D
    go (yes p) = le-leb A B p ∙ sym (le-leb C D (f p))
    go (no q) = let r : C ≤ D → ⊥ = λ z. q (g z) in lt-leb A B (omega (arith, q)) ∙ sym (lt-leb C D (omega (arith, r)))

pub le_values : (x y : Float) (a c b d : ℕ) → 0 < c → 0 < d → HasValue x false a c → HasValue y false b d → le x y ≡ leb (a * d) (b * c)
unfolding le
le_values x y a c b d C D h k = positives (λ x y. le x y ≡ leb (a * d) (b * c)) x y a c b d h k (λ m e n g h k.
    at_most (m * up e * down g) (n * up g * down e)
    ∙ same_test (m * up e * down g) (n * up g * down e) (a * d) (b * c)
    (transfer a b c d (m * up e) (n * up g) (down e) (down g) (down_pos e) (down_pos g) (sym h.1) (sym k.1))
    (transfer (m * up e) (n * up g) (down e) (down g) a b c d C D h.1 k.1))

-- 2 ^ -8, the constant 0.00390625
pub part : HasValue (Ieee.of_bits binary64 4571153621781053440) false 1 256
part = unfold Ieee.of_bits Ieee.of_fields Ieee.odd Ieee.units in (refl, refl)

-- With f 1 plus k 256ths, the product is exact
pub exact_product : (phi k : ℕ) (f : Float) → phi < 16777216 → k ≤ 256 → HasValue f false (256 + k) 256 → HasValue (mul binary64 (of_int binary64 (pos phi)) f) false (phi * (256 + k)) 256
exact_product phi k f hp hk v =
    let q : 256 + k ≤ 512 = omega arith in
    product (of_int binary64 (pos phi)) f phi (256 + k) (whole phi (omega arith)) v (lt_of_le_of_lt (mul-le-mul (le_of_lt hp) q) (lit< {m = 16777216 * 512} tt))

-- and the test of floats is that of whole numbers
pub exact : (phi delta k : ℕ) (f : Float) → phi < 16777216 → k ≤ 256 → delta ≤ 2 ^ 53 → HasValue f false (256 + k) 256
    → le (of_int binary64 (pos delta)) (mul binary64 (of_int binary64 (pos phi)) f) ≡ leb (256 * delta) (phi * (256 + k))
exact phi delta k f hp hk hd v =
    le_values (of_int binary64 (pos delta)) (mul binary64 (of_int binary64 (pos phi)) f) delta 1 (phi * (256 + k)) 256 (lit< tt) (lit< tt)
    (whole delta hd) (exact_product phi k f hp hk v)
    ∙ ap (leb (delta * 256)) (mul-one (phi * (256 + k)))
    ∙ ap (λ (n : ℕ). leb n (phi * (256 + k))) (mul_comm delta 256)

-- The sum of two fractions, where both are positive
add_value : (x y : Float) (a c b d : ℕ) → 0 < c → 0 < d → HasValue x false a c → HasValue y false b d → add binary64 x y ≡ round binary64 false (a * d + b * c) (c * d)
unfolding add sum
add_value x y a c b d C D h k = positives (λ x y. add binary64 x y ≡ round binary64 false (a * d + b * c) (c * d)) x y a c b d h k (λ m e n g h k.
    let p : m * up e * down g * (c * d) ≡ a * d * (down e * down g) =
    mul-mul-mul_comm (m * up e) (down g) c d ∙ ap (λ (z : ℕ). z * (down g * d)) h.1 ∙ ap (λ (z : ℕ). a * down e * z) (mul_comm (down g) d) ∙ mul-mul-mul_comm a (down e) d (down g) in
    let q : n * up g * down e * (c * d) ≡ b * c * (down e * down g) =
    ap (λ (z : ℕ). n * up g * down e * z) (mul_comm c d) ∙ mul-mul-mul_comm (n * up g) (down e) d c ∙ ap (λ (z : ℕ). z * (down e * c)) k.1
    ∙ ap (λ (z : ℕ). b * down g * z) (mul_comm (down e) c) ∙ mul-mul-mul_comm b (down g) c (down e) ∙ ap (λ (z : ℕ). b * c * z) (mul_comm (down g) (down e)) in
    round_same binary64 false (m * up e * down g + n * up g * down e) (down e * down g) (a * d + b * c) (c * d) (mul-pos (down_pos e) (down_pos g)) (mul-pos C D)
    (add-mul (m * up e * down g) (n * up g * down e) (c * d) ∙ ap (λ (z : ℕ). z + n * up g * down e * (c * d)) p ∙ ap (λ (z : ℕ). a * d * (down e * down g) + z) q
    ∙ sym (add-mul (a * d) (b * c) (down e * down g))))

-- 1, the constant 1.0
one : HasValue (Ieee.of_bits binary64 4607182418800017408) false 1 1
one = unfold Ieee.of_bits Ieee.of_fields Ieee.odd Ieee.units in (refl, refl)

zero_of : (k d : ℕ) → 0 < d → k * d ≡ 0 → k ≡ 0
zero_of k d p e = eq_of_mul-eq-mul_right d p k 0 (e ∙ sym (zero-mul d))

-- 1 and negative zero
add_zero : (x y : Float) → HasValue x false 1 1 → (n : ℕ) (g : ℤ) → y ≡ fin true n g → n * up g ≡ 0 → add binary64 x y ≡ round binary64 false 256 256
unfolding add sum
add_zero nan y h n g q z = absurd h
add_zero (inf s) y h n g q z = absurd h
add_zero (fin true m e) y h n g q z = absurd (true≢false h.0)
add_zero (fin false m e) y h n g q z =
    let b : n * up g * down e ≡ 0 = ap (λ (w : ℕ). w * down e) z ∙ zero-mul (down e) in
    let v : m * up e ≡ down e = omega (arith, h.1) in
    rw (q, b, le-ltb (m * up e * down g) 0 (omega arith))
    (round_same binary64 false (m * up e * down g - 0) (down e * down g) 256 256 (mul-pos (down_pos e) (down_pos g)) (lit< tt)
    (ap (λ (w : ℕ). w * 256) (omega (arith, ap (λ (w : ℕ). w * down g) v)) ∙ mul_comm (down e * down g) 256))

pub one_more : (x : Float) (k : ℕ) → k ≤ 256 → IsAt x k → HasValue (add binary64 (Ieee.of_bits binary64 4607182418800017408) x) false (256 + k) 256
one_more nan k l h = absurd h
one_more (inf s) k l h = absurd h
one_more (fin false m e) k l h =
    subst (λ (z : Float). HasValue z false (256 + k) 256)
    (sym (add_value (Ieee.of_bits binary64 4607182418800017408) (fin false m e) 1 1 k 256 (lit< tt) (lit< tt) one (refl, h.0) ∙ ap (λ (z : ℕ). round binary64 false z 256) (omega arith)))
    (over_256 (256 + k) (let q : 256 + k ≤ 512 = omega arith in lt_of_le_of_lt q (lit< {m = 512} tt)))
one_more (fin true m e) k l h =
    let z = h.1 refl in
    let q : k * down e ≡ 0 = omega (arith, h.0, z) in
    let r : k ≡ 0 = zero_of k (down e) (down_pos e) q in
    subst (λ (w : Float). HasValue w false (256 + k) 256)
    (sym (add_zero (Ieee.of_bits binary64 4607182418800017408) (fin true m e) one m e refl z ∙ ap (λ (w : ℕ). round binary64 false w 256) (omega arith)))
    (over_256 (256 + k) (let q : 256 + k ≤ 512 = omega arith in lt_of_le_of_lt q (lit< {m = 512} tt)))

-- A float equals k / 256 exactly if it is at k
pub eq_at : (x y : Float) (k : ℕ) → HasValue y false k 256 → eq x y ≡ true → IsAt x k
unfolding eq
eq_at nan y k v h = absurd (true≢false (sym h))
eq_at (inf s) nan k v h = absurd v
eq_at (inf s) (inf t) k v h = absurd v
eq_at (inf s) (fin t n g) k v h = absurd (true≢false (sym h))
eq_at (fin s m e) nan k v h = absurd v
eq_at (fin s m e) (inf t) k v h = absurd v
eq_at (fin s m e) (fin true n g) k v h = absurd (true≢false v.0)
eq_at (fin s m e) (fin false n g) k v h =
    let b = both _ _ h in
    let p : m * up e * down g ≡ n * up g * down e = eqb-true _ _ b.0 in (
      eq_of_mul-eq-mul_right (down g) (down_pos g) (m * up e * 256) (k * down e)
          (mul_right_comm (m * up e) 256 (down g) ∙ ap (λ (z : ℕ). z * 256) p ∙ mul_right_comm (n * up g) (down e) 256 ∙ ap (λ (z : ℕ). z * down e) v.1 ∙ mul_right_comm k (down g) (down e)),
      λ q. sign s q b.1,
    )
  where
    sign : (t : Bool) → t ≡ true → (beq t false || eqb (m * up e * down g) 0) ≡ true → m * up e ≡ 0
    sign true q w = zero_of (m * up e) (down g) (down_pos g) (eqb-true _ _ w)
    sign false q w = absurd (true≢false (sym q))

pub at_eq : (x y : Float) (k : ℕ) → HasValue y false k 256 → IsAt x k → eq x y ≡ true
unfolding eq
at_eq nan y k v h = absurd h
at_eq (inf s) y k v h = absurd h
at_eq (fin s m e) nan k v h = absurd v
at_eq (fin s m e) (inf t) k v h = absurd v
at_eq (fin s m e) (fin true n g) k v h = absurd (true≢false v.0)
at_eq (fin s m e) (fin false n g) k v h =
    let p : m * up e * down g * 256 ≡ n * up g * down e * 256 =
    mul_right_comm (m * up e) (down g) 256 ∙ ap (λ (z : ℕ). z * down g) h.0 ∙ mul_right_comm k (down e) (down g) ∙ ap (λ (z : ℕ). z * down e) (sym v.1)
    ∙ mul_right_comm (n * up g) 256 (down e) in
    rw (eq-eqb (m * up e * down g) (n * up g * down e) (omega arith)) (sign s h.1)
  where
    sign : (t : Bool) → (t ≡ true → m * up e ≡ 0) → (beq t false || eqb (m * up e * down g) 0) ≡ true
    sign true w = eq-eqb _ _ (ap (λ (z : ℕ). z * down g) (w refl) ∙ zero-mul (down g))
    sign false w = refl

pub steps : (k : ℕ) → k ≤ 256 → HasValue (mul binary64 (of_int binary64 (pos k)) (Ieee.of_bits binary64 4571153621781053440)) false k 256
steps k l =
    subst (λ (z : ℕ). HasValue (mul binary64 (of_int binary64 (pos k)) (Ieee.of_bits binary64 4571153621781053440)) false z 256) (mul-one k)
    (product (of_int binary64 (pos k)) (Ieee.of_bits binary64 4571153621781053440) k 1 (whole k (omega arith)) part (omega arith))

-- A float is a margin exactly if it passes one of the tests: it equals k / 256 for a k of at most 256
abbrev pub test_at : Float → ℕ → Bool
test_at x k = eq x (mul binary64 (of_int binary64 (pos k)) (Ieee.of_bits binary64 4571153621781053440))

one_of : (f : ℕ → Bool) (a n k : ℕ) → a ≤ k → k < a + n → f k ≡ true → list_any f (range_with_len a n) ≡ true
one_of f a zero k l h e = absurd (omega arith)
one_of f a (suc n) k l h e =
    elim (ℕ_discrete a k) [ yes q ↦ rw (q, e) | no q ↦ rw (one_of f (a + 1) n k (omega (arith, q)) (omega arith) e) (or-true (f a)) ]

none_of : (f : ℕ → Bool) (a n : ℕ) → ((k : ℕ) → a ≤ k → k < a + n → f k ≡ false) → list_any f (range_with_len a n) ≡ false
none_of f a zero h = refl
none_of f a (suc n) h = let e = h a (omega arith) (omega arith) in rw e (none_of f (a + 1) n (λ k l m. h k (omega arith) (omega arith)))

pub any_margin : (x : Float) (n : ℕ) → n ≡ 257 → list_any (test_at x) (range_with_len 0 n) ≡ is_margin x
any_margin x n e = go (is_margin x) refl
  where
    go : (b : Bool) → is_margin x ≡ b → list_any (test_at x) (range_with_len 0 n) ≡ b
    go true m = let p = margin_at x m in one_of (test_at x) 0 n (steps_in x) (omega arith) (omega (arith, p.0)) (at_eq x _ (steps_in x) (steps (steps_in x) p.0) p.1)
    go false m = none_of (test_at x) 0 n (λ k z l. each k (omega arith) (test_at x k) refl)
      where
        each : (k : ℕ) → k < n → (b : Bool) → test_at x k ≡ b → b ≡ false
        each k l true t = absurd (true≢false (sym (at_margin x k (omega arith) (eq_at x _ k (steps k (omega arith)) t)).0 ∙ m))
        each k l false t = refl
