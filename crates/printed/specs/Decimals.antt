-- Laws of decimal: what it spells; its two cases, with no bound; how many digits there are. Rests on Printed.
use Rattle.std.specs.Prelude.{◌≡◌, refl, List, [], ◌∷◌, ◌++◌, ℕ, zero, suc, ◌+◌, ◌-◌, ◌*◌, ◌/◌, ◌%◌, ◌^◌, ◌<◌, ◌≤◌, length, get_or}
use Rattle.std.proofs.Common.{ap, ◌∙◌, arith, length-append, lt-ltb, le-ltb}
use Rattle.std.proofs.Math.Nat.{pow-succ', pow-zero}
use Rattle.std.proofs.Math.Decide.{dec_lt}
use Rattle.printed.specs.Printed.{byte, digit, digits, decimal}

-- What digits are read as, after what was read before them
abbrev pub read_from : ℕ → List ℕ → ℕ
read_from n [] = n
read_from n (d ∷ ds) = read_from (n * 10 + (d - 48)) ds

abbrev pub AllDigits : List ℕ → Type 0
AllDigits [] = Unit {0}
AllDigits (d ∷ ds) = (48 ≤ d) × (d ≤ 57) × AllDigits ds

-- Bytes spell a number in the one usual way
pub record Spells (n : ℕ) (ds : List ℕ) : Type 0 where
  pub reads : read_from 0 ds ≡ n
  pub all_digits : AllDigits ds
  pub some : 0 < length ds
  pub no_zero_first : get_or ds 0 0 ≡ 48 → ds ≡ 48 ∷ []

one : (k n : ℕ) → n < 10 → digits k n ≡ byte (digit n)
one zero n h = refl
one (suc k) n h = rw (lt-ltb n 10 h, digits)

more : (k n : ℕ) → 10 ≤ n → digits (suc k) n ≡ digits k (n / 10) ++ byte (digit (n % 10))
more k n h = rw (le-ltb n 10 h, digits)

-- A fact holds of every number's digits if it does of one digit, and of a tenth's digits with one more
module _ (P : ℕ → List ℕ → Type 0) (short : (n : ℕ) → n < 10 → P n (byte (digit n))) (long : (n : ℕ) (ds : List ℕ) → 10 ≤ n → P (n / 10) ds → P n (ds ++ byte (digit (n % 10)))) where
  by_digits : (k n : ℕ) → n ≤ k → P n (digits k n)
  by_digits zero n h = short n (omega arith)
  by_digits (suc k) n h = go (dec_lt n 10) (by_digits k (n / 10))
    where
      go : Dec (n < 10) → (n / 10 ≤ k → P (n / 10) (digits k (n / 10))) → P n (digits (suc k) n)
      go (yes b) p = rw (one (suc k) n b) (short n b)
      go (no b) p = rw (more k n (omega arith)) (long n (digits k (n / 10)) (omega arith) (p (omega arith)))

  by_decimal : (n : ℕ) → P n (decimal n)
  unfolding decimal
  by_decimal n = by_digits n n (omega arith)

read_last : (ds : List ℕ) (n d : ℕ) → read_from n (ds ++ byte (digit d)) ≡ read_from n ds * 10 + d
read_last [] n d = omega arith
read_last (e ∷ ds) n d = read_last ds (n * 10 + (e - 48)) d

digits_last : (ds : List ℕ) (d : ℕ) → d < 10 → AllDigits ds → AllDigits (ds ++ byte (digit d))
digits_last [] d h a = (omega arith, omega arith, tt)
digits_last (e ∷ ds) d h a = (a.0, a.1, digits_last ds d h a.2)

spells_long : (n : ℕ) (ds : List ℕ) → 10 ≤ n → Spells (n / 10) ds → Spells n (ds ++ byte (digit (n % 10)))
spells_long n [] h s = absurd (omega (arith, s.some))
spells_long n (d ∷ ds) h s = record {
  reads = read_last (d ∷ ds) 0 (n % 10) ∙ omega (arith, s.reads);
  all_digits = digits_last (d ∷ ds) (n % 10) (omega arith) s.all_digits;
  some = omega arith;
  no_zero_first = λ e. absurd (omega (arith, s.reads, ap (read_from 0) (s.no_zero_first e)));
}

pub decimal_spells : (n : ℕ) → Spells n (decimal n)
decimal_spells = by_decimal Spells (λ n h. record { reads = omega arith; all_digits = (omega arith, omega arith, tt); some = omega arith; no_zero_first = λ e. ap (λ d. d ∷ []) e }) spells_long

-- any bound from n on will do
enough : (k m n : ℕ) → n ≤ k → n ≤ m → digits m n ≡ digits k n
enough k m n h = by_digits (λ n ds. (m : ℕ) → n ≤ m → digits m n ≡ ds) (λ n b m l. one m n b) one_more k n h m
  where
    one_more : (n : ℕ) (ds : List ℕ) → 10 ≤ n → ((m : ℕ) → n / 10 ≤ m → digits m (n / 10) ≡ ds) → (m : ℕ) → n ≤ m → digits m n ≡ ds ++ byte (digit (n % 10))
    one_more n ds b p zero l = absurd (omega arith)
    one_more n ds b p (suc m) l = more m n b ∙ ap (λ t. t ++ byte (digit (n % 10))) (p m (omega arith))

pub decimal_one : (n : ℕ) → n < 10 → decimal n ≡ byte (digit n)
unfolding decimal
decimal_one n h = one n n h

pub decimal_more : (n : ℕ) → 10 ≤ n → decimal n ≡ decimal (n / 10) ++ byte (digit (n % 10))
unfolding decimal
decimal_more zero h = absurd (omega arith)
decimal_more (suc n) h = more n (suc n) h ∙ ap (λ ds. ds ++ byte (digit (suc n % 10))) (enough (suc n / 10) n (suc n / 10) (omega arith) (omega arith))

-- fewer than a power of ten: at most so many digits
few : (n : ℕ) (j : ℕ) → n < 10 ^ suc j → length (decimal n) ≤ suc j
few = by_decimal (λ n ds. (j : ℕ) → n < 10 ^ suc j → length ds ≤ suc j) (λ n b j l. omega arith) one_more
  where
    one_more : (n : ℕ) (ds : List ℕ) → 10 ≤ n → ((j : ℕ) → n / 10 < 10 ^ suc j → length ds ≤ suc j) → (j : ℕ) → n < 10 ^ suc j → length (ds ++ byte (digit (n % 10))) ≤ suc j
    one_more n ds b p zero l = absurd (omega (arith, pow-succ' 10 0, pow-zero 10))
    one_more n ds b p (suc j) l = omega (arith, p j (omega (arith, pow-succ' 10 (suc j))), length-append ds (byte (digit (n % 10))))

-- a number of 64 bits has at most twenty
pub decimal_few : (n : ℕ) → n < 2 ^ 64 → length (decimal n) ≤ 20
decimal_few n h = few n 19 (omega arith)
