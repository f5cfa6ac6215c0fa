-- Parts of numbers: some of the bits that a number was made of, and a part taken from a part. Rests on `number` of Record and the laws of Bits.
use Rattle.std.specs.Prelude.{◌≡◌, ℕ, zero, suc, ◌+◌, ◌*◌, ◌/◌, ◌%◌, ◌^◌, ◌<◌}
use Rattle.std.proofs.Common.{ap, sym, ◌∙◌, add-zero, add-suc, add_assoc, arith, shr-shr}
use Rattle.std.proofs.Math.Nat.{pow-succ', pow-zero}
use Rattle.std.proofs.Math.Pow.{high, low, field, mod-mod-pow}
use Rattle.rules.specs.Record.{number}
use Rattle.rules.proofs.Bits.{Bits, number_lt}

-- ---- the number of n bits and k after them

module _ (f : ℕ → ℕ) (o : ℕ) where
  pub number_more : (n k : ℕ) → number f o (n + k) ≡ number f o n * 2 ^ k + number f (o + n) k
  number_more n zero = rw (add-zero n, pow-zero 2) (omega arith)
  number_more n (suc k) = rw (add-suc n k, number_more n k, pow-succ' 2 k, add_assoc) (omega arith)

  module _ (b : Bits f) where
    pub number_front : (n k : ℕ) → number f o (n + k) / 2 ^ k ≡ number f o n
    number_front n k = rw (number_more n k) (high (number f o n) k (number_lt f (o + n) b k))

    pub number_back : (n k : ℕ) → number f o (n + k) % 2 ^ k ≡ number f (o + n) k
    number_back n k = rw (number_more n k) (low (number f o n) k (number_lt f (o + n) b k))

    -- the k bits that have n ahead of them and s behind
    pub number_part : (n k s : ℕ) → number f o (n + k + s) / 2 ^ s % 2 ^ k ≡ number f (o + n) k
    number_part n k s = rw (number_front (n + k) s) (number_back n k)

-- ---- a part of a part

-- k bits with s below and m above them, of the bits of v from a on
pub part_of_part : (v a m k s : ℕ) → v / 2 ^ a % 2 ^ (m + k + s) / 2 ^ s % 2 ^ k ≡ v / 2 ^ (a + s) % 2 ^ k
part_of_part v a m k s = ap (λ n. n % 2 ^ k) (field (v / 2 ^ a) (m + k) s) ∙ mod-mod-pow (v / 2 ^ a / 2 ^ s) m k ∙ ap (λ n. n % 2 ^ k) (shr-shr v a s)

-- the same of a number with others put above it
pub part_below : (h v m k s : ℕ) → v < 2 ^ (m + (k + s)) → (h * 2 ^ (m + (k + s)) + v) / 2 ^ s % 2 ^ k ≡ v / 2 ^ s % 2 ^ k
part_below h v m k s l =
    sym (field (h * 2 ^ (m + (k + s)) + v) k s)
    ∙ ap (λ n. n / 2 ^ s) (sym (mod-mod-pow (h * 2 ^ (m + (k + s)) + v) m (k + s)) ∙ ap (λ n. n % 2 ^ (k + s)) (low h (m + (k + s)) l))
    ∙ field v k s
