-- A number and its bits, the most significant first, over any width k: bytes (8), a target (4) and cells (2) are cases. Rests on `number` of Record.
use Rattle.std.specs.Prelude.{◌≡◌, ℕ, zero, suc, ◌+◌, ◌*◌, ◌-◌, ◌/◌, ◌%◌, ◌^◌, ◌<◌, ◌≤◌}
use Rattle.std.proofs.Common.{ap, ◌∙◌, div-one, not-suc-le-zero, add-one, arith, pow_mono}
use Rattle.std.proofs.Math.Nat.{pow-succ', pow-zero, div-div-eq-div-mul}
use Rattle.std.proofs.Math.Decide.{dec_lt}
use Rattle.rules.specs.Record.{number}

-- Every value is 0 or 1.
abbrev pub Bits : (ℕ → ℕ) → Type 0
Bits f = (i : ℕ) → f i < 2

-- Bit j of the k that n has.
abbrev pub bit : ℕ → ℕ → ℕ → ℕ
bit n k j = n / 2 ^ (k - 1 - j) % 2

-- The last bit off.
bit_half : (n k j : ℕ) → j < k → bit n (suc k) j ≡ bit (n / 2) k j
bit_half n k j h =
    let e : suc k - 1 - j ≡ suc (k - 1 - j) = omega arith in
    rw (e, pow-succ' 2 (k - 1 - j), ← div-div-eq-div-mul)

bit_last : (n k : ℕ) → bit n (suc k) k ≡ n % 2
bit_last n k = let e : suc k - 1 - k ≡ 0 = omega arith in rw (e, pow-zero 2, div-one)

module _ (f : ℕ → ℕ) (o : ℕ) where
  pub number_lt : Bits f → (k : ℕ) → number f o k < 2 ^ k
  number_lt b zero = rw (pow-zero 2) (omega arith)
  number_lt b (suc k) = let h : number f o k < 2 ^ k = number_lt b k in rw (pow-succ' 2 k) (omega (arith, b (o + k)))

  -- Bit j of the number that k bits make is the one at j.
  pub number_bit : Bits f → (k j : ℕ) → j < k → bit (number f o k) k j ≡ f (o + j)
  number_bit b zero j h = absurd (not-suc-le-zero h)
  number_bit b (suc k) j h = go (number_bit b k j) (dec_lt j k)
    where
      go : (j < k → bit (number f o k) k j ≡ f (o + j)) → Dec (j < k) → bit (number f o (suc k)) (suc k) j ≡ f (o + j)
      go sofar (yes l) =
          let e : number f o (suc k) / 2 ≡ number f o k = omega (arith, b (o + k)) in
          bit_half (number f o (suc k)) k j l ∙ ap (λ n. bit n k j) e ∙ sofar l
      go sofar (no g) =
          let e : j ≡ k = omega arith in
          let l : number f o (suc k) % 2 ≡ f (o + k) = omega (arith, b (o + k)) in
          rw e (bit_last (number f o (suc k)) k ∙ l)

  -- The number that the bits of n make is n.
  pub number_of_bits : (k n : ℕ) → n < 2 ^ k → ((j : ℕ) → j < k → f (o + j) ≡ bit n k j) → number f o k ≡ n
  number_of_bits zero n h same = let l : n < 1 = rw (pow-zero 2) at h in omega arith
  number_of_bits (suc k) n h same =
      let l : n < 2 * 2 ^ k = rw (pow-succ' 2 k) at h in
      let q : number f o k ≡ n / 2 = number_of_bits k (n / 2) (omega arith) (λ j g. same j (omega arith) ∙ bit_half n k j g) in
      let r : f (o + k) ≡ n % 2 = same k (omega arith) ∙ bit_last n k in
      omega arith

-- A loop that gathers bits has the number v of the first k.
pub record Gathers (f : ℕ → ℕ) (o k v : ℕ) : Type 0 where
  pub bits : Bits f
  pub gathered : v ≡ number f o k

module _ {f : ℕ → ℕ} {o k v : ℕ} (g : Gathers f o k v) where
  -- one of eight bits more
  pub gather_room : k < 8 → v < 128
  gather_room h = let q : k ≤ 7 = omega arith in let p : 2 ^ k ≤ 2 ^ 7 = pow_mono q in omega (arith, number_lt f o g.bits k, g.gathered)

  pub gather_fits : {b : ℕ} → k < 8 → b ≡ f (o + k) → v * 2 + b < 256
  gather_fits h e = omega (arith, gather_room h, g.bits (o + k))

  pub gather_next : {b : ℕ} → b ≡ f (o + k) → Gathers f o (k + 1) (v * 2 + b)
  gather_next e = record { bits = g.bits; gathered = rw (add-one, ← e, ← g.gathered) }
