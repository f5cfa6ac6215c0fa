-- Words put together from bytes, and the law of the cells taken from them. Rests on RecordWords and Parts.
use Rattle.std.specs.Prelude.{◌≡◌, refl, List, ℕ, zero, suc, ◌+◌, ◌*◌, ◌-◌, ◌/◌, ◌%◌, ◌^◌, ◌<◌, ◌≤◌, get_or}
use Rattle.std.proofs.Common.{ap, ap₂, sym, ◌∙◌, zero-add, add-zero, add-suc, add_assoc, ne_eqb, lt-ltb, le-ltb}
use Rattle.std.proofs.Math.Nat.{pow-succ', pow-zero}
use Rattle.std.proofs.Math.Decide.{dec_lt, ℕ_discrete}
use native.Mathlib.Omega.{arith}
use Rattle.rules.specs.Record.{bit_at, number}
use Rattle.rules.proofs.Bits.{bit, number_of_bits}
use Rattle.rules.proofs.Roundtrip.{load_bits}
use Rattle.cells.specs.RecordWords.{together, words_of, cell_held, CellsFromWords}
use Rattle.cells.proofs.Parts.{number_more, number_front, number_back, number_part}

-- n bytes and j after them
pub together_more : (bs : List ℕ) (k n j : ℕ) → together bs k (n + j) ≡ together bs k n * 256 ^ j + together bs (k + n) j
together_more bs k n zero = rw (add-zero n, pow-zero 256) (omega arith)
together_more bs k n (suc j) = rw (add-suc n j, together_more bs k n j, pow-succ' 256 j, add_assoc) (omega arith)

pub two_together : (bs : List ℕ) (k : ℕ) → get_or bs k 0 * 256 + get_or bs (k + 1) 0 ≡ together bs k 2
two_together bs k = rw (add-zero k) (omega arith)

module _ (bs : List ℕ) where
  -- A byte is the number that its eight bits make.
  byte_bits : (k : ℕ) → get_or bs k 0 < 256 → number (bit_at bs) (8 * k) 8 ≡ get_or bs k 0
  unfolding bit_at
  byte_bits k h = number_of_bits (bit_at bs) (8 * k) 8 (get_or bs k 0) h same
    where
      same : (j : ℕ) → j < 8 → bit_at bs (8 * k + j) ≡ bit (get_or bs k 0) 8 j
      same j g =
          let q : (8 * k + j) / 8 ≡ k = omega arith in
          let r : (8 * k + j) % 8 ≡ j = omega arith in
          rw (q, r)

  -- n bytes are the number that their bits make.
  together_bits : ((k : ℕ) → get_or bs k 0 < 256) → (k n : ℕ) → together bs k n ≡ number (bit_at bs) (8 * k) (8 * n)
  together_bits small k zero = refl
  together_bits small k (suc n) =
      let e : 8 * suc n ≡ 8 * n + 8 = omega arith in
      let d : 8 * (k + n) ≡ 8 * k + 8 * n = omega arith in
      let last = byte_bits (k + n) (small (k + n)) in
      rw (e, number_more (bit_at bs) (8 * k) (8 * n) 8, ← d, last, together_bits small k n)

  -- the k bits from bit o on, out of a word that begins at bit a
  part : (a o k v : ℕ) → v ≡ number (bit_at bs) a 64 → a ≤ o → o + k ≤ a + 64 → v / 2 ^ (a + 64 - o - k) % 2 ^ k ≡ number (bit_at bs) o k
  part a o k v e h g =
      let s : ℕ = a + 64 - o - k in
      let n : ℕ = o - a in
      let q : 64 ≡ n + k + s = omega arith in
      let r : a + n ≡ o = omega arith in
      ap (λ m. m / 2 ^ s % 2 ^ k) (e ∙ ap (number (bit_at bs) a) q) ∙ number_part (bit_at bs) a (load_bits bs) n k s ∙ ap (λ m. number (bit_at bs) m k) r

  module _ (small : (k : ℕ) → get_or bs k 0 < 256) where
    first_bits : (words_of bs).first ≡ number (bit_at bs) 0 64
    unfolding words_of
    first_bits = together_bits small 0 8

    second_bits : (words_of bs).second ≡ number (bit_at bs) 64 64
    unfolding words_of
    second_bits = together_bits small 8 8

    third_bits : (words_of bs).third ≡ number (bit_at bs) 104 64
    unfolding words_of
    third_bits = together_bits small 13 8

    -- cell 29: the last bit of the first word, and the first of the second
    joined : (words_of bs).first % 2 * 2 + (words_of bs).second / 2 ^ 63 ≡ number (bit_at bs) 63 2
    joined =
        ap₂ (λ m n. m * 2 + n)
        (ap (λ v. v % 2) first_bits ∙ number_back (bit_at bs) 0 (load_bits bs) 63 1)
        (ap (λ v. v / 2 ^ 63) second_bits ∙ number_front (bit_at bs) 64 (load_bits bs) 1 63)
        ∙ sym (number_more (bit_at bs) 63 1 1)

    -- ---- what is no cell: the side to move, the target, and the last bit

    pub side_in : (words_of bs).first / 2 ^ 63 ≡ bit_at bs 0
    side_in = ap (λ v. v / 2 ^ 63) first_bits ∙ number_front (bit_at bs) 0 (load_bits bs) 1 63 ∙ zero-add (bit_at bs 0)

    pub target_in : (words_of bs).first / 2 ^ 59 % 16 ≡ number (bit_at bs) 1 4
    target_in = part 0 1 4 _ first_bits (omega arith) (omega arith)

    pub last_in : (words_of bs).third % 2 ≡ bit_at bs 167
    last_in = ap (λ v. v % 2) third_bits ∙ number_back (bit_at bs) 104 (load_bits bs) 63 1 ∙ zero-add (bit_at bs 167)

-- The cell taken from the words is the one read bit by bit.
pub cells_from_words : CellsFromWords
unfolding cell_held
cells_from_words bs small i h = joins (ℕ_discrete i 29)
  where
    later : (i ≡ 29 → ⊥) → (i < 29 → ⊥) → Dec (i < 54) → cell_held (words_of bs) i ≡ number (bit_at bs) (5 + 2 * i) 2
    later n m (yes l) =
        let e : 121 - 2 * i ≡ 64 + 64 - (5 + 2 * i) - 2 = omega arith in
        rw (ne_eqb i 29 n, le-ltb i 29 (omega arith), lt-ltb i 54 l, e) (part bs 64 (5 + 2 * i) 2 _ (second_bits bs small) (omega arith) (omega arith))
    later n m (no l) =
        let e : 161 - 2 * i ≡ 104 + 64 - (5 + 2 * i) - 2 = omega arith in
        rw (ne_eqb i 29 n, le-ltb i 29 (omega arith), le-ltb i 54 (omega arith), e) (part bs 104 (5 + 2 * i) 2 _ (third_bits bs small) (omega arith) (omega arith))

    alone : (i ≡ 29 → ⊥) → Dec (i < 29) → cell_held (words_of bs) i ≡ number (bit_at bs) (5 + 2 * i) 2
    alone n (yes l) =
        let e : 57 - 2 * i ≡ 0 + 64 - (5 + 2 * i) - 2 = omega arith in
        rw (ne_eqb i 29 n, lt-ltb i 29 l, e) (part bs 0 (5 + 2 * i) 2 _ (first_bits bs small) (omega arith) (omega arith))
    alone n (no m) = later n m (dec_lt i 54)

    joins : Dec (i ≡ 29) → cell_held (words_of bs) i ≡ number (bit_at bs) (5 + 2 * i) 2
    joins (yes e) = rw e (joined bs small)
    joins (no n) = alone n (dec_lt i 29)
