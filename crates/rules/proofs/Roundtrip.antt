-- Records there and back: a loaded record stored again is its own bytes, a stored accepted position loads as itself. Rests on Record, Bits, Answers and Checks.
use Rattle.std.specs.Prelude.{◌≡◌, Bool, List, ◌⊎◌, ℕ, zero, suc, ◌+◌, ◌*◌, ◌-◌, ◌/◌, ◌%◌, ◌^◌, ◌<◌, ◌≤◌, eqb, ltb, get_or, length}
use Rattle.std.proofs.Math.Path.{refl, ap, sym}
use Rattle.std.proofs.Common.{◌∙◌, inl, inr}
use Rattle.std.proofs.Math.Bool.{true, false, cond}
use Rattle.std.proofs.Math.Decide.{dec_lt, ℕ_discrete}
use native.Mathlib.Omega.{arith}
use borrow.Author.Tests.{ne_eqb, lt-ltb, le-ltb, ltb-true}
use Rattle.std.proofs.Math.ListN.{get_or-eq_default}
use Rattle.rules.specs.Rules.{Player, Position, answers}
use Rattle.rules.specs.Rules.Player.{X, O}
use Rattle.rules.specs.Record.{bit_at, number, player_of, side_bit, position_of, record_bit, record_of, position_refusal, refusal_to6, refusal, Accepted}
use Rattle.rules.specs.Refusals.{first_refusal}
use Rattle.rules.proofs.RefusalLaws.{last_refuses}
use Rattle.rules.proofs.Bits.{Bits, bit, number_lt, number_bit, number_of_bits}
use Rattle.rules.proofs.Answers.{answers_zero, answers_are}
use Rattle.rules.proofs.Tests.{all_at}
use Rattle.rules.proofs.Checks.{loads, Shaped, shaped}

-- The bits of a record by place: the side, bit j of the target, bit j of cell i, the last.
pub by_place : (P : ℕ → Type 0) → P 0 → ((j : ℕ) → j < 4 → P (1 + j)) → ((i j : ℕ) → i < 81 → j < 2 → P (5 + 2 * i + j)) → P 167
    → (o : ℕ) → o < 168 → P o
by_place P s t c l o h = first (ℕ_discrete o 0)
  where
    last : 5 ≤ o → Dec (o < 167) → P o
    last g (yes q) =
        let e : 5 + 2 * ((o - 5) / 2) + (o - 5) % 2 ≡ o = omega arith in
        rw e at (c ((o - 5) / 2) ((o - 5) % 2) (omega arith) (omega arith))
    last g (no q) = let e : o ≡ 167 = omega arith in rw e l

    second : (o ≡ 0 → ⊥) → Dec (o < 5) → P o
    second n (yes q) = let e : 1 + (o - 1) ≡ o = omega arith in rw e at (t (o - 1) (omega arith))
    second n (no q) = last (omega arith) (dec_lt o 167)

    first : Dec (o ≡ 0) → P o
    first (yes e) = rw e s
    first (no n) = second n (dec_lt o 5)

pub side_lt : (s : Player) → side_bit s < 2
side_lt X = omega arith
side_lt O = omega arith

-- a side's number gives the side back
pub side_back : (s : Player) → player_of (side_bit s) ≡ s
side_back X = refl
side_back O = refl

pub bit_back : (n : ℕ) → n < 2 → side_bit (player_of n) ≡ n
bit_back zero h = refl
bit_back (suc n) h = omega arith

module _ (p : Position) where
  pub record_side : record_bit p 0 ≡ side_bit p.side
  unfolding record_bit
  record_side = refl

  pub record_target : (j : ℕ) → j < 4 → record_bit p (1 + j) ≡ bit p.target 4 j
  unfolding record_bit
  record_target j h =
      let n : 1 + j ≡ 0 → ⊥ = λ e. omega arith in
      let e : 4 - (1 + j) ≡ 3 - j = omega arith in
      rw (ne_eqb (1 + j) 0 n, lt-ltb (1 + j) 5 (omega arith), e)

  pub record_cell : (i j : ℕ) → i < 81 → j < 2 → record_bit p (5 + 2 * i + j) ≡ bit (get_or p.cells i 0) 2 j
  unfolding record_bit
  record_cell i j h g =
      let n : 5 + 2 * i + j ≡ 0 → ⊥ = λ e. omega arith in
      let e : (5 + 2 * i + j - 5) / 2 ≡ i = omega arith in
      let q : (5 + 2 * i + j) % 2 ≡ 1 - j = omega arith in
      rw (ne_eqb (5 + 2 * i + j) 0 n, le-ltb (5 + 2 * i + j) 5 (omega arith), lt-ltb (5 + 2 * i + j) 167 (omega arith), e, q)

  pub record_last : record_bit p 167 ≡ 0
  unfolding record_bit
  record_last = refl

  pub record_bits : Bits (record_bit p)
  unfolding record_bit
  record_bits o = either (eqb o 0) (side_lt p.side) (either (ltb o 5) (omega arith) (either (ltb o 167) (omega arith) (omega arith)))
    where
      either : (t : Bool) {a b : ℕ} → a < 2 → b < 2 → cond t a b < 2
      either true h g = h
      either false h g = g

  pub record_length : length (record_of p) ≡ 21
  unfolding record_of
  record_length = refl

  record_byte_at : (k : ℕ) → k < 21 → get_or (record_of p) k 0 ≡ number (record_bit p) (8 * k) 8
  unfolding record_of
  record_byte_at k h = answers_zero (λ i. number (record_bit p) (8 * i) 8) 21 k 0 h

  pub record_bytes : (k : ℕ) → get_or (record_of p) k 0 < 256
  record_bytes k = go (dec_lt k 21)
    where
      go : Dec (k < 21) → get_or (record_of p) k 0 < 256
      go (yes h) = rw (record_byte_at k h) (number_lt (record_bit p) (8 * k) record_bits 8)
      go (no h) = rw (get_or-eq_default (record_of p) 0 {n = k} (omega (arith, record_length))) (omega arith)

  -- Every bit that was written is read back.
  pub read_back : (o : ℕ) → o < 168 → bit_at (record_of p) o ≡ record_bit p o
  unfolding bit_at
  read_back o h =
      let e : 8 * (o / 8) + o % 8 ≡ o = omega arith in
      ap (λ n. n / 2 ^ (7 - o % 8) % 2) (record_byte_at (o / 8) (omega arith))
      ∙ number_bit (record_bit p) (8 * (o / 8)) record_bits 8 (o % 8) (omega arith) ∙ ap (record_bit p) e

module _ (bs : List ℕ) where
  pub load_bits : Bits (bit_at bs)
  unfolding bit_at
  load_bits o = omega arith

  pub load_cell : (i : ℕ) → i < 81 → get_or (position_of bs).cells i 0 ≡ number (bit_at bs) (5 + 2 * i) 2
  unfolding position_of
  load_cell i h = answers_zero (λ k. number (bit_at bs) (5 + 2 * k) 2) 81 i 0 h

  pub load_whole : length (position_of bs).cells ≡ 81
  unfolding position_of
  load_whole = refl

  -- Every bit that was read is written back, if the last one is 0.
  pub write_back : bit_at bs 167 ≡ 0 → (o : ℕ) → o < 168 → record_bit (position_of bs) o ≡ bit_at bs o
  unfolding position_of
  write_back z = by_place (λ o. record_bit (position_of bs) o ≡ bit_at bs o) side target cell (record_last (position_of bs) ∙ sym z)
    where
      side : record_bit (position_of bs) 0 ≡ bit_at bs 0
      side = record_side (position_of bs) ∙ bit_back (bit_at bs 0) (load_bits 0)

      target : (j : ℕ) → j < 4 → record_bit (position_of bs) (1 + j) ≡ bit_at bs (1 + j)
      target j h = record_target (position_of bs) j h ∙ number_bit (bit_at bs) 1 load_bits 4 j h

      cell : (i j : ℕ) → i < 81 → j < 2 → record_bit (position_of bs) (5 + 2 * i + j) ≡ bit_at bs (5 + 2 * i + j)
      cell i j h g =
          record_cell (position_of bs) i j h g ∙ ap (λ n. bit n 2 j) (load_cell i h) ∙ number_bit (bit_at bs) (5 + 2 * i) load_bits 2 j g

  -- 21 bytes whose last bit is 0 are the record of what they say.
  pub store_load : length bs ≡ 21 → ((i : ℕ) → get_or bs i 0 < 256) → bit_at bs 167 ≡ 0 → record_of (position_of bs) ≡ bs
  unfolding record_of bit_at
  store_load e small z =
      answers_are (λ k. number (record_bit (position_of bs)) (8 * k) 8) bs 21 0 e
      (λ k h. number_of_bits (record_bit (position_of bs)) (8 * k) 8 (get_or bs k 0) (small k) (same k h))
    where
      same : (k : ℕ) → k < 21 → (j : ℕ) → j < 8 → record_bit (position_of bs) (8 * k + j) ≡ bit (get_or bs k 0) 8 j
      same k h j g =
          let q : (8 * k + j) / 8 ≡ k = omega arith in
          let r : (8 * k + j) % 8 ≡ j = omega arith in
          write_back z (8 * k + j) (omega arith) ∙ rw (q, r)

same_position : (p q : Position) → p.side ≡ q.side → p.target ≡ q.target → p.cells ≡ q.cells → p ≡ q
same_position p q s t c = λ i. record { side = s i; target = t i; cells = c i }

module _ (p : Position) (shape : Shaped p) where
  -- What the record of 81 cells and a target says is the position.
  pub load_store : position_of (record_of p) ≡ p
  unfolding position_of
  load_store = same_position (position_of (record_of p)) p side target cells
    where
      -- k bits of the record from o on, which are those of n
      read : (o k n : ℕ) → o + k < 168 → n < 2 ^ k → ((j : ℕ) → j < k → record_bit p (o + j) ≡ bit n k j) → number (bit_at (record_of p)) o k ≡ n
      read o k n h l same = number_of_bits (bit_at (record_of p)) o k n l (λ j g. read_back p (o + j) (omega arith) ∙ same j g)

      low : (p.target < 9) ⊎ (p.target ≡ 15) → p.target < 16
      low (inl h) = omega arith
      low (inr e) = omega arith

      cell : (i : ℕ) → i < 81 → get_or p.cells i 0 < 4
      cell i h = omega (arith, ltb-true (get_or p.cells i 0) 3 (all_at (λ c. ltb c 3) p.cells i 0 shape.codes (omega (arith, shape.whole))))

      side : player_of (bit_at (record_of p) 0) ≡ p.side
      side = ap player_of (read_back p 0 (omega arith) ∙ record_side p) ∙ side_back p.side

      target : number (bit_at (record_of p)) 1 4 ≡ p.target
      target = read 1 4 p.target (omega arith) (low shape.target_range) (record_target p)

      cells : answers (λ i. number (bit_at (record_of p)) (5 + 2 * i) 2) 0 81 ≡ p.cells
      cells =
          answers_are (λ i. number (bit_at (record_of p)) (5 + 2 * i) 2) p.cells 81 0 shape.whole
          (λ i h. read (5 + 2 * i) 2 (get_or p.cells i 0) (omega arith) (cell i h) (λ j g. record_cell p i j h g))

  -- Of checks 1 to 6 its record is refused by what is wrong with it, and by no other.
  pub store_refusal : refusal_to6 (record_of p) ≡ position_refusal p
  unfolding refusal_to6 first_refusal
  store_refusal = rw (record_length p, read_back p 167 (omega arith), record_last p, load_store) (last_refuses (position_refusal p))

-- A loaded record stored again is its own bytes.
pub loaded_stores : (bs : List ℕ) → ((i : ℕ) → get_or bs i 0 < 256) → refusal bs ≡ 0 → record_of (position_of bs) ≡ bs
loaded_stores bs small e = let h = (loads bs e).to_6 in store_load bs h.bytes small h.last_zero

-- A stored accepted position loads as itself.
pub stored_loads : (p : Position) → Accepted p → (position_of (record_of p) ≡ p) × (refusal (record_of p) ≡ 0)
unfolding refusal first_refusal
stored_loads p a =
    let back = load_store p (shaped p a) in
    (back, rw (store_refusal p (shaped p a), a.passes, back, a.possible))
