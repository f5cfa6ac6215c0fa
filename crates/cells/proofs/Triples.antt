-- Laws of specs/Triples.antt. Masks of the nine codes that 18 bits make, by a table of 64 entries, three codes to an entry. Rests on Reading, BoardBits and the game's masks.
use Rattle.std.specs.Prelude.{◌≡◌, [], ◌∷◌, ℕ, ◌+◌, ◌*◌, ◌/◌, ◌%◌, ◌^◌, ◌<◌, eqb, ltb, get_or}
use Rattle.std.proofs.Common.{sym, ◌∙◌, lt-ltb}
use native.Mathlib.Omega.{arith}
use Rattle.rules.specs.Rules.{answers}
use Rattle.rules.proofs.Answers.{answers_zero, all_answers}
use Rattle.game.specs.Masks.{mask, mask_lt}
use Rattle.cells.specs.declared.Codes.{Codes}
use Rattle.cells.specs.Reading.{Masks}
use Rattle.cells.specs.BoardBits.{code_in}
use Rattle.cells.specs.Triples.{three_codes, packed, triple_table}

pub triple_at : (n : ℕ) → n < 64 → get_or triple_table n 0 ≡ packed n
unfolding triple_table
triple_at n h = answers_zero packed 64 n 0 h

triple_lt : (n k : ℕ) → mask k (three_codes n) < 8
triple_lt n k = mask_lt (λ c. eqb c k) (three_codes n)

pub packed_lt : (n : ℕ) → packed n < 2097152
packed_lt n = omega (arith, triple_lt n 1, triple_lt n 2, triple_lt n 3)

-- The entries of the three triples that 18 bits are, each at its place among nine.
abbrev pub triple_sum : ℕ → ℕ
triple_sum v = packed (v / 4096) + packed (v / 64 % 64) * 8 + packed (v % 64) * 64

module _ (v : ℕ) (h : v < 262144) where
  -- the mask of code k in nine codes, from those of the triples
  three_masks : ℕ → ℕ
  three_masks k = mask k (three_codes (v / 4096)) + mask k (three_codes (v / 64 % 64)) * 8 + mask k (three_codes (v % 64)) * 64

  split : (k a b c d e f g i j : ℕ)
      → mask k (a ∷ b ∷ c ∷ d ∷ e ∷ f ∷ g ∷ i ∷ j ∷ []) ≡ mask k (a ∷ b ∷ c ∷ []) + mask k (d ∷ e ∷ f ∷ []) * 8 + mask k (g ∷ i ∷ j ∷ []) * 64
  split k a b c d e f g i j = omega arith

  in_three : (k : ℕ) → mask k (answers (code_in v) 0 9) ≡ three_masks k
  unfolding three_masks
  in_three k =
      let e0 : v / 2 ^ 16 % 4 ≡ v / 4096 / 16 = omega arith in
      let e1 : v / 2 ^ 14 % 4 ≡ v / 4096 / 4 % 4 = omega arith in
      let e2 : v / 2 ^ 12 % 4 ≡ v / 4096 % 4 = omega arith in
      let e3 : v / 2 ^ 10 % 4 ≡ v / 64 % 64 / 16 = omega arith in
      let e4 : v / 2 ^ 8 % 4 ≡ v / 64 % 64 / 4 % 4 = omega arith in
      let e5 : v / 2 ^ 6 % 4 ≡ v / 64 % 64 % 4 = omega arith in
      let e6 : v / 2 ^ 4 % 4 ≡ v % 64 / 16 = omega arith in
      let e7 : v / 2 ^ 2 % 4 ≡ v % 64 / 4 % 4 = omega arith in
      let e8 : v / 2 ^ 0 % 4 ≡ v % 64 % 4 = omega arith in
      rw (e0, e1, e2, e3, e4, e5, e6, e7, e8) (split k _ _ _ _ _ _ _ _ _)

  in_three_lt : (k : ℕ) → three_masks k < 512
  unfolding three_masks
  in_three_lt k = omega (arith, triple_lt (v / 4096) k, triple_lt (v / 64 % 64) k, triple_lt (v % 64) k)

  -- the sum of the table's entries has the three masks nine bits apart
  apart : triple_sum v ≡ three_masks 1 + three_masks 2 * 512 + three_masks 3 * 262144
  unfolding three_masks
  apart = omega arith

  pub three_law : (r : Codes) (p : ℕ) → p ≡ triple_sum v → r.x ≡ p % 512 → r.o ≡ p / 512 % 512 → r.rest ≡ p / 262144 → Masks (answers (code_in v) 0 9) r
  three_law r p e ex eo er =
      let q = e ∙ apart in
      record {
        small = all_answers (λ c. ltb c 4) (code_in v) (λ c. lt-ltb (code_in v c) 4 (omega arith)) 0 9;
        x = ex ∙ omega (arith, q, in_three_lt 1) ∙ sym (in_three 1);
        o = eo ∙ omega (arith, q, in_three_lt 1, in_three_lt 2) ∙ sym (in_three 2);
        rest = er ∙ omega (arith, q, in_three_lt 1, in_three_lt 2) ∙ sym (in_three 3);
      }
