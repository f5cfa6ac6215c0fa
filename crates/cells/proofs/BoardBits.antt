-- Laws of specs/BoardBits.antt. The 18 bits of a board, taken from the words, and the nine cells in those. Rests on RecordWords and Parts.
use Rattle.std.specs.Prelude.{◌≡◌, ℕ, ◌+◌, ◌*◌, ◌-◌, ◌/◌, ◌%◌, ◌^◌, ◌<◌, ◌≤◌}
use Rattle.std.proofs.Common.{ap, sym, ◌∙◌, arith, shr-shr}
use Rattle.std.proofs.Math.Decide.{dec_lt, ℕ_discrete}
use borrow.Author.Tests.{ne_eqb, lt-ltb, le-ltb}
use Rattle.std.proofs.Math.Pow.{high, shr_lt}
use Rattle.cells.specs.declared.RecordWords.{RecordWords}
use Rattle.cells.specs.RecordWords.{cell_held}
use Rattle.cells.proofs.Parts.{part_of_part, part_below}
use Rattle.cells.specs.BoardBits.{code_in}

-- Five bits of the first word and thirteen of the second are 18.
pub join_fits : (a v : ℕ) → v < 2 ^ 64 → a % 2 ^ 5 * 2 ^ 13 + v / 2 ^ 51 < 2 ^ 18
join_fits a v h =
    let l : a % 2 ^ 5 < 32 = omega arith in
    go (a % 2 ^ 5) (v / 2 ^ 51) l (shr_lt 13 51 h)
  where
    go : (m n : ℕ) → m < 32 → n < 2 ^ 13 → m * 2 ^ 13 + n < 2 ^ 18
    go m n h l = omega arith

-- a cell of a board that lies whole in a word, its lowest bit at a
in_one : (v a c e : ℕ) → c < 9 → a + (16 - 2 * c) ≡ e → code_in (v / 2 ^ a % 2 ^ 18) c ≡ v / 2 ^ e % 4
in_one v a c e h q =
    let n : 18 ≡ 2 * c + 2 + (16 - 2 * c) = omega arith in
    ap (λ m. v / 2 ^ a % 2 ^ m / 2 ^ (16 - 2 * c) % 4) n ∙ part_of_part v a (2 * c) 2 (16 - 2 * c) ∙ ap (λ m. v / 2 ^ m % 4) q

module _ (w : RecordWords) where
  -- the cells of board 3: two from the first word, cell 29, six from the second
  pub in_both : w.second < 2 ^ 64 → (c : ℕ) → c < 9 → code_in (w.first % 2 ^ 5 * 2 ^ 13 + w.second / 2 ^ 51) c ≡ cell_held w (27 + c)
  unfolding cell_held
  in_both fits c h = joins (ℕ_discrete c 2)
    where
      below : w.second / 2 ^ 51 < 2 ^ 13
      below = shr_lt 13 51 fits

      first : c < 2 → code_in (w.first % 2 ^ 5 * 2 ^ 13 + w.second / 2 ^ 51) c ≡ w.first / 2 ^ (57 - 2 * (27 + c)) % 4
      first l =
          let q : 16 - 2 * c ≡ 13 + (3 - 2 * c) = omega arith in
          let n : 5 ≡ 2 * c + 2 + (3 - 2 * c) = omega arith in
          let e : 0 + (3 - 2 * c) ≡ 57 - 2 * (27 + c) = omega arith in
          let one : w.first / 2 ^ 0 ≡ w.first = omega arith in
          ap (λ m. (w.first % 2 ^ 5 * 2 ^ 13 + w.second / 2 ^ 51) / 2 ^ m % 4) q
          ∙ ap (λ m. m % 4) (sym (shr-shr (w.first % 2 ^ 5 * 2 ^ 13 + w.second / 2 ^ 51) 13 (3 - 2 * c)))
          ∙ ap (λ m. m / 2 ^ (3 - 2 * c) % 4) (high (w.first % 2 ^ 5) 13 below ∙ ap (λ m. m % 2 ^ 5) (sym one) ∙ ap (λ m. w.first / 2 ^ 0 % 2 ^ m) n)
          ∙ part_of_part w.first 0 (2 * c) 2 (3 - 2 * c) ∙ ap (λ m. w.first / 2 ^ m % 4) e

      second : 2 < c → code_in (w.first % 2 ^ 5 * 2 ^ 13 + w.second / 2 ^ 51) c ≡ w.second / 2 ^ (121 - 2 * (27 + c)) % 4
      second l =
          let n : 13 ≡ (2 * c - 5) + (2 + (16 - 2 * c)) = omega arith in
          let e : 51 + (16 - 2 * c) ≡ 121 - 2 * (27 + c) = omega arith in
          ap (λ m. (w.first % 2 ^ 5 * 2 ^ m + w.second / 2 ^ 51) / 2 ^ (16 - 2 * c) % 4) n
          ∙ part_below (w.first % 2 ^ 5) (w.second / 2 ^ 51) (2 * c - 5) 2 (16 - 2 * c) (rw (← n) below)
          ∙ ap (λ m. m % 4) (shr-shr w.second 51 (16 - 2 * c)) ∙ ap (λ m. w.second / 2 ^ m % 4) e

      alone : (c ≡ 2 → ⊥) → Dec (c < 2) → code_in (w.first % 2 ^ 5 * 2 ^ 13 + w.second / 2 ^ 51) c ≡ cell_held w (27 + c)
      alone n (yes l) = rw (ne_eqb (27 + c) 29 (λ e. n (omega arith)), lt-ltb (27 + c) 29 (omega arith)) (first l)
      alone n (no m) =
          rw (ne_eqb (27 + c) 29 (λ e. n (omega arith)), le-ltb (27 + c) 29 (omega arith), lt-ltb (27 + c) 54 (omega arith)) (second (omega arith))

      joins : Dec (c ≡ 2) → code_in (w.first % 2 ^ 5 * 2 ^ 13 + w.second / 2 ^ 51) c ≡ cell_held w (27 + c)
      joins (yes e) = rw e (twelve w.first (w.second / 2 ^ 51) below ∙ ap (λ m. w.first % 2 * 2 + m) (shr-shr w.second 51 12))
        where
          twelve : (a v : ℕ) → v < 2 ^ 13 → (a % 2 ^ 5 * 2 ^ 13 + v) / 2 ^ 12 % 4 ≡ a % 2 * 2 + v / 2 ^ 12
          twelve a v h = omega arith
      joins (no n) = alone n (dec_lt c 2)

  -- those of a board that lies whole in a word
  module _ (b c : ℕ) (l : c < 9) where
    pub in_first : b < 3 → code_in (w.first / 2 ^ (41 - 18 * b) % 2 ^ 18) c ≡ cell_held w (b * 9 + c)
    unfolding cell_held
    in_first h =
        rw (ne_eqb (b * 9 + c) 29 (λ e. omega arith), lt-ltb (b * 9 + c) 29 (omega arith))
        (in_one w.first (41 - 18 * b) c _ l (omega arith))

    pub in_second : 3 < b → b < 6 → code_in (w.second / 2 ^ (105 - 18 * b) % 2 ^ 18) c ≡ cell_held w (b * 9 + c)
    unfolding cell_held
    in_second h g =
        rw (ne_eqb (b * 9 + c) 29 (λ e. omega arith), le-ltb (b * 9 + c) 29 (omega arith), lt-ltb (b * 9 + c) 54 (omega arith))
        (in_one w.second (105 - 18 * b) c _ l (omega arith))

    pub in_third : 6 ≤ b → b < 9 → code_in (w.third / 2 ^ (145 - 18 * b) % 2 ^ 18) c ≡ cell_held w (b * 9 + c)
    unfolding cell_held
    in_third h g =
        rw (ne_eqb (b * 9 + c) 29 (λ e. omega arith), le-ltb (b * 9 + c) 29 (omega arith), le-ltb (b * 9 + c) 54 (omega arith))
        (in_one w.third (145 - 18 * b) c _ l (omega arith))
