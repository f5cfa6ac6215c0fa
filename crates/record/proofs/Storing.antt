-- The record of a position that words hold: its cells' bits from the masks, and its bytes one after the other. Rests on the game's words and the rules' record.
use Rattle.std.specs.Prelude.{◌≡◌, refl, List, [], ◌∷◌, ◌++◌, ℕ, zero, suc, ◌+◌, ◌*◌, ◌/◌, ◌%◌, ◌^◌, ◌<◌, eqb, ltb, get_or, length, set, drop}
use Rattle.std.proofs.Common.{ap, sym, ◌∙◌, append_assoc, not-suc-le-zero, le_of_suc-le-suc, add-one, arith, ltb-true, drop-cons}
use Rattle.std.proofs.lemmas.List.{set_at}
use Rattle.rules.specs.Rules.{Player, Position, mark, code, answers, board}
use Rattle.rules.specs.Rules.Player.{X, O}
use Rattle.rules.specs.Record.{number, side_bit, player_of, record_bit}
use Rattle.rules.proofs.Answers.{length_answers, answers_next}
use Rattle.rules.proofs.Boards.{code_board, length_board}
use Rattle.rules.proofs.Tests.{all_at}
use Rattle.rules.proofs.Roundtrip.{bit_back}
use Rattle.game.specs.Masks.{bit, has_bit, has_bit_of}
use Rattle.game.specs.Words.{Holds}

-- An element of a list, whatever would be read past its end.
get_d_any : (l : List ℕ) (i d e : ℕ) → i < length l → get_or l i d ≡ get_or l i e
get_d_any [] i d e h = absurd (not-suc-le-zero h)
get_d_any (x ∷ l) zero d e h = refl
get_d_any (x ∷ l) (suc i) d e h = get_d_any l i d e (le_of_suc-le-suc h)

-- The bit of a code that says a side.
code_bit : (s : Player) (v : ℕ) → v < 3 → bit (eqb v (mark s)) ≡ v / 2 ^ side_bit s % 2
code_bit X zero h = refl
code_bit X (suc zero) h = refl
code_bit X (suc (suc zero)) h = refl
code_bit X (suc (suc (suc v))) h = absurd (omega arith)
code_bit O zero h = refl
code_bit O (suc zero) h = refl
code_bit O (suc (suc zero)) h = refl
code_bit O (suc (suc (suc v))) h = absurd (omega arith)

module _ (p : Position) (ws : List ℕ) (holds : Holds p ws 0) (i : ℕ) (h : i < 81) where
  cell_mark : (s : Player) → has_bit (get_or ws (0 + (side_bit s * 9 + i / 9)) 0) (i % 9) ≡ eqb (get_or p.cells i 0) (mark s)
  cell_mark s =
      let e : i / 9 * 9 + i % 9 ≡ i = omega arith in
      ap (λ m. has_bit m (i % 9)) (holds.masks s (i / 9) (omega arith))
      ∙ has_bit_of (λ c. eqb c (mark s)) (board p.cells (i / 9)) (i % 9) (rw (length_board p.cells (i / 9) holds.whole (omega arith)) (omega arith))
      ∙ ap (λ v. eqb v (mark s)) (code_board p.cells (i / 9) (i % 9) (omega arith) ∙ ap (code p.cells) e ∙ get_d_any p.cells i 3 0 (omega (arith, holds.whole)))

  cell_small : get_or p.cells i 0 < 3
  cell_small = ltb-true (get_or p.cells i 0) 3 (all_at (λ c. ltb c 3) p.cells i 0 holds.codes (omega (arith, holds.whole)))

  -- A side's bit of cell i, from the side's mask of its board.
  pub cell_law : (side m : ℕ) → side < 2 → m ≡ get_or ws (0 + (side * 9 + i / 9)) 0 → bit (has_bit m (i % 9)) ≡ get_or p.cells i 0 / 2 ^ side % 2
  cell_law side m l e =
      let q : side_bit (player_of side) ≡ side = bit_back side l in
      let r = ap bit (cell_mark (player_of side)) ∙ code_bit (player_of side) (get_or p.cells i 0) cell_small in
      rw e (rw q at r)

-- Byte k of a position's record.
abbrev pub record_byte : Position → ℕ → ℕ
record_byte p k = number (record_bit p) (8 * k) 8

-- One more byte written.
pub write_next : (f : ℕ → ℕ) (k : ℕ) (out : List ℕ) → k < length out
    → set (answers f 0 k ++ drop k out) k (f k) ≡ answers f 0 (k + 1) ++ drop (k + 1) out
write_next f k out h =
    rw (add-one, drop-cons out k 0, set_at (answers f 0 k) (get_or out k 0) (drop (suc k) out) (f k) k (length_answers f 0 k))
    (sym (ap (λ l. l ++ drop (suc k) out) (ap (answers f 0) (sym (add-one k)) ∙ answers_next f k) ∙ append_assoc (answers f 0 k) (f k ∷ []) (drop (suc k) out)))
