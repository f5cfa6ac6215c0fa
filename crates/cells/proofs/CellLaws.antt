-- The cells of a record, board by board, as either way of reading has them. Rests on Reading, WordLaws and BoardBits.
use Rattle.std.specs.Prelude.{◌≡◌, refl, List, ℕ, ◌+◌, ◌*◌, ◌<◌, get_or}
use Rattle.std.proofs.Common.{sym, ◌∙◌, arith, get_or-take, get_or-drop}
use Rattle.rules.specs.Rules.{answers, board}
use Rattle.rules.specs.Record.{bit_at, number, position_of}
use Rattle.rules.proofs.Answers.{length_answers, answers_zero, answers_are}
use Rattle.rules.proofs.Boards.{length_board}
use Rattle.cells.specs.declared.Codes.{Codes}
use Rattle.cells.specs.declared.RecordWords.{RecordWords}
use Rattle.cells.specs.declared.Cells.{Cells}
use Rattle.cells.specs.RecordWords.{words_of, cell_held}
use Rattle.cells.specs.Reading.{Masks, CellsRead}
use Rattle.cells.proofs.WordLaws.{cells_from_words}
use Rattle.cells.specs.BoardBits.{code_in}

-- Board b of 81 cells that a function gives.
board_answers : (f : ℕ → ℕ) (g : ℕ → ℕ) (b : ℕ) → b < 9 → ((c : ℕ) → c < 9 → g c ≡ f (b * 9 + c)) → answers g 0 9 ≡ board (answers f 0 81) b
unfolding board
board_answers f g b h same =
    answers_are g (board (answers f 0 81) b) 9 0 (length_board (answers f 0 81) b (length_answers f 0 81) h)
    (λ c l. rw (get_or-take, get_or-drop) (same c l ∙ sym (answers_zero f 81 (b * 9 + c) 0 (omega arith))))

-- ---- bit by bit

-- The code of cell c of board b.
abbrev pub cell_of : List ℕ → ℕ → ℕ → ℕ
cell_of bs b c = number (bit_at bs) (5 + 2 * (b * 9 + c)) 2

pub cells_done : (bs : List ℕ) (b c : ℕ) (m : Codes) → b < 9 → c ≡ 9 → Masks (answers (cell_of bs b) 0 c) m → Masks (board (position_of bs).cells b) m
unfolding position_of
cells_done bs b c m h e = rw (e, board_answers (λ i. number (bit_at bs) (5 + 2 * i) 2) (cell_of bs b) b h (λ c l. refl)) (λ k. k)

-- ---- from the words

pub taken_masks : (w : RecordWords) (b v : ℕ) (m : Codes) → b < 9 → ((c : ℕ) → c < 9 → code_in v c ≡ cell_held w (b * 9 + c)) → Masks (answers (code_in v) 0 9) m
    → Masks (board (answers (cell_held w) 0 81) b) m
taken_masks w b v m h same = rw (board_answers (cell_held w) (code_in v) b h same) (λ k. k)

-- The cells taken from the words are those of the record's position.
words_position : (bs : List ℕ) → ((k : ℕ) → get_or bs k 0 < 256) → answers (cell_held (words_of bs)) 0 81 ≡ (position_of bs).cells
unfolding position_of
words_position bs small =
    answers_are (cell_held (words_of bs)) (answers (λ i. number (bit_at bs) (5 + 2 * i) 2) 0 81) 81 0 (length_answers (λ i. number (bit_at bs) (5 + 2 * i) 2) 0 81)
    (λ i h. cells_from_words bs small i h ∙ sym (answers_zero (λ i. number (bit_at bs) (5 + 2 * i) 2) 81 i 0 h))

pub words_read : (bs : List ℕ) → ((k : ℕ) → get_or bs k 0 < 256) → (w : RecordWords) → w ≡ words_of bs → (r : Cells) → CellsRead (answers (cell_held w) 0 81) r
    → CellsRead (position_of bs).cells r
words_read bs small w e r = rw (e, words_position bs small) (λ k. k)
