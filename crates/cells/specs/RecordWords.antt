-- A record's bytes as three words of eight (MANUAL, Record), and the cells taken from those. Rests on the rules' record.
use Rattle.std.specs.Prelude.{◌≡◌, cond, List, ℕ, zero, suc, ◌+◌, ◌*◌, ◌-◌, ◌/◌, ◌%◌, ◌^◌, ◌<◌, eqb, ltb, get_or}
use Rattle.rules.specs.Record.{bit_at, number}
use Rattle.cells.specs.declared.RecordWords.{RecordWords}

-- The number that n bytes make from byte k on, the most significant first.
abbrev pub together : List ℕ → ℕ → ℕ → ℕ
together bs k zero = 0
together bs k (suc n) = together bs k n * 256 + get_or bs (k + n) 0

-- The words of the bytes from 0, 8 and 13 on: bits 0 to 63, 64 to 127 and 104 to 167.
unfoldable pub words_of : List ℕ → RecordWords
words_of bs = record { first = together bs 0 8; second = together bs 8 8; third = together bs 13 8 }

-- Cell i taken from the words. Cell 29 has the last bit of the first word and the first bit of the second; every other cell lies whole in one of them.
unfoldable pub cell_held : RecordWords → ℕ → ℕ
cell_held w i =
    cond (eqb i 29) (w.first % 2 * 2 + w.second / 2 ^ 63)
    (cond (ltb i 29) (w.first / 2 ^ (57 - 2 * i) % 4)
    (cond (ltb i 54) (w.second / 2 ^ (121 - 2 * i) % 4) (w.third / 2 ^ (161 - 2 * i) % 4)))

-- For any bytes, 21 of them or not, and every cell, the cell taken from the words is the one read bit by bit.
abbrev pub CellsFromWords : Type 0
CellsFromWords = (bs : List ℕ) → ((k : ℕ) → get_or bs k 0 < 256) → (i : ℕ) → i < 81 → cell_held (words_of bs) i ≡ number (bit_at bs) (5 + 2 * i) 2
