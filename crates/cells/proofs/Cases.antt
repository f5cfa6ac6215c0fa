-- Computed cases of a record's three words and of the cells in them. Rests on RecordWords and on the rules' Examples.
use Rattle.std.specs.Prelude.{◌≡◌, refl, List, [], ◌∷◌, ℕ, ◌*◌, ◌-◌, ◌^◌}
use Rattle.rules.specs.Rules.{answers}
use Rattle.rules.specs.Record.{bit_at, position_of}
use Rattle.rules.specs.Examples.{record21, W, D}
use Rattle.cells.specs.RecordWords.{words_of, cell_held}

-- A record of zeros but for bytes k and k + 1, which the number has.
abbrev pub two_bytes : ℕ → ℕ → List ℕ
two_bytes k n = record21 (n * 256 ^ (19 - k))

-- Three cells from cell i on, taken from the words.
abbrev pub three_cells : List ℕ → ℕ → List ℕ
three_cells bs i = answers (cell_held (words_of bs)) i 3

-- Each field is a case.
pub record WordsCases : Type 0 where
  -- the bytes of each word, in their order
  pub first : (words_of (record21 0x0102030405060708090A0B0C0D0E0F101112131415)).first ≡ 0x0102030405060708
  pub second : (words_of (record21 0x0102030405060708090A0B0C0D0E0F101112131415)).second ≡ 0x090A0B0C0D0E0F10
  pub third : (words_of (record21 0x0102030405060708090A0B0C0D0E0F101112131415)).third ≡ 0x0E0F101112131415
  -- bytes 7 and 8, cells 28, 29 and 30: 01 00 is O at cell 29, 00 80 X, 00 00 none, 01 80 code 3; the cells beside it leave it alone
  pub O_29 : three_cells (two_bytes 7 0x0100) 28 ≡ 0 ∷ 2 ∷ 0 ∷ []
  pub X_29 : three_cells (two_bytes 7 0x0080) 28 ≡ 0 ∷ 1 ∷ 0 ∷ []
  pub none_29 : three_cells (two_bytes 7 0x0000) 28 ≡ 0 ∷ 0 ∷ 0 ∷ []
  pub three_29 : three_cells (two_bytes 7 0x0180) 28 ≡ 0 ∷ 3 ∷ 0 ∷ []
  pub beside_29 : three_cells (two_bytes 7 0x0660) 28 ≡ 3 ∷ 0 ∷ 3 ∷ []
  -- bytes 13 and 14, cells 52, 53 and 54: the last two that are taken from the second word, and the first that is from the third
  pub last_second : three_cells (two_bytes 13 0x0180) 52 ≡ 0 ∷ 3 ∷ 0 ∷ []
  pub first_third : three_cells (two_bytes 13 0x0060) 52 ≡ 0 ∷ 0 ∷ 3 ∷ []
  -- the ends: cell 0 after the target, cell 80 before the last bit
  pub cell_0 : three_cells (two_bytes 0 0x0600) 0 ≡ 3 ∷ 0 ∷ 0 ∷ []
  pub cell_80 : three_cells (two_bytes 19 0x0006) 78 ≡ 0 ∷ 0 ∷ 3 ∷ []
  pub no_cell : answers (cell_held (words_of (record21 0xF80000000000000000000000000000000000000001))) 0 81 ≡ answers (λ i. 0) 0 81
  -- all the cells of W and of D
  pub of_W : answers (cell_held (words_of W)) 0 81 ≡ (position_of W).cells
  pub of_D : answers (cell_held (words_of D)) 0 81 ≡ (position_of D).cells

pub words_cases : WordsCases
unfolding bit_at position_of words_of cell_held
words_cases = record {
  first = refl;
  second = refl;
  third = refl;
  O_29 = refl;
  X_29 = refl;
  none_29 = refl;
  three_29 = refl;
  beside_29 = refl;
  last_second = refl;
  first_third = refl;
  cell_0 = refl;
  cell_80 = refl;
  no_cell = refl;
  of_W = refl;
  of_D = refl;
}
