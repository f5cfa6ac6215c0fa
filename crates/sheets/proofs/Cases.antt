-- Two sheets of MANUAL, Positions to try, and ours, computed from the definitions. Rests on Sheets and on the rules' Examples.
use Rattle.std.specs.Prelude.{◌≡◌, refl, List, [], ◌∷◌, ◌++◌, ℕ, replicate}
use Rattle.rules.specs.Rules.{has_line, state, board, board_states, game_state, move_error, play, replay}
use Rattle.rules.specs.Record.{record_bit, record_of}
use Rattle.rules.specs.Examples.{bytes_of, record21, E}
use Rattle.calls.specs.Calls.{after_moves}
use Rattle.sheets.specs.Sheets.{common, legal_part, opening, sheets_outcome, sheets_call}

-- An output of n bytes.
abbrev pub output : ℕ → List ℕ
output n = replicate n 0xA5

-- With an output of 22 bytes this part of the first sheet is handed back, and this record is written; the last byte stays.
abbrev pub Opens : (first second part bytes : List ℕ) → Type 0
Opens first second part bytes = sheets_call first second (output 22) ≡ sheets_outcome part 0 (bytes ++ (0xA5 ∷ []))

-- The record after 44; after 44 40.
abbrev pub after44 : List ℕ
after44 = record21 0xA00000000000000000000200000000000000000000

abbrev pub after4440 : List ℕ
after4440 = record21 0x000000000000000000040200000000000000000000

-- A game that X wins with its 21st move, and one of 81 moves, the longest there is, which is drawn; with the records after them.
abbrev pub won : ℕ
won = 0x666008800663377007733116644662288644422334

abbrev pub after_won : List ℕ
after_won = record21 0xA0002A001001004208202440000043221040040020

abbrev pub long : ℕ
long =
    0x711226677886644115566110044884444008877776666336688883344551166557700662211447755000055228811335544660033007733118822443333880011117722555588553377442200227322223

abbrev pub after_long : List ℕ
after_long = record21 0xFD32B5332CCCB32CB53334CCD4B32CB532B4CB4ACC

-- Each field is a case.
pub record SheetsCases : Type 0 where
  -- the manual's: they part at the third move, legal on both
  pub parted : Opens (bytes_of 3 0x444004) (bytes_of 3 0x444005) (bytes_of 2 0x4440) after4440
  pub parted_at_once : Opens (bytes_of 1 0x44) (bytes_of 1 0x00) [] E
  -- equal; one the beginning of the other
  pub equal : Opens (bytes_of 2 0x4440) (bytes_of 2 0x4440) (bytes_of 2 0x4440) after4440
  pub first_shorter : Opens (bytes_of 2 0x4440) (bytes_of 3 0x444003) (bytes_of 2 0x4440) after4440
  pub second_shorter : Opens (bytes_of 3 0x444003) (bytes_of 2 0x4440) (bytes_of 2 0x4440) after4440
  -- no moves on one, or on both
  pub first_empty : Opens [] (bytes_of 1 0x44) [] E
  pub second_empty : Opens (bytes_of 1 0x44) [] [] E
  pub both_empty : Opens [] [] [] E
  -- both have the same error: 14 at move 3; 15 at move 2; 11 at once; 13 at move 6; 12 after the game
  pub wrong_board : Opens (bytes_of 3 0x444044) (bytes_of 3 0x444044) (bytes_of 2 0x4440) after4440
  pub not_empty : Opens (bytes_of 2 0x4444) (bytes_of 2 0x4444) (bytes_of 1 0x44) after44
  pub no_cell : Opens (bytes_of 1 0x09) (bytes_of 1 0x09) [] E
  pub no_board : Opens (bytes_of 2 0xFF44) (bytes_of 2 0xFF44) [] E
  pub won_board : Opens (bytes_of 6 0x011002200003) (bytes_of 6 0x011002200003) (bytes_of 5 0x0110022000) (record21 0xFAA001000040000000000000000000000000000000)
  pub game_over : Opens (bytes_of 21 won ++ (0x40 ∷ [])) (bytes_of 21 won ++ (0x40 ∷ [])) (bytes_of 21 won) after_won
  -- 81 moves, and 90
  pub longest_game : Opens (bytes_of 81 long) (bytes_of 81 long) (bytes_of 81 long) after_long
  pub ninety : Opens (bytes_of 81 long ++ replicate 9 0) (bytes_of 81 long ++ replicate 9 0) (bytes_of 81 long) after_long
  -- outputs of 20 and of 21 bytes, and none
  pub output_20 : sheets_call (bytes_of 1 0x44) (bytes_of 1 0x44) (output 20) ≡ sheets_outcome [] 7 (output 20)
  pub output_21 : sheets_call (bytes_of 1 0x44) (bytes_of 1 0x44) (output 21) ≡ sheets_outcome (bytes_of 1 0x44) 0 after44
  pub no_output : sheets_call [] [] [] ≡ sheets_outcome [] 7 []

pub sheets_cases : SheetsCases
unfolding has_line state board board_states game_state move_error play replay record_bit record_of after_moves common legal_part opening sheets_call
sheets_cases = record {
  parted = refl;
  parted_at_once = refl;
  equal = refl;
  first_shorter = refl;
  second_shorter = refl;
  first_empty = refl;
  second_empty = refl;
  both_empty = refl;
  wrong_board = refl;
  not_empty = refl;
  no_cell = refl;
  no_board = refl;
  won_board = refl;
  game_over = refl;
  longest_game = refl;
  ninety = refl;
  output_20 = refl;
  output_21 = refl;
  no_output = refl;
}
