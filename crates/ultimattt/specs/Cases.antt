-- The cases of MANUAL, Positions to try, that are proved from the definitions, in one lemma, with ours. Rests on Calls and Searches, on plain's Cases
-- for the records E, W and D and for the plain machine's results, on the rules' Examples for FA, on RoomCases, GamesCases, BudgetCases, ChoiceCases, StayCases, and on the Cases of
-- stay, meaning, sheets, book, passes, games_checks and cells.
use Rattle.std.specs.Prelude.{◌≡◌, refl, List, [], ◌∷◌, ◌++◌, ℕ, get_or, replicate}
use Rattle.rules.specs.Rules.{has_line, state, board, board_states, game_state, move_error, play, legal_moves, replay, drawn, final_value}
use Rattle.rules.specs.Record.{bit_at, position_of, position_refusal, refusal_to6, impossible_choice, refusal, record_bit, record_of}
use Rattle.rules.specs.Refusals.{first_refusal}
use Rattle.rules.specs.Examples.{FA}
use Rattle.machine.specs.Game.{backward, value_from, value}
use Rattle.machine.specs.Machine.{Result, True, False, Unknown}
use Rattle.plain.specs.Plain.{value_of}
use Rattle.plain.proofs.Cases as plain-cases
use Rattle.plain.proofs.Cases.{record21, E, W, D, fields, starred}
use Rattle.plain.proofs.Oracle.{last_x}
use Rattle.referee.specs.OpenCells.{open_cells}
use Rattle.calls.specs.Calls.{replay_outcome, referee_outcome, after_moves, output_refusal, replay_call, moves_call, referee_refusal, referee_call}
use Rattle.meaning.proofs.Cases.{MeaningCases, meaning_cases}
use Rattle.meaning.proofs.RecordCases.{RecordCases, record_cases}
use Rattle.passes.proofs.Cases.{PassesCases, passes_cases}
use Rattle.book.proofs.Cases.{BookCases, book_cases}
use Rattle.book.proofs.TrainerCases.{TrainerCases, trainer_cases}
use Rattle.cells.proofs.Cases.{WordsCases, words_cases}
use Rattle.sheets.proofs.Cases.{SheetsCases, sheets_cases}
use Rattle.searches.proofs.SearchAnswers.{search_answered, full_with}
use Rattle.searches.specs.StepThree.{pool, judging}
use Rattle.searches.proofs.StayCases.{StayAnswers, stay_answers}
use Rattle.stay.proofs.Cases.{MarginCases, margin_cases}
use Rattle.searches.specs.Searches.{Limits, nodes, settings, search_refusal, Refused, Answered, search_call, full_of, Draw, AtLeastDraw, Full, Turned, full_call}
use Rattle.games_checks.proofs.Cases.{ChecksCases, checks_cases}
use Rattle.ultimattt.specs.BudgetCases.{BudgetCases, budget_cases}
use Rattle.ultimattt.specs.ChoiceCases.{ChoiceCases, choice_cases}
use Rattle.ultimattt.specs.GamesCases.{GamesCases, games_cases}
use Rattle.ultimattt.specs.RoomCases as room-cases
use Rattle.ultimattt.specs.RoomCases.{short_at_once, RoomAnswers, room_answers}

-- An output of 21 bytes, and one of 81.
abbrev pub out21 : List ℕ
out21 = replicate 21 0

abbrev pub out81 : List ℕ
out81 = replicate 81 0

-- A case that names no rule: the answer under each of the three.
abbrev pub UnderEach : List ℕ → ℕ → Limits → Result → Type 0
UnderEach bytes words L r = (search_call bytes words 0 L ≡ Answered r) × (search_call bytes words 1 L ≡ Answered r) × (search_call bytes words 2 L ≡ Answered r)

under_each : (bytes : List ℕ) (words : ℕ) (L : Limits) (r : Result) → search_refusal bytes (nodes words) 0 L ≡ 0 → search_refusal bytes (nodes words) 1 L ≡ 0 → search_refusal bytes (nodes words) 2 L ≡ 0
    → plain-cases.UnderEach (settings words L) bytes r → UnderEach bytes words L r
under_each bytes words L r e0 e1 e2 h = (search_answered bytes words 0 L e0 r h.0, search_answered bytes words 1 L e1 r h.1, search_answered bytes words 2 L e2 r h.2)

-- Each field is a case; moves and records are hexadecimal, as in the manual.
pub record Cases : Type 0 where
  -- E: 81 moves, first 00, last 88
  pub E_count : (moves_call E out81).count ≡ 81
  pub E_first : get_or (moves_call E out81).output 0 255 ≡ 0x00
  pub E_last : get_or (moves_call E out81).output 80 255 ≡ 0x88
  -- E with 44; with 44 44; with 44 00; with 09
  pub E_44 : replay_call E (0x44 ∷ []) out21 ≡ replay_outcome 0 0 (0xA0 ∷ replicate 9 0 ++ (0x02 ∷ replicate 10 0))
  pub E_44_44 : replay_call E (0x44 ∷ 0x44 ∷ []) out21 ≡ replay_outcome 15 1 out21
  pub E_44_00 : replay_call E (0x44 ∷ 0x00 ∷ []) out21 ≡ replay_outcome 14 1 out21
  pub E_09 : replay_call E (0x09 ∷ []) out21 ≡ replay_outcome 11 0 out21
  -- first byte 7A is refused by 3, FA by 22
  pub E_7A : refusal (0x7A ∷ replicate 20 0) ≡ 3
  pub E_FA : refusal FA ≡ 22
  -- E with budget 0; with budget 1, and a pool of 82 or of 81 nodes
  pub E_spent : UnderEach E (pool 3276) (judging 0) (fields Unknown 1 1 1 0 0 0 0 1)
  pub E_fits : UnderEach E (pool 82) (judging 1) (fields Unknown 1 81 82 0 0 0 1 1)
  pub E_short : UnderEach E (pool 81) (judging 1) (fields Unknown 1 1 1 0 0 0 0 2)
  -- W with budget 1, and a pool of 6, of 5, of 2 or of 1 node
  pub W_won : UnderEach W (pool 6) (judging 1) (fields True 0 2147483648 2 1 1 0 1 0)
  pub W_five : UnderEach W (pool 5) (judging 1) (fields True 0 2147483648 2 1 1 0 1 0)
  pub W_two : UnderEach W (pool 2) (judging 1) (fields True 0 2147483648 2 1 1 0 1 0)
  pub W_short : UnderEach W (pool 1) (judging 1) (fields Unknown 1 1 1 0 0 0 0 2)
  -- D under rules 0, 1 and 2; its full verdict, a draw
  pub D_0_False : search_call D (pool 3276) 0 (judging 100000) ≡ Answered (fields False 2147483648 0 1 0 0 0 0 0)
  pub D_1_False : search_call D (pool 3276) 1 (judging 100000) ≡ Answered (fields False 2147483648 0 1 0 0 0 0 0)
  pub D_2_True : search_call D (pool 3276) 2 (judging 100000) ≡ Answered (fields True 0 2147483648 1 0 0 0 0 0)
  pub D_full : full_call D (pool 3276) (judging 100000) ≡ Full Draw (fields False 2147483648 0 1 0 0 0 0 0) (fields True 0 2147483648 1 0 0 0 0 0)
  -- D with target 0 is refused by 6
  pub D_target_0 : search_call (record21 0x02B400AC0054001500054000A8002A000A80054000) (pool 3276) 0 (judging 100000) ≡ Refused 6
  -- ours: no pool comes before a rule over 2; full verdict has search's checks
  pub no_pool : search_call E 4 3 (judging 0) ≡ Refused 8
  pub rule_3 : search_call E 5 3 (judging 0) ≡ Refused 10
  pub full_no_pool : full_call E 4 (judging 0) ≡ Turned 8
  -- ours: W with 22, the move that ends the game: the reply's target is set by the same rule, here the board of that move, done, so free choice
  pub W_22 : replay_call W (0x22 ∷ []) out21 ≡ replay_outcome 0 0 (record21 0xFAA000A8002A051500054000000000000000000000)
  -- ours: a replay that begins with O to move, on E with 44
  pub O_first : replay_call (record21 0xA00000000000000000000200000000000000000000) (0x40 ∷ 0x04 ∷ []) out21
      ≡ replay_outcome 0 0 (record21 0xA00200000000000000040200000000000000000000)
  -- ours: the referee refuses by 1, 10 and 16; D's value under each rule
  pub short : referee_call [] 0 ≡ referee_outcome 1 0 0
  pub E_rule_3 : referee_call E 3 ≡ referee_outcome 10 0 0
  pub E_large : referee_call E 2 ≡ referee_outcome 16 0 0
  pub W_large : referee_call W 0 ≡ referee_outcome 16 0 0
  pub D_rule_0 : referee_call D 0 ≡ referee_outcome 0 0 2
  pub D_rule_1 : referee_call D 1 ≡ referee_outcome 0 0 2
  pub D_rule_2 : referee_call D 2 ≡ referee_outcome 0 0 1
  -- ours: step 3 at small pools, with the fewest nodes that a search answers with, and one less
  pub room : RoomAnswers
  pub full_short : full_call last_x (pool 2) (judging 100000) ≡ Full AtLeastDraw short_at_once (fields True 0 2147483648 2 1 1 0 1 0)
  -- staying on a line: which floats are margins, an ending with and without, and check 21
  pub margins : MarginCases
  pub staying : StayAnswers
  -- two sheets: the cases of crate sheets
  pub sheets : SheetsCases
  -- a book of verdicts: the cases of crate book
  pub book : BookCases
  pub trainers : TrainerCases
  -- which sets of open leaves the numbers of an Unknown are the sizes of: of toy trees, of A after five expansions and of E after two
  pub smallest_sets : MeaningCases
  pub record_smallest_sets : RecordCases
  -- eight games: the two passes, the checks and the call
  pub passes : PassesCases
  pub games_checks : ChecksCases
  pub games : GamesCases
  -- the largest budget, share and allowance, and one above
  pub budgets : BudgetCases
  -- free choice that can't be, and where it can
  pub choices : ChoiceCases
  -- a record's three words: the cases of crate cells; E with 03 32 and with 32, which take cell 29, and code 3 there
  pub words : WordsCases
  pub O_29 : replay_call E (0x03 ∷ 0x32 ∷ []) out21 ≡ replay_outcome 0 0 (record21 0x100800000000000100000000000000000000000000)
  pub X_29 : replay_call E (0x32 ∷ []) out21 ≡ replay_outcome 0 0 (record21 0x900000000000000080000000000000000000000000)
  pub three_29 : refusal (record21 0x180800000000000180000000000000000000000000) ≡ 2

pub cases : Cases
unfolding drawn final_value has_line state board board_states game_state move_error play legal_moves replay bit_at position_of position_refusal refusal_to6 impossible_choice refusal
    record_bit record_of first_refusal after_moves output_refusal replay_call moves_call open_cells referee_refusal referee_call backward value_from value value_of search_refusal
    search_call full_of full_call
cases = record {
  E_count = refl;
  E_first = refl;
  E_last = refl;
  E_44 = refl;
  E_44_44 = refl;
  E_44_00 = refl;
  E_09 = refl;
  E_7A = refl;
  E_FA = refl;
  E_spent = under_each E (pool 3276) (judging 0) _ refl refl refl starred.E_spent;
  E_fits = under_each E (pool 82) (judging 1) _ refl refl refl starred.E_fits;
  E_short = under_each E (pool 81) (judging 1) _ refl refl refl starred.E_short;
  W_won = under_each W (pool 6) (judging 1) _ refl refl refl starred.W_won;
  W_five = under_each W (pool 5) (judging 1) _ refl refl refl starred.W_five;
  W_two = under_each W (pool 2) (judging 1) _ refl refl refl starred.W_two;
  W_short = under_each W (pool 1) (judging 1) _ refl refl refl starred.W_short;
  D_0_False = search_answered D (pool 3276) 0 (judging 100000) refl _ starred.D_rule0;
  D_1_False = search_answered D (pool 3276) 1 (judging 100000) refl _ starred.D_rule1;
  D_2_True = search_answered D (pool 3276) 2 (judging 100000) refl _ starred.D_rule2;
  D_full = full_with D (pool 3276) (judging 100000) refl _ _ starred.D_rule1 starred.D_rule2;
  D_target_0 = refl;
  no_pool = refl;
  rule_3 = refl;
  full_no_pool = refl;
  W_22 = refl;
  O_first = refl;
  short = refl;
  E_rule_3 = refl;
  E_large = refl;
  W_large = refl;
  D_rule_0 = refl;
  D_rule_1 = refl;
  D_rule_2 = refl;
  room = room_answers;
  full_short = room-cases.full_short;
  margins = margin_cases;
  staying = stay_answers;
  sheets = sheets_cases;
  book = book_cases;
  trainers = trainer_cases;
  smallest_sets = meaning_cases;
  record_smallest_sets = record_cases;
  passes = passes_cases;
  games_checks = checks_cases;
  games = games_cases;
  budgets = budget_cases;
  choices = choice_cases;
  words = words_cases;
  O_29 = refl;
  X_29 = refl;
  three_29 = refl;
}
