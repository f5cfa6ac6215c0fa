-- Calls of simulate, computed from the definitions; each report is the original's too, whose searches and moves the harness's own players used. Rests on Players, and on plain's Cases
-- and Oracle and searches' StayCases for the records and settings.
use Rattle.std.specs.Prelude.{◌≡◌, refl, List, [], ℕ, ◌*◌}
use Rattle.rules.specs.Rules.{has_line, state, board, board_states, game_state}
use Rattle.rules.specs.Record.{bit_at, position_of, position_refusal, refusal_to6, impossible_choice, refusal}
use Rattle.rules.specs.Refusals.{first_refusal}
use Rattle.rules.specs.Examples.{FA}
use Rattle.plain.proofs.Cases.{record21, E, W, D}
use Rattle.plain.proofs.Oracle.{won_x, last_x, last_o, ending_x, ending_o}
use Rattle.matches.specs.Matches.{Report, report}
use Rattle.matches.proofs.MatchCases.{computed_match}
use Rattle.stay.specs.declared.Stay.TheVariants.{Off}
use Rattle.searches.specs.Searches.{search_refusal}
use Rattle.searches.proofs.StayCases.{C, by_bits}
use Rattle.players.specs.Players.{Players, players, searcher, simulate_refusal, simulate_outcome, simulate_call}

-- Judge's limit and interval, with two budgets; a pool of so many nodes.
abbrev budgets : (x o : ℕ) → Players
budgets x o = players 18446744073709551615 x o 10000 Off

abbrev Reports : (bytes : List ℕ) (nodes : ℕ) → Players → (seed games : ℕ) → Report → Type 0
Reports bytes nodes P seed games r = simulate_call bytes (nodes * 5) P seed games ≡ simulate_outcome 0 0 r

abbrev Refuses : (bytes : List ℕ) (nodes : ℕ) → Players → (games number : ℕ) → Type 0
Refuses bytes nodes P games number = simulate_call bytes (nodes * 5) P 0 games ≡ simulate_outcome number 0 (report 0 0 0 0)

-- O, to move, has five moves, and one of them ends the game; X, to move, has three, and one of them does. Where a search of an earlier move expands something shows whose budget it is.
abbrev pub o_wins : List ℕ
o_wins = record21 0xFB292C4C8A114549414D1234ACB2945255328AAAB2

abbrev pub x_wins_here : List ℕ
x_wins_here = record21 0x7C0414A534824AB50802C50CC2D410A80909522220

-- O, to move, wins, and X, to move, wins: by a move that a search has to find.
abbrev pub o_finds : List ℕ
o_finds = record21 0xFB5324D02CCC352412440504A8C0CAC0ACD130B2A8

abbrev pub x_finds : List ℕ
x_finds = record21 0x33454104CB0ACAC4B4510AB093250D244B32020202

-- Each field is a case. These four are a lemma of their own: one would compute for too long.
pub record FindingCases : Type 0 where
  -- O to move: it finds its win with a budget of its own; with X's alone, and with none, all is drawn. X to move: likewise with its own
  pub o_own : Reports o_finds 3276 (budgets 0 5) 0 3 (report 0 3 0 34)
  pub o_none : Reports o_finds 3276 (budgets 5 0) 0 3 (report 0 0 3 46)
  pub o_by_lot : Reports o_finds 3276 (budgets 0 0) 0 3 (report 0 0 3 0)
  pub x_own : Reports x_finds 3276 (budgets 20 0) 0 3 (report 3 0 0 56)

finding_cases : FindingCases
unfolding has_line state board board_states game_state bit_at position_of position_refusal refusal_to6 impossible_choice refusal first_refusal computed_match search_refusal searcher
    simulate_refusal simulate_call by_bits
finding_cases = record { o_own = refl; o_none = refl; o_by_lot = refl; x_own = refl }

pub record PlayersCases : Type 0 where
  -- W at once, with a pool of one node and no budget
  pub W_at_once : Reports W 1 (budgets 0 0) 7 2 (report 2 0 0 0)
  -- a drawn record, a thousand times; one that X has won; 0 games and 1,001
  pub D_thousand : Reports D 1 (budgets 0 0) 0 1000 (report 0 0 1000 0)
  pub won_once : Reports won_x 1 (budgets 3000000 3000000) 18446744073709551615 1 (report 1 0 0 0)
  pub no_game : Refuses D 1 (budgets 0 0) 0 23
  pub one_too_many : Refuses D 1 (budgets 0 0) 1001 23
  -- a win that a search has to find
  pub finding : FindingCases
  -- a move that ends the game is seen to win without an expansion, and is searched in its turn
  pub o_ends : Reports o_wins 3276 (budgets 0 8) 4294967296 2 (report 0 2 0 6)
  pub o_ends_0 : Reports o_wins 3276 (budgets 8 0) 4294967296 2 (report 0 2 0 0)
  pub x_ends : Reports x_wins_here 3276 (budgets 5 0) 52 2 (report 2 0 0 4)
  pub x_ends_0 : Reports x_wins_here 3276 (budgets 0 5) 52 2 (report 2 0 0 0)
  -- an ending by lot, where only searches solved on sight answer; with one side's budget large; with seeds 0 and 2^64 - 1
  pub by_lot : Reports ending_x 3276 (budgets 0 0) 0 5 (report 1 0 4 0)
  pub by_lot_wrapped : Reports ending_x 3276 (budgets 0 0) 18446744073709551615 5 (report 1 0 4 0)
  pub x_large : Reports ending_x 3276 (budgets 1000 0) 0 3 (report 1 0 2 38)
  pub o_large : Reports ending_x 3276 (budgets 0 1000) 0 3 (report 1 0 2 4)
  pub o_begins : Reports ending_o 3276 (budgets 1000 0) 0 3 (report 0 0 3 10)
  pub o_begins_large : Reports ending_o 3276 (budgets 0 1000) 0 3 (report 0 0 3 27)
  -- a pool of five nodes, and a limit of two live ones tested after every expansion, stop searches
  pub pool_short : Reports ending_x 5 (budgets 9 9) 0 3 (report 1 0 2 39)
  pub limit_passed : Reports ending_x 3276 (players 2 9 9 1 Off) 0 3 (report 1 0 2 24)
  -- every move draws: nothing is to be searched after the last
  pub last_moves : Reports last_x 3276 (budgets 1 1) 0 2 (report 0 0 2 0)
  pub last_moves_o : Reports last_o 3276 (budgets 1 1) 0 2 (report 0 0 2 0)
  -- C with margins 1 and 0
  pub margin_1 : Reports C 3276 (players 18446744073709551615 10 10 10000 (by_bits 0x3FF0000000000000)) 0 2 (report 0 0 2 16)
  pub margin_0 : Reports C 3276 (players 18446744073709551615 10 10 10000 (by_bits 0x0000000000000000)) 0 2 (report 0 0 2 18)
  -- the checks: the record before the pool, the pool before the settings; each budget alone; 10 before 21, 21 before 23
  pub no_record : Refuses [] 0 (players 0 3000001 0 0 Off) 0 1
  pub FA_22 : Refuses FA 0 (players 0 3000001 0 0 Off) 0 22
  pub no_pool : Refuses E 0 (players 0 3000001 0 0 Off) 0 8
  pub x_over : Refuses E 1 (players 0 3000001 0 1 Off) 1 10
  pub o_over : Refuses E 1 (players 0 0 3000001 1 Off) 1 10
  pub no_interval : Refuses E 1 (players 0 0 0 0 Off) 1 10
  pub ten_first : Refuses E 1 (players 0 0 3000001 1 (by_bits 0x3F60000000000000)) 0 10
  pub margin_next : Refuses E 1 (players 0 0 0 1 (by_bits 0x3F60000000000000)) 0 21

pub players_cases : PlayersCases
unfolding has_line state board board_states game_state bit_at position_of position_refusal refusal_to6 impossible_choice refusal first_refusal computed_match search_refusal searcher
    simulate_refusal simulate_call by_bits
players_cases = record {
  W_at_once = refl;
  D_thousand = refl;
  won_once = refl;
  no_game = refl;
  one_too_many = refl;
  finding = finding_cases;
  o_ends = refl;
  o_ends_0 = refl;
  x_ends = refl;
  x_ends_0 = refl;
  by_lot = refl;
  by_lot_wrapped = refl;
  x_large = refl;
  o_large = refl;
  o_begins = refl;
  o_begins_large = refl;
  pool_short = refl;
  limit_passed = refl;
  last_moves = refl;
  last_moves_o = refl;
  margin_1 = refl;
  margin_0 = refl;
  no_record = refl;
  FA_22 = refl;
  no_pool = refl;
  x_over = refl;
  o_over = refl;
  no_interval = refl;
  ten_first = refl;
  margin_next = refl;
}
