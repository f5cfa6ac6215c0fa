-- Computed cases of turns, games and reports. Rests on Matches, on the plain machine's searches under rule 2, and on plain's Cases and Oracle for the records.
use Rattle.std.specs.Prelude.{◌≡◌, refl, List, ℕ}
use Rattle.rules.specs.Rules.Player.{X, O}
use Rattle.rules.specs.Record.{position_of}
use Rattle.plain.specs.Plain.{search_of}
use Rattle.plain.proofs.Cases.{W, D, judge_with, computed_search}
use Rattle.plain.proofs.Oracle.{won_x, last_two, ending_x}
use Rattle.matches.specs.Matches.{Searcher, look, next_state, drawn_place, move_or_draw, turn, turns, play_game, Report, report, counted, play_match}

-- Players with these budgets, a pool of so many nodes, and judge's limit and interval.
abbrev pub budgets : (nodes x o : ℕ) → Searcher
budgets nodes x o X q = search_of 2 (judge_with nodes x) q
budgets nodes x o O q = search_of 2 (judge_with nodes o) q

-- The report of a record's games with every definition open, so that it computes.
unfoldable pub computed_match : Searcher → (games : ℕ) → (bytes : List ℕ) (seed : ℕ) → Report
unfolding computed_search look next_state drawn_place move_or_draw turn turns play_game counted play_match
computed_match search n bytes seed = play_match search n (position_of bytes) seed

abbrev Reports : Searcher → (games : ℕ) → (bytes : List ℕ) (seed : ℕ) → Report → Type 0
Reports search n bytes seed r = play_match search n (position_of bytes) seed ≡ r

-- Each field is a case.
pub record MatchCases : Type 0 where
  -- the draw's state from 0, and from 2^64 - 1, where it wraps around; the place of the move drawn, of 81
  pub from_0 : (next_state 0 ≡ 0x9E3779B97F4A7C15) × (drawn_place 0x9E3779B97F4A7C15 81 ≡ 78)
  pub from_last : (next_state 18446744073709551615 ≡ 0x9E3779B97F4A7C14) × (drawn_place 18446744073709551615 81 ≡ 48)
  -- finished records, won by X and drawn, are scored as they are, for each game
  pub won : Reports (budgets 3276 100 100) 3 won_x 1 (report 3 0 0 0)
  pub drawn : Reports (budgets 3276 100 100) 3 D 1 (report 0 0 3 0)
  -- W: X's first move wins, and is seen to with budgets of 0
  pub at_once : Reports (budgets 6 1 1) 2 W 7 (report 2 0 0 0)
  pub at_once_0 : Reports (budgets 1 0 0) 2 W 7 (report 2 0 0 0)
  -- one move, one reply, and the game is drawn: X's search takes one expansion, and with a budget of 0 none
  pub two_left : Reports (budgets 3276 1 1) 3 last_two 1 (report 0 0 3 3)
  pub two_left_0 : Reports (budgets 3276 0 3) 3 last_two 1 (report 0 0 3 0)
  -- a longer ending: whose budget is whose, another seed, and one that wraps around
  pub o_looks : Reports (budgets 3276 0 3) 3 ending_x 1 (report 1 0 2 4)
  pub x_looks : Reports (budgets 3276 3 0) 1 ending_x 0 (report 0 0 1 13)
  pub wraps : Reports (budgets 3276 0 3) 5 ending_x 18446744073709551615 (report 1 0 4 6)

pub match_cases : MatchCases
unfolding computed_match
match_cases = record {
  from_0 = (refl, refl);
  from_last = (refl, refl);
  won = refl;
  drawn = refl;
  at_once = refl;
  at_once_0 = refl;
  two_left = refl;
  two_left_0 = refl;
  o_looks = refl;
  x_looks = refl;
  wraps = refl;
}
