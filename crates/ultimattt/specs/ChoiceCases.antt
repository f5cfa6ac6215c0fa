-- Records with free choice through every call that loads one, computed. Rests on the calls' definitions, on plain's Cases for the records E and D, on book's Cases and on
-- GamesCases.
use Rattle.std.specs.Prelude.{◌≡◌, refl, List, [], ◌∷◌, ◌++◌, ℕ, replicate}
use Rattle.rules.specs.Rules.{has_line, state, board, board_states, game_state, move_error, play, legal_moves, replay}
use Rattle.rules.specs.Record.{bit_at, position_of, position_refusal, refusal_to6, impossible_choice, refusal, record_bit, record_of}
use Rattle.rules.specs.Refusals.{first_refusal}
use Rattle.rules.specs.Examples.{FA}
use Rattle.plain.proofs.Cases.{record21, E, D, computed_search}
use Rattle.passes.specs.Passes.{total, unspent_at}
use Rattle.calls.specs.Calls.{after_moves, output_refusal, replay_outcome, replay_call, moves_outcome, moves_call, referee_outcome, referee_refusal, referee_call}
use Rattle.searches.specs.Searches.{search_refusal, Refused, search_call, Turned, full_call}
use Rattle.searches.proofs.StayCases.{by_bits, staying}
use Rattle.searches.specs.StepThree.{pool, judging}
use Rattle.entries.specs.Entries.{holds_rule, holds_pair, find}
use Rattle.entries.specs.declared.Caller.TheVariants.{Arbiter, Trainer}
use Rattle.book.specs.Book.{Book, book_of, refused, lookup_refusal, lookup_call, add_refusal, add_call, publish_refusal, publish_call}
use Rattle.book.proofs.Cases.{blank, entry, judge}
use Rattle.games_checks.specs.Checks.{number_refusal, earlier, earliest, lowest, settings_refusal}
use Rattle.games.specs.Games.{games_call}
use Rattle.ultimattt.specs.GamesCases.{Refuses, unlimited}

-- FA with target 0.
abbrev FA_0 : List ℕ
FA_0 = record21 0x820000000000000000000000000000000000000000

-- Free choice: the cells of a drawn board alone; a won board; D with target 0, which 6 refuses.
abbrev drawn_board : List ℕ
drawn_board = record21 0xFAD4AC000000000000000000000000000000000000

abbrev won_board : List ℕ
won_board = record21 0xFAA001400000000000000000000000000000000000

abbrev D_0 : List ℕ
D_0 = record21 0x02B400AC0054001500054000A8002A000A80054000

-- A book whose one entry is FA's under rule 1, True.
abbrev holding : Book
holding = book_of (entry FA 0x50) 1

-- Each field is a case.
pub record ChoiceCases : Type 0 where
  -- one cell, with free choice and with target 0; the empty game; a drawn board, a won one; a finished game
  pub one_cell : refusal FA ≡ 22
  pub one_cell_led : refusal FA_0 ≡ 0
  pub no_cell : refusal E ≡ 0
  pub drawn : refusal drawn_board ≡ 0
  pub won : refusal won_board ≡ 0
  pub finished : refusal D ≡ 0
  -- checks 1 to 6 pass FA; 3 comes before 22
  pub to_6 : refusal_to6 FA ≡ 0
  pub after_3 : refusal (record21 0x7A0000000000000000000000000000000000000000) ≡ 3
  -- replay and legal moves, with an output too short too; FA_0 is what E with 00 is
  pub replayed : replay_call FA [] (replicate 21 0) ≡ replay_outcome 22 0 (replicate 21 0)
  pub replayed_short : replay_call FA [] (replicate 20 0) ≡ replay_outcome 22 0 (replicate 20 0)
  pub replayed_to : replay_call E (0x00 ∷ []) (replicate 21 0) ≡ replay_outcome 0 0 FA_0
  pub listed_short : moves_call FA (replicate 80 0) ≡ moves_outcome 22 0 0 (replicate 80 0)
  -- search and full verdict, before 8, 10 and 21
  pub searched : search_call FA (pool 3276) 0 (judging 0) ≡ Refused 22
  pub searched_no_pool : search_call FA 4 3 (judging 3000001) ≡ Refused 22
  pub judged : full_call FA 0 (staying 3000001 (by_bits 0x3F60000000000000)) ≡ Turned 22
  -- the referee, before 10 and 16
  pub refereed : referee_call FA 3 ≡ referee_outcome 22 0 0
  -- lookup, add and publish, before 10 and 17; a trainer's add and publish
  pub looked_up : lookup_call Trainer FA 1 holding ≡ refused holding 22
  pub looked_up_broken : lookup_call Arbiter FA 3 (book_of (blank 23) 2) ≡ refused (book_of (blank 23) 2) 22
  pub added : add_call Arbiter FA (pool 3276) 1 judge holding ≡ refused holding 22
  pub added_by_trainer : add_call Trainer FA (pool 3276) 1 judge holding ≡ refused holding 19
  pub published : publish_call Arbiter FA 1 holding ≡ refused holding 22
  pub published_by_trainer : publish_call Trainer FA 1 holding ≡ refused holding 19
  -- the entry counts as used: the book is full
  pub full : add_call Arbiter D (pool 3276) 1 judge holding ≡ refused holding 18
  -- games: 22 names the lowest game; 6 of a later game comes first
  pub lowest_game : Refuses (E ++ FA ++ FA) 3 (0 ∷ 0 ∷ 0 ∷ []) (unlimited 0) 22 1
  pub earlier_check : Refuses (FA ++ D_0) 2 (0 ∷ 0 ∷ []) (unlimited 0) 6 1

pub choice_cases : ChoiceCases
unfolding has_line state board board_states game_state move_error play legal_moves replay bit_at position_of position_refusal refusal_to6 impossible_choice refusal record_bit record_of
    first_refusal after_moves output_refusal replay_call moves_call referee_refusal referee_call computed_search total unspent_at by_bits search_refusal search_call full_call
    holds_rule holds_pair find lookup_refusal lookup_call add_refusal add_call publish_refusal publish_call number_refusal earlier earliest lowest settings_refusal games_call
choice_cases = record {
  one_cell = refl;
  one_cell_led = refl;
  no_cell = refl;
  drawn = refl;
  won = refl;
  finished = refl;
  to_6 = refl;
  after_3 = refl;
  replayed = refl;
  replayed_short = refl;
  replayed_to = refl;
  listed_short = refl;
  searched = refl;
  searched_no_pool = refl;
  judged = refl;
  refereed = refl;
  looked_up = refl;
  looked_up_broken = refl;
  added = refl;
  added_by_trainer = refl;
  published = refl;
  published_by_trainer = refl;
  full = refl;
  lowest_game = refl;
  earlier_check = refl;
}
