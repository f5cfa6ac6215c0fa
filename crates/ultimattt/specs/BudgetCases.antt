-- Calls with the largest budget, with one above it, and with the largest of the range as it was, computed. Rests on the calls' definitions, on plain's Cases for the records
-- W and D, on book's Cases and on GamesCases.
use Rattle.std.specs.Prelude.{◌≡◌, refl, [], ◌∷◌, ◌++◌}
use Rattle.rules.specs.Rules.{has_line, state, board, board_states, game_state}
use Rattle.rules.specs.Record.{bit_at, position_of, position_refusal, refusal_to6, impossible_choice, refusal}
use Rattle.rules.specs.Refusals.{first_refusal}
use Rattle.machine.specs.Machine.{Result, True, fields}
use Rattle.plain.proofs.Cases.{record21, W, D, computed_search}
use Rattle.passes.specs.Passes.{total, unspent_at}
use Rattle.searches.specs.Searches.{search_refusal, Refused, Answered, search_call, full_of, Draw, Full, Turned, full_call}
use Rattle.searches.proofs.StayCases.{by_bits, staying}
use Rattle.searches.specs.StepThree.{pool, judging}
use Rattle.entries.specs.Entries.{holds_rule, holds_pair, find}
use Rattle.entries.specs.declared.Caller.TheVariants.{Arbiter, Trainer}
use Rattle.book.specs.Book.{book_of, refused, searching, add_refusal, add_call}
use Rattle.book.proofs.Cases.{blank, none, one, both}
use Rattle.games_checks.specs.Checks.{common, number_refusal, earlier, earliest, lowest, settings_refusal}
use Rattle.games.specs.Games.{games_call}
use Rattle.ultimattt.specs.GamesCases.{Judges, Refuses, unlimited, A, A_7, won, lost}

-- D under rule 2.
abbrev drawn_true : Result
drawn_true = fields True 0 2147483648 1 0 0 0 0 0

-- Each field is a case.
pub record BudgetCases : Type 0 where
  -- a search; full verdict
  pub search_largest : search_call W (pool 2) 0 (judging 3000000) ≡ Answered won
  pub search_over : search_call W (pool 2) 0 (judging 3000001) ≡ Refused 10
  pub search_before : search_call W (pool 2) 0 (judging 1000000000000) ≡ Refused 10
  pub search_on_sight : search_call D (pool 1) 0 (judging 3000001) ≡ Refused 10
  pub full_largest : full_call D (pool 1) (judging 3000000) ≡ Full Draw lost drawn_true
  pub full_over : full_call D (pool 1) (judging 3000001) ≡ Turned 10
  -- one above, after 3 and 8, and before 21
  pub record_first : search_call (record21 0x7A0000000000000000000000000000000000000000) (pool 1) 0 (judging 3000001) ≡ Refused 3
  pub pool_first : full_call D 4 (judging 3000001) ≡ Turned 8
  pub margin_later : full_call D (pool 1) (staying 3000001 (by_bits 0x3F60000000000000)) ≡ Turned 10
  -- an add; one above, where the pair is held, before 17 and before 18; by a trainer
  pub add_largest : add_call Arbiter D (pool 1) 1 (judging 3000000) none ≡ searching one 2
  pub add_over : add_call Arbiter D (pool 1) 1 (judging 3000001) none ≡ refused none 10
  pub add_held : add_call Arbiter D (pool 1) 1 (judging 3000001) one ≡ refused one 10
  pub add_broken : add_call Arbiter D (pool 1) 1 (judging 3000001) (book_of (blank 23) 0) ≡ refused (book_of (blank 23) 0) 10
  pub add_full : add_call Arbiter W (pool 2) 1 (judging 3000001) both ≡ refused both 10
  pub add_trainer : add_call Trainer D (pool 1) 1 (judging 3000001) none ≡ refused none 19
  -- a share and the allowance; past the last game every share is the largest u64
  pub share_largest : Judges (W ++ D) 4 (3000000 ∷ 0 ∷ []) (unlimited 3000000) (won ∷ lost ∷ [])
  pub share_over : Refuses (W ++ D) 4 (0 ∷ 3000001 ∷ []) (unlimited 3000000) 10 0
  pub allowance_over : Refuses (W ++ D) 4 (1 ∷ 0 ∷ []) (unlimited 3000001) 10 0
  -- one above, before 21 and before the sum's 20; shares in the range with a sum above it
  pub share_first : Refuses (W ++ D) 4 (3000001 ∷ 0 ∷ []) (common 0 0 0 1 (by_bits 0x3F60000000000000)) 10 0
  pub sum_above : Refuses (W ++ D) 4 (3000000 ∷ 1 ∷ []) (unlimited 3000000) 20 0
  -- grants out of the largest allowance: 2999999, and then 2999993
  pub granted : Judges (A ++ A) 24 (1 ∷ 1 ∷ []) (unlimited 3000000) (A_7 ∷ A_7 ∷ [])

pub budget_cases : BudgetCases
unfolding has_line state board board_states game_state bit_at position_of position_refusal refusal_to6 impossible_choice refusal first_refusal computed_search total unspent_at by_bits
    search_refusal search_call full_of full_call holds_rule holds_pair find add_refusal add_call number_refusal earlier earliest lowest settings_refusal games_call
budget_cases = record {
  search_largest = refl;
  search_over = refl;
  search_before = refl;
  search_on_sight = refl;
  full_largest = refl;
  full_over = refl;
  record_first = refl;
  pool_first = refl;
  margin_later = refl;
  add_largest = refl;
  add_over = refl;
  add_held = refl;
  add_broken = refl;
  add_full = refl;
  add_trainer = refl;
  share_largest = refl;
  share_over = refl;
  allowance_over = refl;
  share_first = refl;
  sum_above = refl;
  granted = refl;
}
