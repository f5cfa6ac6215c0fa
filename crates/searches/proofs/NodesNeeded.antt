-- Step 3 is as promised. Rests on StepThree, SearchAnswers, TwoSearches, and on the laws of the machine and of the plain machine's policy.
use Rattle.std.specs.Prelude.{◌≡◌, refl, List, ℕ, zero, suc, ◌≤◌}
use Rattle.std.proofs.Common.{◌∙◌, arith}
use Rattle.rules.specs.Rules.{has_line, state, board, board_states, game_state}
use Rattle.rules.specs.Record.{bit_at, position_of, position_refusal, refusal_to6, impossible_choice, refusal}
use Rattle.rules.specs.Refusals.{first_refusal}
use Rattle.rules.specs.Examples.{W}
use Rattle.machine.specs.Machine.{Settings, Result, fields, Unknown}
use Rattle.machine.specs.Needs.{asking_for_moves}
use Rattle.machine.proofs.NeedsNoMore.{asking_no_more}
use Rattle.plain.specs.Plain.{game_of, policy_of, search_of, plain_search}
use Rattle.plain.proofs.Laws.{policy_needs, policy_asks_no_more}
use Rattle.plain.proofs.Cases as plain-cases
use Rattle.plain.proofs.Cases.{computed_search, starred}
use Rattle.calls.specs.Calls.{last_rule}
use Rattle.searches.specs.Searches.{nodes, settings, search_refusal, Answered, search_call}
use Rattle.searches.proofs.SearchAnswers.{answered}
use Rattle.searches.proofs.SearchAnswers.{search_answered, full_answered}
use Rattle.searches.proofs.TwoSearches.{third_condition}
use Rattle.searches.specs.StepThree.{StepThree, search_for_moves, pool, judging}

-- W with five nodes, where one is asked for each legal move
five_for_moves : (rule : ℕ) → rule ≤ last_rule → search_for_moves rule (settings (pool 5) (judging 1)) W ≡ fields Unknown 1 1 1 0 0 0 0 2
unfolding computed_search asking_for_moves search_for_moves
five_for_moves zero l = refl
five_for_moves (suc zero) l = refl
five_for_moves (suc (suc zero)) l = refl
five_for_moves (suc (suc (suc n))) l = absurd (omega arith)

-- The plain machine's result is that of the machine that asks for all legal moves, unless this one has cause 2
as_before : (rule : ℕ) (S : Settings) (bytes : List ℕ) → ((search_for_moves rule S bytes).cause ≡ 2 → ⊥) → plain_search rule S bytes ≡ search_for_moves rule S bytes
unfolding search_for_moves search_of
as_before rule S bytes v =
    let p = position_of bytes in
    let G = game_of rule p in
    asking_no_more G (asking_for_moves G S.stay) (policy_of rule p.side S.stay) (policy_asks_no_more rule p.side S.stay) S p v

-- A case under each rule
under_each : (words : ℕ) → search_refusal W (nodes words) 0 (judging 1) ≡ 0 → search_refusal W (nodes words) 1 (judging 1) ≡ 0 → search_refusal W (nodes words) 2 (judging 1) ≡ 0
    → (r : Result) → plain-cases.UnderEach (settings words (judging 1)) W r → (rule : ℕ) → rule ≤ last_rule → search_call W words rule (judging 1) ≡ Answered r
under_each words a b c r h zero l = search_answered W words 0 (judging 1) a r h.0
under_each words a b c r h (suc zero) l = search_answered W words 1 (judging 1) b r h.1
under_each words a b c r h (suc (suc zero)) l = search_answered W words 2 (judging 1) c r h.2
under_each words a b c r h (suc (suc (suc n))) l = absurd (omega arith)

-- THEOREM: step 3 needs the nodes that an expansion takes
pub step_three : StepThree
unfolding has_line state board board_states game_state bit_at position_of position_refusal refusal_to6 impossible_choice refusal first_refusal search_refusal
step_three = record {
  needs = policy_needs;
  W_two = under_each (pool 2) refl refl refl _ starred.W_two;
  W_one = under_each (pool 1) refl refl refl _ starred.W_short;
  enough = λ bytes words rule L r e. (third_condition bytes rule L L words words r r e e).first_decided;
  W_for_moves = five_for_moves;
  search_as_before = λ bytes words rule L r e v. (answered bytes words rule L r e).1 ∙ as_before rule (settings words L) bytes v;
  first_as_before = λ bytes words L w r s e v. (full_answered bytes words L w r s e).1 ∙ as_before 1 (settings words L) bytes v;
  second_as_before = λ bytes words L w r s e v. (full_answered bytes words L w r s e).2 ∙ as_before 2 (settings words L) bytes v;
}
