-- The line of W (MANUAL, Printed line) and others, computed from the definitions. Rests on Printed and Answers, and on plain's cases
-- for the records W and D and for D's results. FA is the rules'.
use Rattle.std.specs.Prelude.{◌≡◌, refl, List, [], ◌∷◌, ◌++◌, ℕ, length, get_or}
use Rattle.std.proofs.Common.{ap, ◌∙◌, arith, length-append, take_at}
use Rattle.std.proofs.lemmas.List.{get_or_at}
use Rattle.rules.specs.Rules.{has_line, state, board, board_states, game_state}
use Rattle.rules.specs.Record.{bit_at, position_of, position_refusal, refusal_to6, impossible_choice, refusal}
use Rattle.rules.specs.Refusals.{first_refusal}
use Rattle.rules.specs.Examples.{FA}
use Rattle.machine.specs.Machine.{True}
use Rattle.plain.proofs.Cases.{W, D, fields, computed_search, starred}
use Rattle.searches.specs.Searches.{nodes, Searched, Answered, Refused, search_refusal, search_call}
use Rattle.searches.proofs.SearchAnswers.{search_answered}
use Rattle.printed.specs.Printed.{byte, decimal, fields_line, refused_line, answer_line, judge_words, judge_limits, judge_line}
use Rattle.printed.specs.Answers.{wrong_length, right_length}

-- The line of 21 bytes and a rule, from the search's answer
line_of : (bytes : List ℕ) (rule : ℕ) (s : Searched) → length bytes ≡ 21 → search_call bytes judge_words rule judge_limits ≡ s → judge_line (bytes ++ byte rule) ≡ answer_line s
line_of bytes rule s e q =
    right_length (bytes ++ byte rule) (omega (arith, length-append bytes (byte rule), e))
    ∙ ap (λ b. answer_line (search_call b judge_words (get_or (bytes ++ byte rule) 21 0) judge_limits)) (take_at bytes (byte rule) 21 e)
    ∙ ap (λ n. answer_line (search_call bytes judge_words n judge_limits)) (get_or_at bytes rule [] 0 21 e)
    ∙ ap answer_line q

W_won : search_call W judge_words 0 judge_limits ≡ Answered (fields True 0 2147483648 2 1 1 0 1 0)
unfolding search_call search_refusal first_refusal refusal impossible_choice refusal_to6 position_refusal position_of bit_at has_line state board board_states game_state computed_search
W_won = refl

W_rule : search_call W judge_words 3 judge_limits ≡ Refused 10
unfolding search_call search_refusal first_refusal refusal impossible_choice refusal_to6 position_refusal position_of bit_at has_line state board board_states game_state
W_rule = refl

FA_22 : search_call FA judge_words 0 judge_limits ≡ Refused 22
unfolding search_call search_refusal first_refusal refusal impossible_choice refusal_to6 position_refusal position_of bit_at has_line state board board_states game_state
FA_22 = refl

-- D passes search's checks under each rule
D_accepted : (search_refusal D (nodes judge_words) 0 judge_limits ≡ 0) × (search_refusal D (nodes judge_words) 1 judge_limits ≡ 0) × (search_refusal D (nodes judge_words) 2 judge_limits ≡ 0)
unfolding search_refusal first_refusal refusal impossible_choice refusal_to6 position_refusal position_of bit_at has_line state board board_states game_state
D_accepted = (refl, refl, refl)

pub record Lines : Type 0 where
  -- `True 0 2147483648 2 1 1 0 1 0`; a newline ends each
  pub W_0 : judge_line (W ++ byte 0) ≡ 84 ∷ 114 ∷ 117 ∷ 101 ∷ 32 ∷ 48 ∷ 32 ∷ 50 ∷ 49 ∷ 52 ∷ 55 ∷ 52 ∷ 56 ∷ 51 ∷ 54 ∷ 52 ∷ 56 ∷ 32 ∷ 50 ∷ 32 ∷ 49 ∷ 32 ∷ 49 ∷ 32 ∷ 48 ∷ 32 ∷ 49 ∷ 32 ∷ 48 ∷ 10 ∷ []
  -- `False 2147483648 0 1 0 0 0 0 0`, twice; `True 0 2147483648 1 0 0 0 0 0`
  pub D_0 : judge_line (D ++ byte 0) ≡ 70 ∷ 97 ∷ 108 ∷ 115 ∷ 101 ∷ 32 ∷ 50 ∷ 49 ∷ 52 ∷ 55 ∷ 52 ∷ 56 ∷ 51 ∷ 54 ∷ 52 ∷ 56 ∷ 32 ∷ 48 ∷ 32 ∷ 49 ∷ 32 ∷ 48 ∷ 32 ∷ 48 ∷ 32 ∷ 48 ∷ 32 ∷ 48 ∷ 32 ∷ 48 ∷ 10 ∷ []
  pub D_1 : judge_line (D ++ byte 1) ≡ 70 ∷ 97 ∷ 108 ∷ 115 ∷ 101 ∷ 32 ∷ 50 ∷ 49 ∷ 52 ∷ 55 ∷ 52 ∷ 56 ∷ 51 ∷ 54 ∷ 52 ∷ 56 ∷ 32 ∷ 48 ∷ 32 ∷ 49 ∷ 32 ∷ 48 ∷ 32 ∷ 48 ∷ 32 ∷ 48 ∷ 32 ∷ 48 ∷ 32 ∷ 48 ∷ 10 ∷ []
  pub D_2 : judge_line (D ++ byte 2) ≡ 84 ∷ 114 ∷ 117 ∷ 101 ∷ 32 ∷ 48 ∷ 32 ∷ 50 ∷ 49 ∷ 52 ∷ 55 ∷ 52 ∷ 56 ∷ 51 ∷ 54 ∷ 52 ∷ 56 ∷ 32 ∷ 49 ∷ 32 ∷ 48 ∷ 32 ∷ 48 ∷ 32 ∷ 48 ∷ 32 ∷ 48 ∷ 32 ∷ 48 ∷ 10 ∷ []
  -- `refused 10`; `refused 22`; `refused 1`
  pub W_3 : judge_line (W ++ byte 3) ≡ 114 ∷ 101 ∷ 102 ∷ 117 ∷ 115 ∷ 101 ∷ 100 ∷ 32 ∷ 49 ∷ 48 ∷ 10 ∷ []
  pub FA_0 : judge_line (FA ++ byte 0) ≡ 114 ∷ 101 ∷ 102 ∷ 117 ∷ 115 ∷ 101 ∷ 100 ∷ 32 ∷ 50 ∷ 50 ∷ 10 ∷ []
  pub none : judge_line [] ≡ 114 ∷ 101 ∷ 102 ∷ 117 ∷ 115 ∷ 101 ∷ 100 ∷ 32 ∷ 49 ∷ 10 ∷ []

pub lines : Lines
unfolding answer_line fields_line refused_line decimal
lines = record {
  W_0 = line_of W 0 _ refl W_won;
  D_0 = line_of D 0 _ refl (search_answered D judge_words 0 judge_limits D_accepted.0 _ starred.D_rule0);
  D_1 = line_of D 1 _ refl (search_answered D judge_words 1 judge_limits D_accepted.1 _ starred.D_rule1);
  D_2 = line_of D 2 _ refl (search_answered D judge_words 2 judge_limits D_accepted.2 _ starred.D_rule2);
  W_3 = line_of W 3 _ refl W_rule;
  FA_0 = line_of FA 0 _ refl FA_22;
  none = wrong_length [] (λ e. omega (arith, e));
}
