-- The line of an input, from what decides it. Rests on Printed and on search's answer.
use Rattle.std.specs.Prelude.{◌≡◌, List, ℕ, length, take, get_or}
use Rattle.std.proofs.Common.{eq-eqb, ne_eqb}
use Rattle.searches.specs.Searches.{search_call}
use Rattle.printed.specs.Printed.{refused_line, answer_line, judge_words, judge_limits, judge_line}

module _ (input : List ℕ) where
  pub wrong_length : (length input ≡ 22 → ⊥) → judge_line input ≡ refused_line 1
  unfolding judge_line
  wrong_length h = rw (ne_eqb (length input) 22 h)

  pub right_length : length input ≡ 22 → judge_line input ≡ answer_line (search_call (take 21 input) judge_words (get_or input 21 0) judge_limits)
  unfolding judge_line
  right_length h = rw (eq-eqb (length input) 22 h)
