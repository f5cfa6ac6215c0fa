-- `printed::judge_line` meets its contract where the input has the right length. Assumes nothing.
use Rattle.std.proofs.Common.{ap, sym, ◌∙◌, arith}
use Rattle.printed.specs.Printed.{answer_line}
use Rattle.printed.specs.Answers.{right_length}
use Rattle.printed.proofs.judge_line.Goals as goal

pub returns-clause-text : goal.returns-clause-text
returns-clause-text c = c.outcome_line.ensures.text ∙ ap answer_line (c.numbered.ensures ∙ c.search-answer.ensures.0) ∙ sym (right_length _ (omega arith))
