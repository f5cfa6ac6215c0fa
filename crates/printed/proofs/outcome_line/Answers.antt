-- `printed::outcome_line` meets its contract, by the cases of the answer. Assumes nothing.
use Rattle.printed.specs.Printed.{answer_line, fields_line}
use Rattle.printed.proofs.outcome_line.Goals as goal

pub returns-in-Ok-clause-text : goal.returns-in-Ok-clause-text
unfolding answer_line fields_line
returns-in-Ok-clause-text c = rw (c.in-Ok.is, c.line_of.ensures.text, c.word.ensures.word, c.number.ensures)

pub returns-in-Err-clause-text : goal.returns-in-Err-clause-text
unfolding answer_line
returns-in-Err-clause-text c = rw c.in-Err.is c.refusal_line.ensures.text
