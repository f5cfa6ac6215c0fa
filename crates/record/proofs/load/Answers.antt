-- `record::load` meets its contract: checks 1 to 6, and 22 after them. Assumes nothing.
use Rattle.std.proofs.Common.{◌∙◌}
use Rattle.rules.specs.Record.{position_of, refusal}
use Rattle.record.proofs.load.Goals as goal

pub returns-clause-code : goal.returns-clause-code
unfolding refusal
returns-clause-code c = c.check_choice.ensures.code (position_of _) c.load_to_6.ensures.position ∙ rw c.load_to_6.ensures.code
