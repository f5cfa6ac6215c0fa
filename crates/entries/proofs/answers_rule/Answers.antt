-- `entries::answers_rule` meets its contract: the caller may read, or the rule is not held. Assumes nothing.
use Rattle.std.proofs.Common.{sym, ◌∙◌}
use Rattle.entries.specs.Entries.{may_read}
use Rattle.entries.proofs.Scanning.{none_read}
use Rattle.entries.proofs.answers_rule.Goals as goal

pub returns-else-holds_rule : goal.returns-else-holds_rule
returns-else-holds_rule c = c.if-holds_rule.false ∙ none_read (may_read c.args.who c.args.last) _ (sym c.if-holds_rule.false ∙ c.holds_rule.ensures)
