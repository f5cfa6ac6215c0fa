-- `entries::entry_answers` meets its contract: another record, or the last byte decides. Assumes nothing.
use Rattle.std.proofs.Common.{sym, ◌∙◌}
use Rattle.entries.proofs.Scanning.{other_record, own_record}
use Rattle.entries.proofs.entry_answers.Goals as goal

pub returns-then-same_record : goal.returns-then-same_record
returns-then-same_record c =
    own_record c.args.who c.args.entry.now c.args.bytes.now 0 c.args.rule (sym c.if-same_record.true ∙ c.same_record.ensures) _ c.answers_rule.ensures

pub returns-else-same_record : goal.returns-else-same_record
returns-else-same_record c =
    c.if-same_record.false ∙ other_record c.args.who c.args.entry.now c.args.bytes.now 0 c.args.rule (sym c.if-same_record.false ∙ c.same_record.ensures)
