-- `entries::holds_rule` meets its contract: another rule, or the verdict decides. Assumes nothing.
use Rattle.std.proofs.Common.{sym, ◌∙◌, ap, ne_eqb}
use Rattle.std.specs.Option.{is_some}
use Rattle.entries.proofs.Chunks.{verdict_held}
use Rattle.entries.proofs.Scanning.{other_rule, own_rule}
use Rattle.entries.proofs.holds_rule.Goals as goal

pub returns-then-rule_bits-rule : goal.returns-then-rule_bits-rule
returns-then-rule_bits-rule c =
    own_rule _ _ (sym c.rule_bits.ensures ∙ c.if-rule_bits-rule.true) _ (c.is_some.ensures ∙ ap is_some c.verdict.ensures ∙ verdict_held c.args.last)

pub returns-else-rule_bits-rule : goal.returns-else-rule_bits-rule
returns-else-rule_bits-rule c =
    ne_eqb _ _ c.if-rule_bits-rule.false ∙ other_rule _ _ (λ e. c.if-rule_bits-rule.false (c.rule_bits.ensures ∙ e))
