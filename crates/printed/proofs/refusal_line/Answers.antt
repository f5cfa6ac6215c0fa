-- `printed::refusal_line` meets its contract: one number is written. Assumes nothing.
use Rattle.std.proofs.Common.{ap, ◌∙◌, append-nil, ◌++◌}
use Rattle.printed.specs.Printed.{refused_word, field, newline, refused_line}
use Rattle.printed.proofs.refusal_line.Goals as goal

pub returns-clause-text : goal.returns-clause-text
unfolding refused_line
returns-clause-text c = c.line_of.ensures.text ∙ ap (λ l. refused_word ++ l ++ newline) (append-nil (field c.args.number))
