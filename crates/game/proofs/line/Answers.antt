-- `game::line` meets its contract: an entry of the table is 1 exactly if its bits hold a line, by one computed test over the table's 512 entries. Assumes nothing.
use mathlib.Core.Path.{ap, ◌∙◌}
use lib.Dec.{eqb}
use Rattle.game.specs.Masks.{bit_test}
use Rattle.game.specs.Lines.{line_in, line_table, line_at}
use Rattle.game.proofs.line.Goals as goal

pub returns : goal.returns
unfolding line_table line_in
returns c = ap (λ n. eqb n 1) (line_at c.args.bits c.requires) ∙ bit_test (line_in c.args.bits)
