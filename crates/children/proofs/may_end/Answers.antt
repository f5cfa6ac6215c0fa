-- `children::may_end` meets its contract: the test of each way in which board b can end the game. Assumes nothing.
use mathlib.Core.Path.{sym, ◌∙◌}
use native.Mathlib.Omega.{arith}
use Rattle.children.specs.After.{may_end_by, won_fits, outer_small}
use Rattle.children.proofs.may_end.Goals as goal

pub overflow_add-o : goal.overflow_add-o
overflow_add-o c = omega (arith, won_fits _ _ _ c.requires.0.1 c.requires.1 c.requires.2, c.bit-own.ensures.0)

pub line-requires : goal.line-requires
line-requires c = omega (arith, won_fits _ _ _ c.requires.0.1 c.requires.1 c.requires.2, c.bit-own.ensures.0)

pub returns-then-line : goal.returns-then-line
returns-then-line c = may_end_by _ _ _ _ c.bit-own.ensures.0 (c.if-line.true ∙ rw (sym c.line.ensures ∙ c.if-line.true))

pub overflow_add-result : goal.overflow_add-result
overflow_add-result c = omega (arith, (outer_small _ _ c.requires.0.1).0, c.bit-own.ensures.1)

pub returns-else-line : goal.returns-else-line
returns-else-line c = may_end_by _ _ _ _ c.bit-own.ensures.0 (rw (sym c.line.ensures ∙ c.if-line.false))
