-- `record::record_bit` meets its contract: the four parts of a record. Assumes nothing.
use mathlib.Core.Path.{◌∙◌}
use borrow.Author.Tests.{ne_eqb, lt-ltb, le-ltb}
use Rattle.rules.specs.Record.{record_bit}
use Rattle.record.proofs.record_bit.Goals as goal

pub returns-in-0 : goal.returns-in-0
unfolding record_bit
returns-in-0 c p h = c.side_to_move.ensures.0 ∙ h.side ∙ rw c.in-0.is

pub returns-in-1-to-4 : goal.returns-in-1-to-4
unfolding record_bit
returns-in-1-to-4 c p h = rw (ne_eqb _ _ c.in-1-to-4.in_default-own.rest.1, lt-ltb _ _ c.in-1-to-4.if-o-lt5-own.true, h.target)

pub returns-in-5-to-166 : goal.returns-in-5-to-166
unfolding record_bit
returns-in-5-to-166 c p h =
    c.cell_bit.ensures p h
    ∙ rw (ne_eqb _ _ c.in-5-to-166.in_default-own.rest.1, le-ltb _ _ c.in-5-to-166.if-o-lt5-own.false, lt-ltb _ _ c.in-5-to-166.if-o-lt167-own.true)

pub returns-in_default : goal.returns-in_default
unfolding record_bit
returns-in_default c p h = rw (ne_eqb _ _ c.in_default.in_default-own.rest.1, le-ltb _ _ c.in_default.if-o-lt5-own.false, le-ltb _ _ c.in_default.if-o-lt167-own.false)
