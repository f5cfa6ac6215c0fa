-- `record::of_side` meets its contract: the two sides. Assumes nothing.
use borrow.Author.Tests.{eq-eqb, ne_eqb}
use Rattle.record.proofs.of_side.Goals as goal

pub returns-then-side-eq0 : goal.returns-then-side-eq0
returns-then-side-eq0 c = rw (eq-eqb _ _ c.if-side-eq0.true)

pub returns-else-side-eq0 : goal.returns-else-side-eq0
returns-else-side-eq0 c = rw (ne_eqb _ _ c.if-side-eq0.false)
