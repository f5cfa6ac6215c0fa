-- `refusals::first` meets its contract: the checks so far all pass. Assumes nothing.
use Rattle.refusals.proofs.Checking.{passing_start, passing_found, passing_next, passing_end}
use Rattle.refusals.proofs.first.Goals as goal

pub loop-wrong-init : goal.loop-wrong-init
loop-wrong-init c = passing_start _

pub returns-then-wrong : goal.returns-then-wrong
returns-then-wrong c = passing_found _ _ _ c.loop-wrong.invariant c.loop-wrong-test.true c.if-wrong.true

pub loop-wrong-preserved : goal.loop-wrong-preserved
loop-wrong-preserved c = passing_next _ _ _ c.loop-wrong.invariant c.loop-wrong-test.true c.if-wrong.false

pub returns : goal.returns
returns c = passing_end _ _ c.loop-wrong.invariant c.loop-wrong-test.false
