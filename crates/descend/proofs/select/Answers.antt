-- `descend::select` meets its contract: the walk comes to the child that step 2 takes; the siblings left fall. Rests on Selecting.
use Rattle.std.proofs.Common.{rules}
use Rattle.descend.specs.Selecting.{selecting_start, selecting_next, selecting_less, selecting_done}
use Rattle.descend.proofs.select.Goals as goal

pub loop-id-init : goal.loop-id-init
loop-id-init c = selecting_start c.requires

pub loop-id-preserved : goal.loop-id-preserved
loop-id-preserved c = selecting_next c.loop-id.invariant (search rules) c.requires c.loop-id-test.true (search rules)

pub loop-id-smaller : goal.loop-id-smaller
loop-id-smaller c = selecting_less c.loop-id.invariant (search rules)

pub returns : goal.returns
returns c = selecting_done c.loop-id.invariant (search rules) c.loop-id-test.false
