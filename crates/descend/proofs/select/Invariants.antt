-- `descend::select` meets its contract: the walk comes to the child that step 2 takes; the siblings left fall. Assumes nothing.
use Rattle.machine.specs.Place.{pool_max}
use Rattle.words.proofs.Walks.{siblings}
use Rattle.descend.specs.Selecting.{Selecting}
use Rattle.descend.proofs.select.Given as goal

abbrev pub invariant-loop-id : goal.invariant-loop-id
invariant-loop-id l = Selecting l.words l.initial.id.0 l.phi l.id.0

abbrev pub decreases-loop-id : goal.decreases-loop-id
decreases-loop-id l = siblings pool_max l.words l.id.0
