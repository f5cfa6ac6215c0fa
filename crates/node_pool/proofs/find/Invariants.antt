-- `node_pool::find` meets its contract: the list goes on from here, and no node passed the test. Rests on Seeking.
use Rattle.rules.specs.Rules.{Position}
use Rattle.machine.specs.Place.{pool_max}
use Rattle.words.specs.Packed.{View}
use Rattle.words.specs.Walks.{Walkable}
use Rattle.words.proofs.Walks.{siblings}
use Rattle.node_pool.proofs.Seeking.{Seeking}
use Rattle.node_pool.proofs.find.Given as goal

abbrev pub invariant-loop-id : goal.invariant-loop-id
invariant-loop-id g l = record { walk : (K : View Position) × Walkable K l.words l.id.0; seeking : Seeking (goal.F-post g l.test) l.words l.initial.id.0 l.id.0 }

abbrev pub decreases-loop-id : goal.decreases-loop-id
decreases-loop-id g l = siblings pool_max l.words l.id.0
