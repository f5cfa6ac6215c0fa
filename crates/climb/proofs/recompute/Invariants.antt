-- `climb::recompute` meets its contract: the numbers so far and what is left of the list give the whole list's. Rests on words.
use Prim.Native.Nat.{◌≤◌}
use Rattle.machine.specs.Tree.{u32_max}
use Rattle.machine.specs.Place.{pool_max}
use Rattle.words.specs.Walks.{Summing}
use Rattle.words.proofs.Walks.{siblings}
use Rattle.climb.specs.Asks.{Recomputable}
use Rattle.climb.proofs.recompute.Given as goal

abbrev pub invariant-loop-id : goal.invariant-loop-id
invariant-loop-id l = (l.phi ≤ u32_max) × (l.delta ≤ u32_max) × ((g : Recomputable l.words l.initial.id.0) → Summing g.view l.words g.walk.list l.phi l.delta l.id.0)

abbrev pub decreases-loop-id : goal.decreases-loop-id
decreases-loop-id l = siblings pool_max l.words l.id.0
