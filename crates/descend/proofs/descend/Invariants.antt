-- `descend::descend` meets its contract: what stands at each turn leads to the leaf of the start; the places left on the path fall. Assumes nothing.
use mathlib.Core.Path.{◌≡◌}
use mathlib.Core.Bool.{false}
use Prim.Native.Nat.{◌-◌}
use Rattle.machine.specs.Tree.{solved}
use Rattle.machine.specs.Machine.{root}
use Rattle.prover.specs.Stands.{Searching}
use Rattle.descend.specs.Descending.{Descending}
use Rattle.descend.proofs.descend.Given as goal

abbrev pub invariant-loop-stay : goal.invariant-loop-stay
invariant-loop-stay l =
    (g : Searching l.initial.words l.initial.path l.initial.positions l.x) → solved (root g.at) ≡ false → Descending l.stay g l.words l.path l.positions l.depth l.node

abbrev pub decreases-loop-stay : goal.decreases-loop-stay
decreases-loop-stay l = 82 - l.depth
