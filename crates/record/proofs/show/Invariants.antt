-- `record::show` meets its contract: the loop has what the first b boards show. Assumes nothing.
use Prim.Native.Nat.{◌≤◌, ◌-◌}
use Rattle.record.specs.Reading.{Coded, Shows}
use Rattle.record.proofs.show.Given as goal

abbrev pub invariant-loop-b : goal.invariant-loop-b
invariant-loop-b l = (l.b ≤ 9) × ((g : Coded l.words) → Shows g.cells l.b l.shown)

abbrev pub decreases-loop-b : goal.decreases-loop-b
decreases-loop-b l = 9 - l.b
