-- `room::count_from` meets its contract: a legal move a turn, up to the first whose child has delta 0; the measure is what the cursor has left of the 81 cells. Assumes nothing.
use Prim.Native.Nat.{◌-◌}
use Rattle.room.specs.ChildCount.{Countable, AllFrom, CountingChildren}
use Rattle.room.proofs.count_from.Given as goal

abbrev pub invariant-loop-m : goal.invariant-loop-m
invariant-loop-m v = (l : Countable v.words v.base v.attacker) → AllFrom l v.o v.start → CountingChildren l v.rule v.n v.cursor.at

abbrev pub decreases-loop-m : goal.decreases-loop-m
decreases-loop-m l = 81 - l.cursor.at
