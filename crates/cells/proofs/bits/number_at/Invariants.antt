-- `cells::bits::number_at` meets its contract: the loop has the number of the first j bits. Assumes nothing.
use Prim.Native.Nat.{◌≤◌, ◌-◌}
use Rattle.rules.proofs.Bits.{Gathers}
use Rattle.rules.specs.Record.{bit_at}
use Rattle.cells.proofs.bits.number_at.Given as goal

abbrev pub invariant-loop-j : goal.invariant-loop-j
invariant-loop-j l = (l.j ≤ l.k) × Gathers (bit_at l.bytes) l.o l.j l.v

abbrev pub decreases-loop-j : goal.decreases-loop-j
decreases-loop-j l = l.k - l.j
