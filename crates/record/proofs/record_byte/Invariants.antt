-- `record::record_byte` meets its contract: the loop has the number of the first j bits. Assumes nothing.
use Prim.Native.Nat.{◌≤◌, ◌*◌, ◌-◌}
use Rattle.rules.proofs.Bits.{Gathers}
use Rattle.rules.specs.Rules.{Position}
use Rattle.rules.specs.Record.{record_bit}
use Rattle.game.specs.Words.{Holds}
use Rattle.record.proofs.record_byte.Given as goal

abbrev pub invariant-loop-j : goal.invariant-loop-j
invariant-loop-j l = (l.j ≤ 8) × ((p : Position) → Holds p l.words 0 → Gathers (record_bit p) (8 * l.k) l.j l.v)

abbrev pub decreases-loop-j : goal.decreases-loop-j
decreases-loop-j l = 8 - l.j
