-- `calls::write_moves`: the moves written and those left to the cursor are the legal moves; the measure is what the cursor has left of the 81 cells. Assumes nothing.
use Prim.Native.Nat.{◌-◌}
use Rattle.calls.proofs.Writing.{Writing}
use Rattle.calls.proofs.write_moves.Given as goal

abbrev pub invariant-loop-m : goal.invariant-loop-m
invariant-loop-m l = Writing l.words l.initial.out l.out l.n l.moves.at

abbrev pub decreases-loop-m : goal.decreases-loop-m
decreases-loop-m l = 81 - l.moves.at
