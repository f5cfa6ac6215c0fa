-- No more lines than bytes were passed, and no more agreed than lines.
use Rattle.std.proofs.Common.{length, ◌+◌, ◌≤◌}
use Rattle.vectors.proofs.run_list.Given as goal

abbrev pub invariant-loop-rest : goal.invariant-loop-rest
invariant-loop-rest g l = record { few : l.lines + length l.rest ≤ length l.text; fewer : l.agreed ≤ l.lines }

abbrev pub decreases-loop-rest : goal.decreases-loop-rest
decreases-loop-rest g l = length l.rest
