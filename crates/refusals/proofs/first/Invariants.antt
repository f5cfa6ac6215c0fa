-- `refusals::first`: the checks so far all pass. Assumes nothing.
use Rattle.refusals.proofs.Checking.{Passing}
use Rattle.refusals.proofs.first.Given as goal

abbrev pub invariant-loop-wrong : goal.invariant-loop-wrong
invariant-loop-wrong l = Passing l.checks l.wrong-index
