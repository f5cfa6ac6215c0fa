-- `games_checks::summed` meets its contract. Assumes nothing.
use Rattle.games_checks.proofs.Sums.{Summing}
use Rattle.games_checks.proofs.summed.Given as goal

abbrev pub invariant-loop-share : goal.invariant-loop-share
invariant-loop-share l = Summing l.shares l.n l.share-index l.total
