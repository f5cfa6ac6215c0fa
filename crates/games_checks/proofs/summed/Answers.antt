-- `games_checks::summed` meets its contract. Assumes nothing.
use native.Mathlib.Omega.{arith}
use Rattle.games_checks.proofs.Sums.{summing_next, summing_done}
use Rattle.games_checks.proofs.summed.Goals as goal

pub loop-share-preserved : goal.loop-share-preserved
loop-share-preserved c =
    summing_next _ _ _ _ c.loop-share.invariant (omega (arith, c.requires, c.told-shares)) c.loop-share-test.true (omega arith)

pub returns : goal.returns
returns c = summing_done _ _ _ _ c.loop-share.invariant (omega (arith, c.requires, c.told-shares)) c.loop-share-test.false
