-- `games_checks::earliest` meets its contract. Assumes nothing.
use Rattle.games_checks.proofs.EarliestLaws.{looked_start, looked_next, looked_done}
use Rattle.games_checks.proofs.earliest.Goals as goal

pub loop-i-init : goal.loop-i-init
loop-i-init c = looked_start _ _

pub loop-i-preserved : goal.loop-i-preserved
loop-i-preserved c = looked_next _ _ _ _ _ _ _ _ c.loop-i-test.true c.loop-i.invariant c.load-loaded.ensures.code c.sooner-found.ensures

pub returns : goal.returns
returns c = looked_done _ _ _ _ _ c.loop-i-test.false c.loop-i.invariant
