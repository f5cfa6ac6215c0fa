-- `descend::within_margin` meets its contract: by the test of the node's numbers. Rests on Finding.
use mathlib.Core.Path.{ap}
use mathlib.Core.Bool.{true, false, not}
use Rattle.descend.specs.Finding.{tests}
use Rattle.descend.proofs.within_margin.Goals as goal

pub returns-then-not-solved : goal.returns-then-not-solved
returns-then-not-solved c = tests _ _ c.phi-own.ensures c.delta-delta.ensures c.solved.ensures false c.if-not-solved.true c.within.ensures

pub returns-else-not-solved : goal.returns-else-not-solved
returns-else-not-solved c = tests _ _ c.phi-own.ensures c.delta-delta.ensures c.solved.ensures true c.if-not-solved.false (ap not c.if-not-solved.false)
