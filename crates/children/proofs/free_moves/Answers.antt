-- `children::free_moves` meets its contract: a board a turn. Assumes nothing.
use Rattle.children.specs.Counts.{counting_start, counting_step, counting_done}
use Rattle.children.proofs.free_moves.Goals as goal

pub loop-b-init : goal.loop-b-init
loop-b-init c = counting_start _ _ _

pub loop-b-preserved : goal.loop-b-preserved
loop-b-preserved c = counting_step _ _ _ _ _ _ c.loop-b.invariant c.loop-b-test.true c.board_moves-n.ensures.upper_bound c.board_moves-n.ensures.value

pub returns : goal.returns
returns c = counting_done _ _ _ _ _ c.loop-b.invariant c.loop-b-test.false
