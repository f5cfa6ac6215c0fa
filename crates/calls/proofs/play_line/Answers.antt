-- `calls::play_line` meets its contract: what is left after the moves made leads to the same end. Assumes nothing.
use Rattle.calls.proofs.Playing.{playing_start, playing_held, playing_step, playing_bad, playing_done}
use Rattle.calls.proofs.play_line.Goals as goal

pub loop-count-init : goal.loop-count-init
loop-count-init c = playing_start _ _

pub make_move-requires : goal.make_move-requires
make_move-requires c = playing_held _ _ _ _ c.loop-count.invariant c.requires

pub returns-in-Err : goal.returns-in-Err
returns-in-Err c p h = playing_bad _ _ _ _ c.loop-count.invariant c.loop-count-test.true _ c.make_move.ensures.number _ c.in-Err.is p h

pub loop-count-preserved : goal.loop-count-preserved
loop-count-preserved c = playing_step _ _ _ _ c.loop-count.invariant c.loop-count-test.true _ c.make_move.ensures.number c.make_move.ensures.made _ c.in-Ok.is

pub returns : goal.returns
returns c p h = playing_done _ _ _ _ c.loop-count.invariant c.loop-count-test.false p h
