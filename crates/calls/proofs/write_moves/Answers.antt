-- `calls::write_moves` meets its contract: the moves written and those left to the cursor are the legal moves. Assumes nothing.
use Rattle.game.specs.Cursor.{next_is}
use Rattle.calls.proofs.Writing.{writing_room, writing_step, writing_less}
use Rattle.calls.proofs.write_moves.Goals as goal

pub bounds-out-n : goal.bounds-out-n
bounds-out-n c = writing_room _ _ _ _ _ c.loop-m.invariant c.requires.1 c.requires.0 _ _ (next_is _ _ _ _ _ c.next.ensures _ c.in-Some.is)

pub loop-m-smaller : goal.loop-m-smaller
loop-m-smaller c = writing_less _ _ _ _ _ c.loop-m.invariant c.requires.1 c.requires.0 _ _ (next_is _ _ _ _ _ c.next.ensures _ c.in-Some.is)

pub loop-m-preserved : goal.loop-m-preserved
loop-m-preserved c = writing_step _ _ _ _ _ c.loop-m.invariant c.requires.1 c.requires.0 _ _ (next_is _ _ _ _ _ c.next.ensures _ c.in-Some.is)
