-- `game::MoveIterator::next` meets its contract: no move stands before the place looked at, and the cursor stays until one is found. Assumes nothing.
use Rattle.game.specs.Cursor.{looking_step, looking_done}
use Rattle.game.proofs.cursor.MoveIterator.next.Goals as goal

pub loop-i-preserved : goal.loop-i-preserved
loop-i-preserved c = (looking_step _ _ _ _ c.loop-i.invariant.0 c.loop-i-test.true _ c.is_playable.ensures c.if-is_playable.false, c.loop-i.invariant.1)

pub returns : goal.returns
returns c p h = (looking_done _ _ _ _ c.loop-i.invariant.0 c.loop-i-test.false p h, c.loop-i.invariant.1)
