-- `game::MoveIterator::next` meets its contract: no move stands before the place looked at, and the cursor stays until one is found. Assumes nothing.
use Rattle.std.specs.Prelude.{◌≡◌}
use Rattle.game.specs.Cursor.{Looking}
use Rattle.game.proofs.cursor.MoveIterator.next.Given as goal

abbrev pub invariant-loop-i : goal.invariant-loop-i
invariant-loop-i l = Looking l.words l.base l.fn.self.at l.i × (l.self.at ≡ l.fn.self.at)
