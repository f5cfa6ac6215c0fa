-- `calls::play_line` meets its contract: what is left after the moves made leads to the same end. Assumes nothing.
use Rattle.calls.proofs.Playing.{Playing}
use Rattle.calls.proofs.play_line.Given as goal

abbrev pub invariant-loop-count : goal.invariant-loop-count
invariant-loop-count l = Playing l.initial.game.words l.moves l.game.words l.count
