-- `players::look_for_win` meets its contract: the moves before a place are passed over. Assumes nothing.
use Rattle.std.proofs.Common.{length}
use Rattle.players.specs.Turning.{Looking}
use Rattle.players.proofs.look_for_win.Given as goal

abbrev pub invariant-loop-place : goal.invariant-loop-place
invariant-loop-place l = Looking l.pos.words l.moves (length l.moves) l.s l.initial.words l.words l.place l.expanded
