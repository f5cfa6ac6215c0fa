-- `games::first_pass` meets its contract: the games before i have stopped in their parts. Assumes nothing.
use Rattle.games.specs.Playing.{First}
use Rattle.games.proofs.first_pass.Given as goal

abbrev pub invariant-loop-i : goal.invariant-loop-i
invariant-loop-i l = First l.bytes l.initial.words l.shares l.n l.size l.c l.words l.pass.kept l.pass.unspent l.i
