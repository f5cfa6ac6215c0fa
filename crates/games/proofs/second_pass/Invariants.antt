-- `games::second_pass` meets its contract: the games before i have had their turns. Assumes nothing.
use Rattle.games.specs.Playing.{Second}
use Rattle.games.proofs.second_pass.Given as goal

abbrev pub invariant-loop-i : goal.invariant-loop-i
invariant-loop-i l = Second l.shares l.n l.size l.c l.kept l.left l.initial.words l.words l.unspent l.results l.i
