-- `games_checks::earliest` meets its contract. Assumes nothing.
use Rattle.games_checks.specs.Earliest.{game_code, game_index}
use Rattle.games_checks.proofs.EarliestLaws.{Looked}
use Rattle.games_checks.proofs.earliest.Given as goal

abbrev pub invariant-loop-i : goal.invariant-loop-i
invariant-loop-i l = Looked l.bytes l.n l.i (game_code l.found) (game_index l.found)
