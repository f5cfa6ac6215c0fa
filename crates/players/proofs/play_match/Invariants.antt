-- `players::play_match` meets its contract: the games played and those that are left make the report. Assumes nothing.
use Rattle.players.proofs.Matching.{Matching}
use Rattle.players.proofs.play_match.Given as goal

abbrev pub invariant-loop-i : goal.invariant-loop-i
invariant-loop-i l = Matching l.start.words l.c l.seed l.games l.initial.words l.words l.report l.state l.i
