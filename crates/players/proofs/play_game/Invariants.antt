-- `players::play_game` meets its contract: from the position reached the rest of the game leads to the same end; the measure is the number of empty cells. Assumes nothing.
use Rattle.referee.specs.Turns.{empty_in}
use Rattle.players.specs.Gaming.{Gaming}
use Rattle.players.proofs.play_game.Given as goal

abbrev pub invariant-loop-c : goal.invariant-loop-c
invariant-loop-c l = Gaming l.initial.pos.words l.c l.seed l.initial.words l.words l.pos.words l.state l.expanded

abbrev pub decreases-loop-c : goal.decreases-loop-c
decreases-loop-c l = empty_in l.pos.words
