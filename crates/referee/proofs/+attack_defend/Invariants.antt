-- The measure of the two turns is the number of empty cells, and that of each loop what is left of the 81 places.
use Rattle.std.proofs.Common.{true, false, ◌-◌}
use Rattle.referee.specs.Turns.{empty_in}
use Rattle.referee.proofs.Deciding.{Deciding}
use Rattle.referee.proofs.+attack_defend.Given as goal

abbrev pub decreases-attack : goal.decreases-attack
decreases-attack l = empty_in l.pos.words

abbrev pub decreases-defend : goal.decreases-defend
decreases-defend l = empty_in l.pos.words

abbrev pub invariant-attack-loop-m : goal.invariant-attack-loop-m
invariant-attack-loop-m l = Deciding l.rule l.attacker true l.pos.words l.moves.at

abbrev pub decreases-attack-loop-m : goal.decreases-attack-loop-m
decreases-attack-loop-m l = 81 - l.moves.at

abbrev pub invariant-defend-loop-m : goal.invariant-defend-loop-m
invariant-defend-loop-m l = Deciding l.rule l.attacker false l.pos.words l.moves.at

abbrev pub decreases-defend-loop-m : goal.decreases-defend-loop-m
decreases-defend-loop-m l = 81 - l.moves.at
