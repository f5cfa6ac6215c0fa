-- `referee::attack` and `referee::defend`, which call each other, meet their contracts: the measure is the number of empty cells, and each turn goes
-- through its moves by the same laws. Assumes nothing.
use Rattle.std.proofs.Common.{true, false, ap, arith}
use Rattle.prove.specs.Numbers.{verdict}
use Rattle.referee.proofs.Deciding.{at_once, start, done, movable, next_turn, fewer, less, decided, step}
use Rattle.referee.proofs.+attack_defend.Goals as goal

pub attack-returns-in-True : goal.attack-returns-in-True
attack-returns-in-True t c = at_once _ _ _ _ _ c.evaluate_at.ensures true (ap verdict c.in-True.is)

pub attack-returns-in-False : goal.attack-returns-in-False
attack-returns-in-False t c = at_once _ _ _ _ _ c.evaluate_at.ensures false (ap verdict c.in-False.is)

pub attack-loop-m-init : goal.attack-loop-m-init
attack-loop-m-init t c = start _ _ _ _ _ c.evaluate_at.ensures _ (ap verdict c.in-Unknown.is) c.from_game-moves.ensures

pub attack-after-requires : goal.attack-after-requires
attack-after-requires t c = movable _ _ _ _ _ c.loop-m.invariant _ _ c.next.ensures _ c.in-Some.is c.requires

pub attack-defend-requires : goal.attack-defend-requires
attack-defend-requires t c =
    (omega (arith, c.decreases, fewer _ _ _ _ _ c.loop-m.invariant _ _ c.next.ensures _ c.in-Some.is _ c.after.ensures c.requires), next_turn _ _ _ _ _ c.loop-m.invariant _ _ c.next.ensures _ c.in-Some.is _ c.after.ensures c.requires)

pub attack-returns-then-defend : goal.attack-returns-then-defend
attack-returns-then-defend t c = decided _ _ _ _ _ c.loop-m.invariant _ _ c.next.ensures _ c.in-Some.is _ c.after.ensures _ c.defend.ensures c.if-defend.true

pub attack-loop-m-smaller : goal.attack-loop-m-smaller
attack-loop-m-smaller t c = less _ _ _ _ _ c.loop-m.invariant _ _ c.next.ensures _ c.in-Some.is c.requires

pub attack-loop-m-preserved : goal.attack-loop-m-preserved
attack-loop-m-preserved t c = step _ _ _ _ _ c.loop-m.invariant _ _ c.next.ensures _ c.in-Some.is _ c.after.ensures _ c.defend.ensures c.if-defend.false

pub attack-returns : goal.attack-returns
attack-returns t c = done _ _ _ _ _ c.loop-m.invariant _ _ c.next.ensures c.in_default.is

pub defend-returns-in-True : goal.defend-returns-in-True
defend-returns-in-True t c = at_once _ _ _ _ _ c.evaluate_at.ensures true (ap verdict c.in-True.is)

pub defend-returns-in-False : goal.defend-returns-in-False
defend-returns-in-False t c = at_once _ _ _ _ _ c.evaluate_at.ensures false (ap verdict c.in-False.is)

pub defend-loop-m-init : goal.defend-loop-m-init
defend-loop-m-init t c = start _ _ _ _ _ c.evaluate_at.ensures _ (ap verdict c.in-Unknown.is) c.from_game-moves.ensures

pub defend-after-requires : goal.defend-after-requires
defend-after-requires t c = movable _ _ _ _ _ c.loop-m.invariant _ _ c.next.ensures _ c.in-Some.is c.requires

pub defend-attack-requires : goal.defend-attack-requires
defend-attack-requires t c =
    (omega (arith, c.decreases, fewer _ _ _ _ _ c.loop-m.invariant _ _ c.next.ensures _ c.in-Some.is _ c.after.ensures c.requires), next_turn _ _ _ _ _ c.loop-m.invariant _ _ c.next.ensures _ c.in-Some.is _ c.after.ensures c.requires)

pub defend-returns-then-not-attack : goal.defend-returns-then-not-attack
defend-returns-then-not-attack t c = decided _ _ _ _ _ c.loop-m.invariant _ _ c.next.ensures _ c.in-Some.is _ c.after.ensures _ c.attack.ensures c.if-not-attack.true

pub defend-loop-m-smaller : goal.defend-loop-m-smaller
defend-loop-m-smaller t c = less _ _ _ _ _ c.loop-m.invariant _ _ c.next.ensures _ c.in-Some.is c.requires

pub defend-loop-m-preserved : goal.defend-loop-m-preserved
defend-loop-m-preserved t c = step _ _ _ _ _ c.loop-m.invariant _ _ c.next.ensures _ c.in-Some.is _ c.after.ensures _ c.attack.ensures c.if-not-attack.false

pub defend-returns : goal.defend-returns
defend-returns t c = done _ _ _ _ _ c.loop-m.invariant _ _ c.next.ensures c.in_default.is
