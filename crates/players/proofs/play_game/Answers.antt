-- `players::play_game` meets its contract: from the position reached the rest of the game leads to the same end; the measure is the number of empty cells. Assumes nothing.
use Rattle.std.proofs.Common.{arith}
use Rattle.players.specs.Gaming.{gaming_turnable, gaming_movable, gaming_fits, gaming_less, gaming_next, gaming_over}
use Rattle.players.proofs.Gaming.{gaming_start, gaming_held}
use Rattle.players.proofs.play_game.Goals as goal

pub loop-c-init : goal.loop-c-init
loop-c-init c = gaming_start _ _ _ _ c.requires

pub in_play-requires : goal.in_play-requires
in_play-requires c = (gaming_held c.loop-c.invariant)

pub take_turn-t-requires : goal.take_turn-t-requires
take_turn-t-requires c =
    (gaming_turnable c.loop-c.invariant _ c.in_play.ensures c.loop-c-test.true)

pub after-pos-requires : goal.after-pos-requires
after-pos-requires c =
    (gaming_movable c.loop-c.invariant _ c.in_play.ensures c.loop-c-test.true _ _ c.take_turn-t.ensures)

pub overflow_add-expanded : goal.overflow_add-expanded
overflow_add-expanded c =
    omega (arith, gaming_fits c.loop-c.invariant _ c.in_play.ensures c.loop-c-test.true _ _ c.take_turn-t.ensures)

pub loop-c-smaller : goal.loop-c-smaller
loop-c-smaller c =
    gaming_less c.loop-c.invariant _ c.in_play.ensures c.loop-c-test.true _ _ c.take_turn-t.ensures _ c.after-pos.ensures

pub loop-c-preserved : goal.loop-c-preserved
loop-c-preserved c =
    gaming_next c.loop-c.invariant _ c.in_play.ensures c.loop-c-test.true _ _ c.take_turn-t.ensures _ c.after-pos.ensures c.take_turn-t.auto.words

pub returns : goal.returns
returns c = gaming_over c.loop-c.invariant _ c.in_play.ensures c.loop-c-test.false
