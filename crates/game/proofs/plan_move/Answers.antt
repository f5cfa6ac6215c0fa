-- `game::plan_move` meets its contract: the law of a move, fed with what each call found. Assumes nothing.
use native.Mathlib.Omega.{arith}
use Rattle.rules.proofs.Legal.{legal}
use Rattle.game.specs.Moves.{planned}
use Rattle.game.proofs.plan_move.Goals as goal

pub player_bits-requires : goal.player_bits-requires
player_bits-requires c = ((c.requires.0, c.requires.1), c.side_to_move-side.ensures.1, omega (arith, c.global-b.ensures.0, (legal _ _ c.requires.2).board_in))

pub bit-requires : goal.bit-requires
bit-requires c = omega (arith, c.local-c.ensures.0, (legal _ _ c.requires.2).cell_in)

pub player_bits-theirs-requires : goal.player_bits-theirs-requires
player_bits-theirs-requires c = ((c.requires.0, c.requires.1), omega arith, omega (arith, c.global-b.ensures.0, (legal _ _ c.requires.2).board_in))

pub bit-requires-2 : goal.bit-requires-2
bit-requires-2 c = omega (arith, c.global-b.ensures.0, (legal _ _ c.requires.2).board_in)

pub target_after-requires : goal.target_after-requires
target_after-requires c = omega (arith, c.local-c.ensures.0, (legal _ _ c.requires.2).cell_in)

pub returns : goal.returns
returns c =
    let e = c.end_of_board-end.ensures in
    planned _ _ _ _ _ _ _ _ _ _ _ _ _ _ _ _ c.global-b.ensures.0 c.local-c.ensures.0 c.side_to_move-side.ensures.0 c.side_to_move-side.ensures.1
    c.player_bits.ensures.0 c.bit.ensures.0 c.player_bits-theirs.ensures.0 c.bit-2.ensures.0 e.0 e.1 c.done_bits.ensures
    c.won_bits.ensures.0 c.drawn_bits.ensures.0 c.target_after.ensures
