-- `game::apply_move` meets its contract: what is planned is stored. Assumes nothing.
use native.Mathlib.Omega.{arith}
use Rattle.rules.proofs.Legal.{legal}
use Rattle.game.proofs.apply_move.Goals as goal

pub store_move-requires : goal.store_move-requires
store_move-requires c = (c.requires.1.room, c.plan_move-s.ensures.small, omega (arith, c.global.ensures.0, (legal _ _ c.requires.2).board_in))
