-- `positions::push` meets its contract: the ply is copied, then the move made on the copy. Assumes nothing.
use native.Mathlib.Omega.{arith}
use Rattle.positions.specs.Plies.{pushed, copied_movable}
use Rattle.positions.proofs.push.Goals as goal

pub base-requires : goal.base-requires
base-requires c = omega (arith, c.requires.0)

pub apply_move-requires : goal.apply_move-requires
apply_move-requires c = rw c.base.ensures (copied_movable _ _ _ _ c.copy_ply.ensures (omega arith) c.requires.1)

pub returns : goal.returns
returns c =
    pushed _ _ _ _ c.copy_ply.ensures (omega arith) _ c.requires.1 (rw c.base.ensures at c.apply_move.ensures)
