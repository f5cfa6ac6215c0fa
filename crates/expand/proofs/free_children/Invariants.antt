-- `expand::free_children` meets its contract: a board a turn, while the making has not ended. Assumes nothing.
use Prim.Native.Nat.{◌*◌}
use Rattle.game.specs.Cursor.{moves_from}
use Rattle.expand.specs.Progress.{Progress}
use Rattle.expand.specs.Targets.{Unmade}
use Rattle.expand.proofs.free_children.Given as goal

abbrev pub invariant-loop-b : goal.invariant-loop-b
invariant-loop-b l = (g : Unmade l.initial.words l.positions l.p l.initial.m) → Progress g.leaf l.words l.m (moves_from g.leaf.node.pos (l.b * 9))
