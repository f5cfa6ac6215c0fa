-- `expand::ending_board` meets its contract: a cell a turn, while the making has not ended. Assumes nothing.
use Rattle.expand.specs.Boards.{AtCell, EndingBoard}
use Rattle.expand.proofs.ending_board.Given as goal

abbrev pub invariant-loop-c : goal.invariant-loop-c
invariant-loop-c l = (g : EndingBoard l.initial.words l.p l.mine l.taken l.b l.initial.m) → AtCell g.leaf l.words l.m l.b l.c
