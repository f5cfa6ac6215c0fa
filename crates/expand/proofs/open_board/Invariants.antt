-- `expand::open_board` meets its contract: a cell a turn. Assumes nothing.
use Prim.Native.Nat.{◌≤◌}
use Rattle.expand.specs.Boards.{OpenBoard, Opening}
use Rattle.expand.specs.Opened.{counting}
use Rattle.expand.proofs.open_board.Given as goal

abbrev pub invariant-loop-c : goal.invariant-loop-c
invariant-loop-c l = (l.start.siblings.made ≤ l.t.made) × ((g : OpenBoard l.initial.words l.taken l.b l.and l.start) → Opening g.leaf l.b l.c l.words (counting l.t l.start))
