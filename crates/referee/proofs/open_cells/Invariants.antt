-- `referee::open_cells`: the cells counted and those from the place on are all. Assumes nothing.
use Rattle.referee.proofs.Counting.{Counting}
use Rattle.referee.proofs.open_cells.Given as goal

abbrev pub invariant-loop-i : goal.invariant-loop-i
invariant-loop-i l = Counting l.words l.base l.n l.i
