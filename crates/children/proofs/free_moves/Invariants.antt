-- `children::free_moves` meets its contract: a board a turn. Assumes nothing.
use Rattle.children.specs.Counts.{Counting}
use Rattle.children.proofs.free_moves.Given as goal

abbrev pub invariant-loop-b : goal.invariant-loop-b
invariant-loop-b l = Counting l.words l.base l.done l.n l.b
