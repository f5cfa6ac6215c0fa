-- `cells::bits::board_cells` meets its contract: the loop has the masks of the first c codes of the board. Assumes nothing.
use Prim.Native.Nat.{◌≤◌, ◌-◌}
use Rattle.rules.specs.Rules.{answers}
use Rattle.cells.proofs.CellLaws.{cell_of}
use Rattle.cells.specs.Reading.{Masks}
use Rattle.cells.proofs.bits.board_cells.Given as goal

abbrev pub invariant-loop-c : goal.invariant-loop-c
invariant-loop-c l = (l.c ≤ 9) × Masks (answers (cell_of l.bytes l.b) 0 l.c) l.codes

abbrev pub decreases-loop-c : goal.decreases-loop-c
decreases-loop-c l = 9 - l.c
