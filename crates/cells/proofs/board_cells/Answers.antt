-- `cells::board_cells` meets its contract: the board's bits, then their codes. Assumes nothing.
use Rattle.cells.proofs.CellLaws.{taken_masks}
use Rattle.cells.proofs.board_cells.Goals as goal

pub returns : goal.returns
returns c = taken_masks _ _ _ _ c.requires c.board_bits.ensures.0 c.codes_of.ensures
