-- `cells::CellsFromRecordWords::from` meets its contract: each board is taken from the words. Assumes nothing.
use Rattle.std.proofs.Common.{rules}
use Rattle.rules.specs.Rules.{answers}
use Rattle.cells.specs.RecordWords.{cell_held}
use Rattle.cells.proofs.CellsFromRecordWords.from.Goals as goal

pub returns : goal.returns
returns c = c.nine_boards.ensures (answers (cell_held c.args.w) 0 81) (λ b r h read. search rules)
