-- `cells::bits::cells` meets its contract: each board is read bit by bit. Assumes nothing.
use Rattle.std.proofs.Common.{rules}
use Rattle.rules.specs.Record.{position_of}
use Rattle.cells.proofs.bits.cells.Goals as goal

pub returns : goal.returns
returns c = c.nine_boards.ensures (position_of c.args.bytes.now).cells (λ b r h read. search rules)
