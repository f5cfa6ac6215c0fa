-- `cells::bits::board_cells` meets its contract: the loop has the masks of the first c codes of the board. Assumes nothing.
use native.Mathlib.Omega.{arith}
use Rattle.rules.specs.Record.{bit_at}
use Rattle.rules.proofs.Bits.{number_lt}
use Rattle.rules.proofs.Roundtrip.{load_bits}
use Rattle.cells.proofs.CellLaws.{cells_done, cell_of}
use Rattle.cells.proofs.Marks.{putting, put_next}
use Rattle.cells.proofs.bits.board_cells.Goals as goal

pub put-codes-requires : goal.put-codes-requires
put-codes-requires c =
    let bs = c.args.bytes.now in
    let b = c.args.b in
    let place = c.loop-c.c in
    (putting (cell_of bs b) place _ c.loop-c-test.true c.loop-c.invariant.1, rw c.number_at.ensures (number_lt (bit_at bs) _ (load_bits bs) 2))

pub loop-c-preserved : goal.loop-c-preserved
loop-c-preserved c =
    let test = c.loop-c-test.true in
    (omega arith, put_next _ _ _ test c.loop-c.invariant.1 _ _ c.number_at.ensures c.put-codes.ensures)

pub returns : goal.returns
returns c = cells_done _ _ c.loop-c.c _ c.requires.1 (omega arith) c.loop-c.invariant.1
