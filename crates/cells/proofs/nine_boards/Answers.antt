-- `cells::nine_boards` meets its contract: the loop has read the first b boards. Assumes nothing.
use mathlib.Core.Path.{◌≡◌}
use native.Mathlib.Omega.{arith}
use Rattle.cells.proofs.MoreBoards.{board_read}
use Rattle.cells.proofs.nine_boards.Goals as goal

pub loop-b-preserved : goal.loop-b-preserved
loop-b-preserved g c = λ cs read.
    board_read _ _ _ _ _ c.loop-b-test.true (c.loop-b.invariant cs read) (read _ _ c.loop-b-test.true c.each-codes.ensures)

pub returns : goal.returns
returns g c = λ cs read. let e : c.loop-b.b ≡ 9 = omega arith in rw e at (c.loop-b.invariant cs read)
