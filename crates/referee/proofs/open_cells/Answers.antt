-- `referee::open_cells` meets its contract: the cells counted and those from the place on are all. Assumes nothing.
use Rattle.std.proofs.Common.{◌<◌, arith}
use Rattle.referee.proofs.Counting.{start, counts, passes, done}
use Rattle.referee.proofs.open_cells.Goals as goal
use Rattle.referee.proofs.open_cells.Goals.{then-is_open, else-is_open}

pub loop-i-init : goal.loop-i-init
loop-i-init c = start _ _

pub loop-i-preserved : goal.loop-i-preserved
loop-i-preserved c =
    let place : c.loop-i.i < 81 = omega (arith, c.loop-i-test.true) in
    elim c.if-is_open.branch [
      | then-is_open w ↦ rw w.n-is (counts _ _ _ _ c.loop-i.invariant _ c.is_open.ensures place w.if-is_open.true)
      | else-is_open w ↦ rw w.n-is (passes _ _ _ _ c.loop-i.invariant _ c.is_open.ensures place w.if-is_open.false)
    ]

pub returns : goal.returns
returns c = done _ _ _ _ c.loop-i.invariant c.loop-i-test.false
