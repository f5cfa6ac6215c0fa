-- `printed::Line::put_fields` meets its contract: the first numbers are written, each in at most 21 bytes. Assumes nothing.
use Rattle.std.proofs.Common.{arith}
use Rattle.printed.proofs.Texts.{listed_room, listed_next}
use Rattle.printed.proofs.Line.put_fields.Goals as goal

pub put_number-requires : goal.put_number-requires
put_number-requires c = omega (arith, listed_room c.loop-n.invariant c.loop-n-test.true c.type_inv.n.fits c.put_bytes.ensures, c.requires)

pub loop-n-preserved : goal.loop-n-preserved
loop-n-preserved c = listed_next c.loop-n.invariant c.loop-n-test.true (c.type_inv.numbers _).fits c.put_bytes.ensures _ c.put_number.ensures
