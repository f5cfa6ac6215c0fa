-- `cells::bits::number_at` meets its contract: the loop has the number of the first j bits. Assumes nothing.
use mathlib.Core.Path.{◌≡◌, refl}
use native.Mathlib.Omega.{arith}
use Rattle.rules.proofs.Bits.{gather_room, gather_fits, gather_next}
use Rattle.rules.proofs.Roundtrip.{load_bits}
use Rattle.cells.proofs.bits.number_at.Goals as goal

pub loop-j-init : goal.loop-j-init
loop-j-init c = (omega arith, record { bits = load_bits c.args.bytes.now; gathered = refl })

pub overflow_mul-v : goal.overflow_mul-v
overflow_mul-v c = omega (arith, gather_room c.loop-j.invariant.1 (omega arith))

pub overflow_add-v : goal.overflow_add-v
overflow_add-v c = omega (arith, gather_fits c.loop-j.invariant.1 (omega arith) c.bit_at.ensures)

pub loop-j-preserved : goal.loop-j-preserved
loop-j-preserved c = (omega arith, gather_next c.loop-j.invariant.1 c.bit_at.ensures)

pub returns : goal.returns
returns c = let e : c.loop-j.j ≡ c.args.k = omega arith in rw (← e) c.loop-j.invariant.1.gathered
