-- `record::record_byte` meets its contract: the loop has the number of the first j bits. Assumes nothing.
use mathlib.Core.Path.{◌≡◌, refl}
use native.Mathlib.Omega.{arith}
use Rattle.rules.proofs.Bits.{gather_room, gather_fits, gather_next}
use Rattle.rules.proofs.Roundtrip.{record_bits}
use Rattle.record.proofs.record_byte.Goals as goal

pub loop-j-init : goal.loop-j-init
loop-j-init c = (omega arith, λ p h. record { bits = record_bits p; gathered = refl })

pub overflow_mul-v : goal.overflow_mul-v
overflow_mul-v c =
    omega (arith, gather_room (c.loop-j.invariant.1 c.requires.0.0 c.requires.0.1) c.loop-j-test.true)

pub record_bit-requires : goal.record_bit-requires
record_bit-requires c = (c.requires.0, omega arith)

pub overflow_add-v : goal.overflow_add-v
overflow_add-v c =
    omega (arith, gather_fits (c.loop-j.invariant.1 c.requires.0.0 c.requires.0.1) c.loop-j-test.true (c.record_bit.ensures c.requires.0.0 c.requires.0.1))

pub loop-j-preserved : goal.loop-j-preserved
loop-j-preserved c = (omega arith, λ p h. gather_next (c.loop-j.invariant.1 p h) (c.record_bit.ensures p h))

pub returns : goal.returns
returns c p h = let e : c.loop-j.j ≡ 8 = omega arith in rw e at (c.loop-j.invariant.1 p h).gathered
