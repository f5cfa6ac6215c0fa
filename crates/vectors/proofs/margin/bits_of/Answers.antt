-- `vectors::margin::bits_of` meets its contract: one digit more. Assumes nothing.
use Rattle.std.proofs.Common.{refl, arith, ◌^◌, ◌<◌}
use borrow.Author.Count.{below_more}
use Rattle.vectors.proofs.Margins.{one_more, room, more}
use Rattle.vectors.specs.Margins.{spelled}
use Rattle.vectors.proofs.margin.bits_of.Goals as goal

pub loop-b-init : goal.loop-b-init
unfolding spelled
loop-b-init c = record { sixteen = omega arith; spells = refl; small = omega arith; digits = λ k h. omega arith }

pub overflow_mul-n : goal.overflow_mul-n
overflow_mul-n c = let h : c.loop-b.n < 2 ^ 60 = room c.loop-b.n c.loop-b.b-index (omega arith) c.loop-b.invariant.small in omega arith

pub overflow_add-n : goal.overflow_add-n
overflow_add-n c = let h : c.loop-b.n < 2 ^ 60 = room c.loop-b.n c.loop-b.b-index (omega arith) c.loop-b.invariant.small in omega (arith, c.in_ok-n.ensures)

pub loop-b-preserved : goal.loop-b-preserved
loop-b-preserved c = record {
  sixteen = omega arith;
  spells = one_more c.args.digits.now c.loop-b.b-index _ _ (omega arith) c.loop-b.invariant.spells c.in_ok-n.ensures.0;
  small = more c.loop-b.n c.loop-b.b-index c.in_ok-n.field-0 c.in_ok-n.ensures.1 c.loop-b.invariant.small;
  digits = below_more _ _ c.loop-b.invariant.digits (omega (arith, c.in_ok-n.ensures));
}
