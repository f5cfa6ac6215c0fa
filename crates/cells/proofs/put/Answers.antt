-- `cells::put` meets its contract: each arm adds the bit to the mask of its own code. Assumes nothing.
use mathlib.Core.Path.{refl}
use native.Mathlib.Omega.{arith}
use Rattle.cells.proofs.Marks.{mask_room, put_zero, put_one, put_two, put_three}
use Rattle.cells.proofs.put.Goals as goal

pub overflow_add-result : goal.overflow_add-result
overflow_add-result c = omega (arith, mask_room _ _ c.requires.0 1, c.requires.0.masks.x)

pub overflow_add-result-in-2 : goal.overflow_add-result-in-2
overflow_add-result-in-2 c = omega (arith, mask_room _ _ c.requires.0 2, c.requires.0.masks.o)

pub overflow_add-result-in_default : goal.overflow_add-result-in_default
overflow_add-result-in_default c = omega (arith, mask_room _ _ c.requires.0 3, c.requires.0.masks.rest)

pub returns-in-0 : goal.returns-in-0
returns-in-0 c g = put_zero _ _ _ _ refl g c.in-0.is

pub returns-in-1 : goal.returns-in-1
returns-in-1 c g = put_one _ _ _ _ c.bit.ensures.0 g c.in-1.is

pub returns-in-2 : goal.returns-in-2
returns-in-2 c g = put_two _ _ _ _ c.bit-in-2.ensures.0 g c.in-2.is

pub returns-in_default : goal.returns-in_default
returns-in_default c g = put_three _ _ _ _ c.bit-in_default.ensures.0 g (omega arith)
