-- `climb::raised_delta` meets its contract: a sum that is not held is exact. Rests on recompute.
use native.Mathlib.Omega.{arith}
use Rattle.climb.proofs.raised_delta.Goals as goal

pub returns-then-held-eq-MOST : goal.returns-then-held-eq-MOST
returns-then-held-eq-MOST c = λ g. (c.recompute.ensures (record { view = g.view; walk = g.walk })).delta_is

pub returns : goal.returns
returns c = λ g. omega (arith, c.held_sum.ensures, g.sum_is, g.held_is)
