-- `climb::raised_phi` meets its contract: by cases on where the least delta is. Rests on has_delta and recompute.
use Rattle.std.proofs.Common.{sym, ◌∙◌, arith}
use Rattle.climb.specs.Changed.{found_least}
use Rattle.climb.specs.Turns.{later}
use Rattle.climb.proofs.raised_phi.Goals as goal

pub has_delta-requires : goal.has_delta-requires
has_delta-requires c = later c.requires _ c.sibling.ensures

pub returns-then-has_delta : goal.returns-then-has_delta
unfolding later
returns-then-has_delta c =
    λ g.
    omega (arith, found_least _ _ (sym (c.has_delta.ensures (later g _ c.sibling.ensures)) ∙ c.if-has_delta.true), c.if-delta-held.false, g.among, g.least_is)

pub returns : goal.returns
returns c = λ g. (c.recompute.ensures (record { view = g.view; walk = g.walk })).phi_is
