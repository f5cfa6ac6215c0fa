-- `climb::ascend` meets its contract: one node up, and its numbers from those it had. Rests on Turns.
use Rattle.climb.specs.Turns.{raised_place, raised_slot, raised_least, raised_sum, raises}
use Rattle.climb.proofs.ascend.Goals as goal

pub overflow_sub-depth : goal.overflow_sub-depth
overflow_sub-depth c = raised_place _ _ _ _ _ _ _ c.requires

pub first_child-first-requires : goal.first_child-first-requires
first_child-first-requires c = raised_slot _ _ _ _ _ _ _ c.requires

pub phi-held_phi-requires : goal.phi-held_phi-requires
phi-held_phi-requires c = raised_slot _ _ _ _ _ _ _ c.requires

pub delta-held_delta-requires : goal.delta-held_delta-requires
delta-held_delta-requires c = raised_slot _ _ _ _ _ _ _ c.requires

pub raised_phi-requires : goal.raised_phi-requires
raised_phi-requires c = raised_least _ _ _ _ _ _ _ c.requires _ c.first_child-first.ensures _ c.phi-held_phi.ensures

pub raised_delta-requires : goal.raised_delta-requires
raised_delta-requires c =
    raised_sum _ _ _ _ _ _ _ c.requires _ c.first_child-first.ensures _ c.delta-held_delta.ensures

pub returns : goal.returns
returns c =
    λ g. raises _ _ _ _ _ _ _ g _ c.first_child-first.ensures _ _ _ _ c.phi-held_phi.ensures c.delta-held_delta.ensures c.raised_phi.ensures c.raised_delta.ensures
