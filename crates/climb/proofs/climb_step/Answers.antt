-- `climb::climb_step` meets its contract: by cases on whether the node is unchanged, and whether it is the root. Rests on Turns.
use Rattle.climb.specs.Turns.{turn_same, turn_root, turn_asks, turn_up}
use Rattle.climb.proofs.climb_step.Goals as goal

pub returns-then-unchanged : goal.returns-then-unchanged
returns-then-unchanged c = λ g. turn_same _ _ _ _ _ g _ c.unchanged.ensures c.if-unchanged.true

pub returns-then-y-eq0 : goal.returns-then-y-eq0
returns-then-y-eq0 c =
    λ g. turn_root _ _ _ _ _ g _ c.unchanged.ensures c.if-unchanged.false _ _ (c.store-y.ensures g) c.if-y-eq0.true

pub ascend-requires : goal.ascend-requires
ascend-requires c =
    turn_asks _ _ _ _ _ c.requires _ c.unchanged.ensures c.if-unchanged.false _ _ (c.store-y.ensures c.requires) _ c.phi-was.ensures c.if-y-eq0.false

pub returns : goal.returns
returns c =
    λ g. turn_up _ _ _ _ _ g _ c.unchanged.ensures c.if-unchanged.false _ _ (c.store-y.ensures g) _ c.phi-was.ensures c.if-y-eq0.false _ c.ascend.ensures
