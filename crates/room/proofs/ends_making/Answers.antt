-- `room::ends_making` meets its contract: the child's numbers by its evaluation. Assumes nothing.
use mathlib.Core.Path.{refl}
use native.Mathlib.Omega.{arith}
use Rattle.rules.proofs.Legal.{legal}
use Rattle.children.specs.After.{outer_small}
use Rattle.room.specs.ChildCount.{made_child, ends_is}
use Rattle.room.proofs.ends_making.Goals as goal

pub mine_bits-mine-requires : goal.mine_bits-mine-requires
mine_bits-mine-requires c =
    ((_, c.requires.0.holds), (outer_small _ _ c.requires.1).1, omega (arith, c.global-b.ensures.0, (legal _ _ c.requires.2).board_in))

pub taken_bits-taken-requires : goal.taken_bits-taken-requires
taken_bits-taken-requires c =
    ((_, c.requires.0.holds), omega (arith, c.global-b.ensures.0, (legal _ _ c.requires.2).board_in))

pub child_value-value-requires : goal.child_value-value-requires
child_value-value-requires c =
    let mine = c.mine_bits-mine.ensures _ c.requires.0.holds c.requires.1.side_is in
    let taken = c.taken_bits-taken.ensures.value _ c.requires.0.holds in
    (_, made_child c.requires.0 _ c.requires.1 _ c.requires.2 _ _ _ _ c.global-b.ensures.0 c.local.ensures.0 mine taken)

pub returns : goal.returns
returns c l r e =
    let k = made_child l _ r _ e _ _ _ _ c.global-b.ensures.0 c.local.ensures.0 (c.mine_bits-mine.ensures _ l.holds r.side_is) (c.taken_bits-taken.ensures.value _ l.holds) in
    ends_is l _ r _ e _ _ _ _ c.global-b.ensures.0 c.local.ensures.0 (c.child_value-value.ensures _ k) _ _ _ c.leaf_bounds.ensures refl
