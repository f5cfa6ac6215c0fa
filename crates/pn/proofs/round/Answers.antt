-- `pn::round` meets its contract, step by step. Assumes nothing.
use mathlib.Core.Path.{refl}
use Rattle.pn.specs.Stepping.{stepped_short}
use Rattle.pn.proofs.Causes.{ticked_four}
use Rattle.pn.proofs.Rounds.{searched, at_leaf, roomy, short, expandable, climbable, climbed, counter, counted}
use Rattle.pn.proofs.round.Goals as goal

pub descend-leaf-requires : goal.descend-leaf-requires
descend-leaf-requires c =
    let u = c.requires in
    (searched u, u.from.ranges.stay_is_in_range)

pub is_short-requires : goal.is_short-requires
is_short-requires c =
    let u = c.requires in
    (_, roomy u (at_leaf u c.descend-leaf.ensures))

pub returns-then-is_short-clause-stepped : goal.returns-then-is_short-clause-stepped
returns-then-is_short-clause-stepped c u =
    let at = at_leaf u c.descend-leaf.ensures in
    stepped_short u _ _ _ _ at.long at.past at.stands (short u at c.is_short.ensures c.if-is_short.true) refl

pub expand-grown-requires : goal.expand-grown-requires
expand-grown-requires c =
    let u = c.requires in
    let at = at_leaf u c.descend-leaf.ensures in
    expandable u at (short u at c.is_short.ensures c.if-is_short.false)

pub climb-next-requires : goal.climb-next-requires
climb-next-requires c =
    let u = c.requires in
    let at = at_leaf u c.descend-leaf.ensures in
    climbable u at (short u at c.is_short.ensures c.if-is_short.false) c.expand-grown.auto.words c.expand-grown.ensures

pub tick-requires : goal.tick-requires
tick-requires c =
    let u = c.requires in
    let at = at_leaf u c.descend-leaf.ensures in
    let enough = short u at c.is_short.ensures c.if-is_short.false in
    counter u at enough (climbed u at enough c.expand-grown.auto.words c.expand-grown.ensures c.climb-next.auto.words c.climb-next.ensures)

pub returns-clause-stepped : goal.returns-clause-stepped
returns-clause-stepped c u =
    let at = at_leaf u c.descend-leaf.ensures in
    let enough = short u at c.is_short.ensures c.if-is_short.false in
    counted u at enough (climbed u at enough c.expand-grown.auto.words c.expand-grown.ensures c.climb-next.auto.words c.climb-next.ensures) c.tick.ensures

pub returns-clause-four : goal.returns-clause-four
returns-clause-four c = ticked_four _ _ _ _ c.tick.ensures
