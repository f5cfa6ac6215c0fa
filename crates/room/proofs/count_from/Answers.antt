-- `room::count_from` meets its contract: a legal move a turn, up to the first whose child has delta 0; the measure is what the cursor has left of the 81 cells. Assumes nothing.
use native.Mathlib.Omega.{arith}
use Rattle.room.specs.ChildCount.{counted_start, counted_done, counted_within, counted_less, counted_legal, counted_last, counted_next}
use Rattle.room.proofs.count_from.Goals as goal

pub loop-m-init : goal.loop-m-init
loop-m-init c l a = counted_start l _ _ a.1

pub next-requires : goal.next-requires
next-requires c = (_, c.requires.0.holds)

pub overflow_add-n : goal.overflow_add-n
overflow_add-n c =
    omega (arith, counted_within c.requires.0 _ _ _ (c.loop-m.invariant c.requires.0 c.requires.1) _ _ (c.in-Some.ensures _ c.requires.0.holds))

pub ends_making-requires : goal.ends_making-requires
ends_making-requires c =
    (c.requires.0, c.requires.1.0, counted_legal c.requires.0 _ _ _ (c.loop-m.invariant c.requires.0 c.requires.1) _ _ (c.in-Some.ensures _ c.requires.0.holds))

pub returns-then-ends_making : goal.returns-then-ends_making
returns-then-ends_making c l a =
    let k = c.loop-m.invariant l a in
    let stepped = c.in-Some.ensures _ l.holds in
    counted_last l _ _ _ k _ _ stepped _ (c.ends_making.ensures l a.0 (counted_legal l _ _ _ k _ _ stepped)) c.if-ends_making.true

pub loop-m-smaller : goal.loop-m-smaller
loop-m-smaller c = counted_less c.requires.0 _ _ _ (c.loop-m.invariant c.requires.0 c.requires.1) _ _ (c.in-Some.ensures _ c.requires.0.holds)

pub loop-m-preserved : goal.loop-m-preserved
loop-m-preserved c l a =
    let k = c.loop-m.invariant l a in
    let stepped = c.in-Some.ensures _ l.holds in
    counted_next l _ _ _ k _ _ stepped _ (c.ends_making.ensures l a.0 (counted_legal l _ _ _ k _ _ stepped)) c.if-ends_making.false

pub returns : goal.returns
returns c l a = counted_done l _ _ _ (c.loop-m.invariant l a) (c.in_default.ensures _ l.holds).0
