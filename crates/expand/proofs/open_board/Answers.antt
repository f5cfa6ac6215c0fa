-- `expand::open_board` meets its contract: a cell a turn. Assumes nothing.
use mathlib.Core.Path.{sym, ◌∙◌}
use native.Mathlib.Omega.{arith}
use Rattle.expand.specs.Boards.{opening_start, opening_asks, opening_step, opening_passed, opening_done}
use Rattle.expand.specs.Opened.{counting_start}
use Rattle.expand.proofs.open_board.Goals.{then-not-has, else-not-has}
use Rattle.expand.proofs.open_board.Goals as goal

pub loop-c-init : goal.loop-c-init
loop-c-init c = (omega arith, λ g. rw (counting_start g.leaf _ _ _ g.progress) (opening_start _ _ _ _ _ g))

pub add_open-t-requires : goal.add_open-t-requires
add_open-t-requires c =
    (c.args.start, opening_asks _ _ _ _ _ c.requires _ _ c.loop-c-test.true (sym c.has.ensures ∙ c.if-not-has.true) c.from_coords.ensures _ _ (c.loop-c.invariant.1 c.requires))

pub open_numbers-requires : goal.open_numbers-requires
open_numbers-requires c = c.loop-c.invariant.0

pub returns : goal.returns
returns c g = rw c.open_numbers.ensures (opening_done _ _ _ _ _ g _ _ _ (c.loop-c.invariant.1 g) c.loop-c-test.false)

pub loop-c-preserved : goal.loop-c-preserved
loop-c-preserved c =
    elim c.if-not-has.branch [
      | then-not-has w ↦ rw (w.words-is, w.t-is) (
        omega (arith, c.loop-c.invariant.0, w.add_open-t.ensures.made_value),
        λ g. opening_step _ _ _ _ _ g _ _ c.loop-c-test.true (sym c.has.ensures ∙ w.if-not-has.true) w.from_coords.ensures _ _ (c.loop-c.invariant.1 g) _ _ (λ k. w.add_open-t.ensures.open_adds c.args.start k c.loop-c.invariant.0),
      )
      | else-not-has w ↦ rw (w.words-is, w.t-is) (c.loop-c.invariant.0, λ g. opening_passed _ _ _ _ _ g _ _ _ (c.loop-c.invariant.1 g) c.loop-c-test.true (sym c.has.ensures ∙ w.if-not-has.false))
    ]
