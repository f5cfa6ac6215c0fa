-- `expand::ending_board` meets its contract: a cell a turn, while the making has not ended. Assumes nothing.
use mathlib.Core.Path.{sym, ◌∙◌}
use mathlib.Core.Logic.{inl, inr}
use Rattle.expand.specs.Boards.{cell_child, ending_start, ending_passed, ending_asks, ending_step, ending_done}
use Rattle.expand.proofs.ending_board.Goals.{then-not-has, else-not-has}
use Rattle.expand.proofs.ending_board.Goals as goal

pub loop-c-init : goal.loop-c-init
loop-c-init c = λ g. ending_start _ _ _ _ _ _ g

pub child_value-value-requires : goal.child_value-value-requires
child_value-value-requires c =
    (_, cell_child _ _ _ _ _ _ c.requires.of_leaf c.requires.board c.loop-c-test.true (sym c.has.ensures ∙ c.if-not-has.true))

pub add_child-m-requires : goal.add_child-m-requires
add_child-m-requires c =
    ending_asks _ _ _ _ _ _ c.requires _ _ _ (c.loop-c.invariant c.requires) _ _ c.loop-c-test.true (sym c.has.ensures ∙ c.if-not-has.true) c.if-m.false
    c.from_coords.ensures c.child_value-value.ensures

pub returns-then-m : goal.returns-then-m
returns-then-m c g =
    ending_done _ _ _ _ _ _ g _ _ _ (c.loop-c.invariant g) c.loop-c.auto.c-end (inr c.if-m.true)

pub returns-after-loop-c : goal.returns-after-loop-c
returns-after-loop-c c g =
    ending_done _ _ _ _ _ _ g _ _ _ (c.loop-c.invariant g) c.loop-c.auto.c-end (inl c.loop-c-test.false)

pub loop-c-preserved : goal.loop-c-preserved
loop-c-preserved c =
    λ g. elim c.if-not-has.branch [
      | then-not-has w ↦ rw (w.words-is, w.m-is)
          (ending_step _ _ _ _ _ _ g _ _ _ (c.loop-c.invariant g) _ _ c.loop-c-test.true (sym c.has.ensures ∙ w.if-not-has.true) c.if-m.false w.from_coords.ensures
          w.child_value-value.ensures _ _ w.add_child-m.ensures)
      | else-not-has w ↦ rw (w.words-is, w.m-is) (ending_passed _ _ _ _ _ _ g _ _ _ (c.loop-c.invariant g) c.loop-c-test.true (sym c.has.ensures ∙ w.if-not-has.false))
    ]
