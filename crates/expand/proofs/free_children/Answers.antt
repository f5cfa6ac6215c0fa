-- `expand::free_children` meets its contract: a board a turn, while the making has not ended. Assumes nothing.
use mathlib.Core.Path.{sym, ◌∙◌}
use mathlib.Core.Logic.{inl, inr}
use Rattle.expand.specs.Targets.{board_passed, free_done, free_asks, board_step}
use Rattle.expand.proofs.free_children.Goals.{then-not-has, else-not-has}
use Rattle.expand.proofs.free_children.Goals as goal

pub loop-b-init : goal.loop-b-init
loop-b-init c = λ g. g.progress

pub board_children-m-requires : goal.board_children-m-requires
board_children-m-requires c =
    (free_asks _ _ _ _ c.requires.0 c.requires.1 _ _ _ (c.loop-b.invariant c.requires.0) c.loop-b-test.true (sym c.has.ensures ∙ c.if-not-has.true) c.if-m.false)

pub returns-then-m : goal.returns-then-m
returns-then-m c g =
    free_done _ _ _ _ g c.requires.1 _ _ _ (c.loop-b.invariant g) c.loop-b.auto.b-end (inr c.if-m.true)

pub returns-after-loop-b : goal.returns-after-loop-b
returns-after-loop-b c g =
    free_done _ _ _ _ g c.requires.1 _ _ _ (c.loop-b.invariant g) c.loop-b.auto.b-end (inl c.loop-b-test.false)

pub loop-b-preserved : goal.loop-b-preserved
unfolding free_asks
loop-b-preserved c =
    λ g.
    let l = c.loop-b.invariant g in
    elim c.if-not-has.branch [
      | then-not-has w ↦ rw (w.words-is, w.m-is)
          (board_step _ _ _ _ g c.requires.1 _ _ _ l _ _
          (w.board_children-m.ensures (free_asks _ _ _ _ g c.requires.1 _ _ _ l c.loop-b-test.true (sym c.has.ensures ∙ w.if-not-has.true) c.if-m.false)))
      | else-not-has w ↦ rw (w.words-is, w.m-is) (board_passed _ _ _ _ g c.requires.1 _ _ _ l c.loop-b-test.true (sym c.has.ensures ∙ w.if-not-has.false))
    ]
