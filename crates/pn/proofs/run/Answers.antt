-- `pn::run` meets its contract: what is left of the search comes to its end. Assumes nothing.
use Rattle.pn.proofs.Causes.{none_four}
use Rattle.pn.specs.Searches as loops
use Rattle.pn.proofs.run.Goals as goal

pub loop-s-init : goal.loop-s-init
loop-s-init c = (loops.loop_start _ _ _ _ _ _ c.requires, none_four _ c.requires.on)

pub step-x-requires : goal.step-x-requires
step-x-requires c = loops.loop_step _ _ _ _ c.loop-s.invariant.0 (rw c.loop-s-test.true at c.is_none.ensures)

pub loop-s-smaller : goal.loop-s-smaller
loop-s-smaller c = loops.loop_less _ _ _ _ c.loop-s.invariant.0 (rw c.loop-s-test.true at c.is_none.ensures) _ _ _ _ c.step-x.ensures.stepped

pub loop-s-preserved : goal.loop-s-preserved
loop-s-preserved c = (loops.loop_next _ _ _ _ c.loop-s.invariant.0 (rw c.loop-s-test.true at c.is_none.ensures) _ _ _ _ c.step-x.ensures.stepped c.step-x.auto.words, c.step-x.ensures.four)

pub returns-clause-ran : goal.returns-clause-ran
returns-clause-ran c = (rw c.loop-s-test.false at c.is_none.ensures, c.loop-s.invariant.0.each)
