-- `pn::step` meets its contract, by what ends a search before a round. Assumes nothing.
use mathlib.Core.Path.{◌≡◌, refl, ◌∙◌}
use Rattle.machine.specs.Tree.{solved}
use Rattle.machine.specs.Machine.{root}
use Rattle.pn.specs.Going.{going_root}
use Rattle.pn.specs.Stepping.{Steppable, root_solved, stepped_solved, stepped_spent, to_round}
use Rattle.pn.proofs.step.Goals.{After-solved}
use Rattle.pn.proofs.step.Goals as goal

-- The root is solved, or not, as was read
root_is : (c : After-solved)
    (g : Steppable c.args.words.now c.args.path.now c.args.positions.now c.args.x c.args.s c.args.attacker)
    → solved (root g.going.at) ≡ c.solved.result
root_is c g = root_solved g _ _ _ c.phi-phi.ensures c.delta-delta.ensures c.solved.ensures

pub phi-phi-requires : goal.phi-phi-requires
phi-phi-requires c = (going_root _ _ _ _ _ _ c.requires.going).slot

pub delta-delta-requires : goal.delta-delta-requires
delta-delta-requires c = (going_root _ _ _ _ _ _ c.requires.going).slot

pub returns-then-solved-clause-stepped : goal.returns-then-solved-clause-stepped
returns-then-solved-clause-stepped c g = stepped_solved g (root_is (goal.at.returns-then-solved-clause-stepped c).After-solved g ∙ c.if-solved.true) _ refl refl

pub returns-then-x-s-clause-stepped : goal.returns-then-x-s-clause-stepped
returns-then-x-s-clause-stepped c g = stepped_spent g c.if-x-s.true (root_is (goal.at.returns-then-x-s-clause-stepped c).After-solved g ∙ c.if-solved.false) _ refl refl refl

pub round-requires : goal.round-requires
round-requires c = to_round c.requires (root_is (goal.at.round-requires c).After-solved c.requires ∙ c.if-solved.false) c.if-x-s.false

pub returns-clause-stepped : goal.returns-clause-stepped
unfolding to_round
returns-clause-stepped c g = c.round.ensures.stepped (to_round g (root_is (goal.at.returns-clause-stepped c).After-solved g ∙ c.if-solved.false) c.if-x-s.false)
