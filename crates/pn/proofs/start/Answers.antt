-- `pn::start` meets its contract: it begins and runs. Assumes nothing.
use mathlib.Core.Path.{◌∙◌}
use Rattle.pn.specs.Searches.{to_loop, started}
use Rattle.pn.proofs.start.Goals as goal

pub run-requires : goal.run-requires
run-requires c =
    (to_loop c.requires.startable.pos c.args.s _ _ _ _ _ _ c.requires.startable.accepted c.requires.ranges (c.side_to_move-attacker.ensures.0 ∙ c.requires.startable.holds.side)
    (c.begin.ensures c.requires.startable.pos c.requires.startable.holds c.requires.startable.accepted)).0

pub returns-clause-started : goal.returns-clause-started
returns-clause-started c = (
  c.run.ensures.ran.0,
  λ p h a. started p c.args.s _ _ _ _ _ _ _ _ _ _ a c.requires.ranges (c.side_to_move-attacker.ensures.0 ∙ h.side) (c.begin.ensures p h a) c.run.ensures.ran.1,
)
