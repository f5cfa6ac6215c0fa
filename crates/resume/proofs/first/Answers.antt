-- `resume::first` meets its contract: it starts a search and keeps it. Assumes nothing.
use mathlib.Core.Path.{◌∙◌}
use Rattle.resume.proofs.first.Goals as goal

pub returns-clause-stopped : goal.returns-clause-stopped
returns-clause-stopped c p h a =
    record { going = (c.start-running.ensures.started.1 p h a).going; stop = c.start-running.ensures.started.0; root_is = c.side_to_move-attacker.ensures.0 ∙ h.side }
