-- `players::settings_for` meets its contract, by side. Assumes nothing.
use Rattle.players.proofs.Answers.{settings_x, settings_o}
use Rattle.players.proofs.settings_for.Goals as goal

pub returns-then-side-eq0 : goal.returns-then-side-eq0
returns-then-side-eq0 c = settings_x _ _ c.if-side-eq0.true

pub returns-else-side-eq0 : goal.returns-else-side-eq0
returns-else-side-eq0 c = settings_o _ _ c.if-side-eq0.false
