-- `players::in_play` meets its contract: it is game's state of the position. Assumes nothing.
use Rattle.std.proofs.Common.{not, eqb, ap, ◌∙◌}
use mathlib.Core.Bool.{not-not}
use Rattle.players.proofs.in_play.Goals as goal

pub returns : goal.returns
returns c p h = ap not c.terminal.ensures ∙ not-not _ ∙ ap (λ n. eqb n 0) (c.game_state.ensures p h)
