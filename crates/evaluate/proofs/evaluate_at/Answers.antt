-- `evaluate::evaluate_at` meets its contract: the verdict is that of the state and the side read from the words. Assumes nothing.
use mathlib.Core.Path.{sym, ◌∙◌}
use Rattle.evaluate.specs.Final.{verdict_is}
use Rattle.rules.proofs.Roundtrip.{side_back}
use Rattle.evaluate.proofs.evaluate_at.Goals as goal

pub returns : goal.returns
returns c p h = c.evaluate.ensures ∙ rw (c.game_state.ensures p h, c.side_to_move.ensures.0 ∙ h.side, side_back) (sym (verdict_is _ _ p))
