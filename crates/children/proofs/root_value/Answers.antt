-- `children::root_value` meets its contract. Assumes nothing.
use mathlib.Core.Path.{ap, ◌∙◌}
use Rattle.rules.specs.Record.{player_of}
use Rattle.evaluate.specs.Final.{position_verdict}
use Rattle.rules.proofs.Roundtrip.{side_back}
use Rattle.children.specs.Leaves.{can_move_accepted, verdict_evaluated}
use Rattle.children.proofs.root_value.Goals as goal

pub returns : goal.returns
returns c p h a =
    let rule = c.args.rule in
    c.evaluate_at.ensures p h
    ∙ ap (λ n. position_verdict rule (player_of n) p) (c.side_to_move.ensures.0 ∙ h.side)
    ∙ rw (side_back p.side) (verdict_evaluated rule p.side p (can_move_accepted p a))
