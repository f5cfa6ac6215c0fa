-- `calls::replay` meets its contract: refused by a check, or the moves replayed. Assumes nothing.
use Rattle.std.proofs.Common.{sym, ◌∙◌}
use Rattle.std.proofs.lemmas.Result.{err_from_is_err_and}
use Rattle.rules.specs.Record.{position_of}
use Rattle.refusals.proofs.Passes.{number_positive}
use Rattle.calls.proofs.Playing.{played_ok, played_bad}
use Rattle.calls.proofs.Turned.{output_passes, replay_refused, replay_answered, after_reached, after_bad}
use Rattle.calls.proofs.replay.Goals as goal

pub returns-in_err-start : goal.returns-in_err-start
returns-in_err-start c =
    let p = err_from_is_err_and c.from_residual.result c.from_residual.ensures.1 in
    rw (p.1, p.2) (replay_refused _ _ _ _ c.in_err-start.ensures.code (number_positive _))

pub store-requires : goal.store-requires
store-requires c =
    let q = played_ok _ _ _ _ _ (c.play_line-line.ensures (position_of _) c.in_ok-start.ensures.position) _ c.in_default.is in
    ((output_passes _ _ _ (sym c.in_ok-start.ensures.code)).1, (q.0, q.1))

pub returns : goal.returns
returns c =
    let q = played_ok _ _ _ _ _ (c.play_line-line.ensures (position_of _) c.in_ok-start.ensures.position) _ c.in_default.is in
    after_reached _ _ _ _ q.2 (c.store.ensures q.0 q.1) ∙ replay_answered _ _ _ (sym c.in_ok-start.ensures.code)

pub returns-in-Err : goal.returns-in-Err
returns-in-Err c =
    after_bad _ _ _ _ (played_bad _ _ _ _ _ (c.play_line-line.ensures (position_of _) c.in_ok-start.ensures.position) _ c.in-Err.is)
    ∙ replay_answered _ _ _ (sym c.in_ok-start.ensures.code)
