-- `calls::load_for` meets its contract: refused by a check, or loaded. Assumes nothing.
use Rattle.std.proofs.Common.{sym}
use Rattle.std.proofs.lemmas.Result.{err_from_is_err_and}
use Rattle.refusals.proofs.Passes.{number_positive}
use Rattle.calls.proofs.Turned.{output_record, output_short, output_long}
use Rattle.calls.proofs.load_for.Goals as goal

pub returns-in_err-game-clause-code : goal.returns-in_err-game-clause-code
returns-in_err-game-clause-code c =
    let p = err_from_is_err_and c.from_residual.result c.from_residual.ensures.1 in
    rw (p.1, p.2) (output_record _ _ _ _ c.in_err-game.ensures.code (number_positive _))

pub returns-then-room-needed-clause-code : goal.returns-then-room-needed-clause-code
returns-then-room-needed-clause-code c = output_short _ _ _ (sym c.in_ok-game.ensures.code) c.if-room-needed.true

pub returns-clause-code : goal.returns-clause-code
returns-clause-code c = output_long _ _ _ (sym c.in_ok-game.ensures.code) c.if-room-needed.false
