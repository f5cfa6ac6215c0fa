-- `calls::legal_moves` meets its contract: refused by a check, or the moves written. Assumes nothing.
use Rattle.std.proofs.Common.{sym, ◌∙◌}
use Rattle.std.proofs.lemmas.Result.{err_from_is_err_and}
use Rattle.rules.specs.Record.{position_of}
use Rattle.refusals.proofs.Passes.{number_positive}
use Rattle.calls.proofs.Writing.{written_listed}
use Rattle.calls.proofs.Turned.{output_passes, moves_refused, moves_answered}
use Rattle.calls.proofs.legal_moves.Goals as goal

pub returns-in_err-game : goal.returns-in_err-game
returns-in_err-game c =
    let p = err_from_is_err_and c.from_residual.result c.from_residual.ensures.1 in
    rw (p.1, p.2) (moves_refused _ _ _ c.in_err-game.ensures.code (number_positive _))

pub write_moves-requires : goal.write_moves-requires
write_moves-requires c = ((position_of _, c.in_ok-game.ensures.position), (output_passes _ _ _ (sym c.in_ok-game.ensures.code)).1)

pub returns : goal.returns
returns c = written_listed _ _ _ _ (c.write_moves.ensures _ c.in_ok-game.ensures.position) ∙ moves_answered _ _ (sym c.in_ok-game.ensures.code)
