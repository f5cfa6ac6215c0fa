-- `searches::accept` meets its contract: refused by the record's checks, by the first of the others, or accepted. Assumes nothing.
use Rattle.std.proofs.Common.{sym}
use Rattle.std.proofs.lemmas.Result.{err_from_is_err_and}
use Rattle.refusals.proofs.Passes.{number_positive}
use Rattle.searches.proofs.Accepting.{accept_record, accept_late}
use Rattle.searches.proofs.accept.Goals as goal

pub returns-in_err-game-clause-code : goal.returns-in_err-game-clause-code
returns-in_err-game-clause-code c =
    let p = err_from_is_err_and c.from_residual.result c.from_residual.ensures.1 in
    rw (p.1, p.2) (accept_record _ _ _ _ _ c.in_err-game.ensures.code (number_positive _))

pub returns-in_err-first-clause-code : goal.returns-in_err-first-clause-code
returns-in_err-first-clause-code c =
    let p = err_from_is_err_and c.from_residual-in_err-first.result c.from_residual-in_err-first.ensures.1 in
    rw (p.1, p.2) (accept_late _ _ _ _ (sym c.in_ok-game.ensures.code) _ _ c.in_range.ensures c.in_err-first.ensures)

pub returns-clause-code : goal.returns-clause-code
returns-clause-code c = accept_late _ _ _ _ (sym c.in_ok-game.ensures.code) _ _ c.in_range.ensures c.in_ok-first.ensures
