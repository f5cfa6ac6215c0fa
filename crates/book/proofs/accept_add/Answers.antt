-- `book::accept_add` meets its contract: 19, search's checks, and 17 after them. Assumes nothing.
use Rattle.std.proofs.Common.{sym}
use Rattle.std.proofs.lemmas.Result.{err_from_is_err_and}
use Rattle.refusals.proofs.Passes.{number_positive}
use Rattle.book.proofs.ByCheck.{add_by_caller, add_by_search, add_by_book}
use Rattle.book.proofs.accept_add.Goals as goal

pub returns-in_err-check_caller-clause-code : goal.returns-in_err-check_caller-clause-code
returns-in_err-check_caller-clause-code c =
    let p = err_from_is_err_and c.from_residual.result c.from_residual.ensures.1 in
    rw (p.1, p.2) (add_by_caller _ _ _ _ _ _ _ c.in_err-check_caller.ensures (number_positive _))

pub returns-in_err-game-clause-code : goal.returns-in_err-game-clause-code
returns-in_err-game-clause-code c =
    let p = err_from_is_err_and c.from_residual-in_err-game.result c.from_residual-in_err-game.ensures.1 in
    rw (p.1, p.2) (add_by_search _ _ _ _ _ _ (sym c.in_ok-check_caller.ensures) _ c.in_err-game.ensures.code (number_positive _))

pub returns-in_err-check_book-clause-code : goal.returns-in_err-check_book-clause-code
returns-in_err-check_book-clause-code c =
    let p = err_from_is_err_and c.from_residual-in_err-check_book.result c.from_residual-in_err-check_book.ensures.1 in
    rw (p.1, p.2) (add_by_book _ _ _ _ _ _ (sym c.in_ok-check_caller.ensures) (sym c.in_ok-game.ensures.code) _ c.in_err-check_book.ensures)

pub returns-clause-code : goal.returns-clause-code
returns-clause-code c = add_by_book _ _ _ _ _ _ (sym c.in_ok-check_caller.ensures) (sym c.in_ok-game.ensures.code) _ c.in_ok-check_book.ensures
