-- `players::accept` meets its contract: search's checks, and 23 after them. Assumes nothing.
use Rattle.std.proofs.Common.{sym}
use Rattle.std.proofs.lemmas.Result.{err_from_is_err_and}
use Rattle.refusals.proofs.Passes.{number_positive}
use Rattle.players.specs.Answers.{players_of}
use Rattle.players.proofs.Calling.{accept_search, accept_games}
use Rattle.players.proofs.accept.Goals as goal

pub returns-in_err-game-clause-code : goal.returns-in_err-game-clause-code
returns-in_err-game-clause-code c =
    let p = err_from_is_err_and c.from_residual.result c.from_residual.ensures.1 in
    rw (p.1, p.2) (accept_search _ _ (players_of c.args.c) _ c.larger_budget.ensures _ c.in_err-game.ensures.code (number_positive _))

pub returns-in_err-first-clause-code : goal.returns-in_err-first-clause-code
returns-in_err-first-clause-code c =
    let p = err_from_is_err_and c.from_residual-in_err-first.result c.from_residual-in_err-first.ensures.1 in
    rw (p.1, p.2) (accept_games _ _ (players_of c.args.c) _ c.larger_budget.ensures (sym c.in_ok-game.ensures.code) _ c.in_err-first.ensures)

pub returns-clause-code : goal.returns-clause-code
returns-clause-code c = accept_games _ _ (players_of c.args.c) _ c.larger_budget.ensures (sym c.in_ok-game.ensures.code) _ c.in_ok-first.ensures
