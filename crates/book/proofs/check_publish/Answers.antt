-- `book::check_publish` meets its contract: 19, and lookup's checks after it. Assumes nothing.
use Rattle.std.proofs.Common.{sym}
use Rattle.std.proofs.lemmas.Result.{err_from_is_err_and}
use Rattle.refusals.proofs.Passes.{number_positive}
use Rattle.book.proofs.ByCheck.{publish_by_caller, publish_late}
use Rattle.book.proofs.check_publish.Goals as goal

pub returns-in_err-check_caller : goal.returns-in_err-check_caller
returns-in_err-check_caller c =
    let p = err_from_is_err_and c.from_residual.result c.from_residual.ensures.1 in
    rw (p.1, p.2) (publish_by_caller _ _ _ _ _ c.in_err-check_caller.ensures (number_positive _))

pub returns : goal.returns
returns c = publish_late _ _ _ _ (sym c.in_ok-check_caller.ensures) _ c.check_lookup.ensures
