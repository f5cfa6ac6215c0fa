-- `book::check_lookup` meets its contract: the record's checks, then the two others. Assumes nothing.
use Rattle.std.proofs.Common.{sym}
use Rattle.std.proofs.lemmas.Result.{err_from_is_err_and}
use Rattle.refusals.proofs.Passes.{number_positive}
use Rattle.book.proofs.ByCheck.{lookup_by_record, lookup_late}
use Rattle.book.proofs.check_lookup.Goals as goal

pub returns : goal.returns
returns c = lookup_late _ _ _ (sym c.in_ok-load.ensures.code) _ _ c.broken.ensures c.first.ensures

pub returns-in_err-load : goal.returns-in_err-load
returns-in_err-load c =
    let p = err_from_is_err_and c.from_residual.result c.from_residual.ensures.1 in
    rw (p.1, p.2) (lookup_by_record _ _ _ _ c.in_err-load.ensures.code (number_positive _))
