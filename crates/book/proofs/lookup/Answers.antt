-- `book::lookup` meets its contract: refused by a check, or what the scan found. Assumes nothing.
use Rattle.std.proofs.Common.{refl}
use Rattle.std.proofs.lemmas.Result.{err_from_is_err_and}
use Rattle.refusals.proofs.Passes.{number_positive}
use Rattle.book.proofs.ByCheck.{lookup_turned, lookup_scans, lookup_found}
use Rattle.book.proofs.lookup.Goals as goal

pub returns-in_err-check_lookup : goal.returns-in_err-check_lookup
returns-in_err-check_lookup c =
    let p = err_from_is_err_and c.from_residual.result c.from_residual.ensures.1 in
    rw (p.1, p.2) (lookup_turned _ _ _ _ c.in_err-check_lookup.ensures (number_positive _))

pub find-requires : goal.find-requires
find-requires c = lookup_scans _ _ _ c.in_ok-check_lookup.ensures refl

pub returns : goal.returns
returns c = lookup_found _ _ _ _ c.in_ok-check_lookup.ensures refl c.find.ensures
