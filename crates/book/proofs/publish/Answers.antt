-- `book::publish` meets its contract, by the check that decides or by the first entry that holds the pair. Assumes nothing.
use Rattle.std.proofs.Common.{refl, arith}
use Rattle.std.proofs.lemmas.Result.{err_from_is_err_and}
use Rattle.refusals.proofs.Passes.{number_positive}
use Rattle.std.proofs.lemmas.Option.{MatchOption-at_some, MatchOption-at_none}
use Rattle.book.specs.Book.{book_of}
use Rattle.book.proofs.ByCheck.{publish_turned, publish_scans, publish_missing, publish_marks}
use Rattle.book.proofs.publish.Goals as goal

pub returns-in_err-check_publish : goal.returns-in_err-check_publish
returns-in_err-check_publish c =
    let p = err_from_is_err_and c.from_residual.result c.from_residual.ensures.1 in
    rw (p.1, p.2) (publish_turned _ _ _ (book_of c.args.book.now c.args.count) c.in_err-check_publish.ensures (number_positive _))

pub first-place-requires : goal.first-place-requires
first-place-requires c = publish_scans _ _ _ (book_of c.args.book.now c.args.count) c.in_ok-check_publish.ensures refl

pub returns-in_default : goal.returns-in_default
returns-in_default c =
    publish_missing _ _ _ (book_of c.args.book.now c.args.count) c.in_ok-check_publish.ensures refl refl (MatchOption-at_none _ _ c.in_default.is c.first-place.ensures)

pub mark-requires : goal.mark-requires
mark-requires c =
    let fits = (publish_scans _ _ _ (book_of c.args.book.now c.args.count) c.in_ok-check_publish.ensures refl).1 in
    let found = MatchOption-at_some _ _ _ c.in-Some.is c.first-place.ensures in
    omega (arith, fits, found.0, found.1)

pub returns : goal.returns
returns c =
    let found = MatchOption-at_some _ _ _ c.in-Some.is c.first-place.ensures in
    publish_marks _ _ _ (book_of c.args.book.now c.args.count) c.in_ok-check_publish.ensures refl refl found.0 found.1 c.mark.ensures
