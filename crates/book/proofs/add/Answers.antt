-- `book::add` meets its contract, by the check that decides, by what is held, or by the search. Assumes nothing.
use Rattle.std.proofs.Common.{refl, sym, ap, ◌∙◌, arith}
use Rattle.std.proofs.lemmas.Result.{err_from_is_err_and}
use Rattle.refusals.proofs.Passes.{number_positive}
use lib.ListN.{length}
use Rattle.searches.specs.Answers.{limits_of}
use Rattle.entries.specs.Entries.{found_number}
use Rattle.book.specs.Book.{book_of}
use Rattle.book.proofs.ByCheck.{add_turned, add_scans, add_accepted, add_held, add_full, add_searched, found_some}
use Rattle.book.proofs.add.Goals as goal

pub returns-in_err-start : goal.returns-in_err-start
returns-in_err-start c =
    let p = err_from_is_err_and c.from_residual.result c.from_residual.ensures.1 in
    let B = book_of c.args.book.now c.args.count in
    let words = length c.args.words.now in
    let L = limits_of c.args.l in
    rw (p.1, p.2) (record { count_after = add_turned _ _ words _ L B c.in_err-start.ensures.code c.capacity-nodes.ensures (number_positive _); pool = refl })

pub find-held-requires : goal.find-held-requires
find-held-requires c = add_scans _ _ (length c.args.words.now) _ (limits_of c.args.l) (book_of c.args.book.now c.args.count) c.in_ok-start.ensures.code c.capacity-nodes.ensures refl

pub returns-in-Some : goal.returns-in-Some
returns-in-Some c =
    let B = book_of c.args.book.now c.args.count in
    let words = length c.args.words.now in
    let L = limits_of c.args.l in
    let f = sym (ap found_number c.in-Some.is) ∙ c.find-held.ensures in
    record { count_after = add_held _ _ words _ L B c.in_ok-start.ensures.code c.capacity-nodes.ensures refl f (found_some _); pool = refl }

pub returns-then-count-book : goal.returns-then-count-book
returns-then-count-book c =
    let B = book_of c.args.book.now c.args.count in
    let words = length c.args.words.now in
    let L = limits_of c.args.l in
    let f = sym (ap found_number c.in_default.is) ∙ c.find-held.ensures in
    record { count_after = add_full _ _ words _ L B c.in_ok-start.ensures.code c.capacity-nodes.ensures refl f refl c.if-count-book.true; pool = refl }

pub search_and_store-requires : goal.search_and_store-requires
search_and_store-requires c =
    let B = book_of c.args.book.now c.args.count in
    let words = length c.args.words.now in
    let L = limits_of c.args.l in
    (add_accepted _ _ words _ L B c.in_ok-start.ensures.code c.capacity-nodes.ensures refl c.in_ok-start.ensures.position, omega (arith, c.if-count-book.false))

pub returns : goal.returns
returns c =
    let B = book_of c.args.book.now c.args.count in
    let words = length c.args.words.now in
    let L = limits_of c.args.l in
    let f = sym (ap found_number c.in_default.is) ∙ c.find-held.ensures in record {
      count_after = add_searched _ _ words _ L B c.in_ok-start.ensures.code c.capacity-nodes.ensures refl f refl c.if-count-book.false c.search_and_store.ensures.count_after;
      pool = c.search_and_store.ensures.pool;
    }
