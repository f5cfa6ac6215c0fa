-- `searches::search` meets its contract: refused by a check, or the search's result. Assumes nothing.
use Rattle.std.proofs.Common.{refl, sym}
use Rattle.std.proofs.lemmas.Result.{err_from_is_err_and}
use lib.ListN.{length}
use Rattle.refusals.proofs.Passes.{number_positive}
use Rattle.searches.specs.Answers.{limits_of}
use Rattle.searches.proofs.Accepting.{of_pool, passed_all}
use Rattle.searches.proofs.SearchAnswers.{search_refused, search_answered}
use Rattle.searches.proofs.search.Goals as goal

pub returns-in_err-start : goal.returns-in_err-start
returns-in_err-start c =
    let p = err_from_is_err_and c.from_residual.result c.from_residual.ensures.1 in
    rw (p.1, p.2) (search_refused _ _ _ _ _ (of_pool _ _ _ _ _ _ c.in_err-start.ensures.code c.capacity.ensures) (number_positive _), refl)

pub search_accepted-requires : goal.search_accepted-requires
search_accepted-requires c =
    (_, passed_all _ (limits_of c.args.l) c.in_ok-start.ensures.code c.capacity.ensures refl c.in_ok-start.ensures.position)

pub returns : goal.returns
returns c =
    let all = passed_all (length c.args.words.now) (limits_of c.args.l) c.in_ok-start.ensures.code c.capacity.ensures refl c.in_ok-start.ensures.position in
    (sym (search_answered _ _ _ _ all.none _ (sym (c.search_accepted.ensures.0 _ all))), c.search_accepted.ensures.1)
