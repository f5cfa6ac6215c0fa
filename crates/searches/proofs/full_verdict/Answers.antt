-- `searches::full_verdict` meets its contract: refused by a check, or the results of the two searches. Assumes nothing.
use mathlib.Core.Path.{refl, sym, ap, ◌∙◌}
use native.Mathlib.Omega.{arith}
use Rattle.std.proofs.lemmas.Result.{err_from_is_err_and}
use lib.ListN.{length}
use Rattle.refusals.proofs.Passes.{number_positive}
use Rattle.plain.specs.Plain.{plain_search}
use Rattle.pn.specs.Results.{result_of}
use Rattle.searches.specs.Searches.{settings, Full}
use Rattle.searches.specs.Answers.{limits_of}
use Rattle.searches.proofs.Accepting.{of_pool, passed_all, passed_rule}
use Rattle.searches.proofs.SearchAnswers.{full_refused, full_with}
use Rattle.searches.proofs.Pools.{untouched_twice}
use Rattle.searches.proofs.full_verdict.Goals as goal

pub returns-in_err-start : goal.returns-in_err-start
returns-in_err-start c =
    let p = err_from_is_err_and c.from_residual.result c.from_residual.ensures.1 in
    rw (p.1, p.2) (full_refused _ _ _ _ (of_pool _ _ _ _ _ _ c.in_err-start.ensures.code c.capacity.ensures) (number_positive _), refl)

pub search_accepted-first-requires : goal.search_accepted-first-requires
search_accepted-first-requires c = (
  _,
  passed_rule 1 (omega arith) refl
      (passed_all (length c.args.words.now) (limits_of c.args.l) c.in_ok-start.ensures.code c.capacity.ensures refl c.in_ok-start.ensures.position),
)

pub search_accepted-second-requires : goal.search_accepted-second-requires
search_accepted-second-requires c = (
  _,
  passed_rule 2 (omega arith) c.search_accepted-first.auto.words
      (passed_all (length c.args.words.now) (limits_of c.args.l) c.in_ok-start.ensures.code c.capacity.ensures refl c.in_ok-start.ensures.position),
)

pub returns : goal.returns
returns c =
    let L = limits_of c.args.l in
    let all = passed_all (length c.args.words.now) L c.in_ok-start.ensures.code c.capacity.ensures refl c.in_ok-start.ensures.position in
    let first = c.search_accepted-first.ensures.0 _ (passed_rule 1 (omega arith) refl all) in
    let second = c.search_accepted-second.ensures.0 _ (passed_rule 2 (omega arith) c.search_accepted-first.auto.words all) ∙ ap (λ n. plain_search 2 (settings n L) c.args.bytes.now) c.search_accepted-first.auto.words in (
      ap (λ v. Full v (result_of c.search_accepted-first.result) (result_of c.search_accepted-second.result)) c.full_of.ensures
          ∙ sym (full_with c.args.bytes.now _ L all.none _ _ (sym first) (sym second)),
      untouched_twice c.args.words.now c.search_accepted-first.new.words c.search_accepted-second.new.words c.search_accepted-first.ensures.1 c.search_accepted-second.ensures.1,
    )
