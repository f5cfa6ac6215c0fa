-- What the numbers mean in every Unknown that search and full verdict answer. Rests on meaning's law of records, SearchAnswers and Accepting.
use Rattle.std.specs.Prelude.{◌≡◌, List, ℕ}
use Rattle.std.proofs.Common.{ap, sym, ◌∙◌}
use Rattle.machine.specs.Machine.{Result, Unknown}
use Rattle.machine.proofs.Reached.{PoolInRange}
use Rattle.plain.specs.Plain.{plain_search}
use Rattle.meaning.specs.UnknownMeans.{UnknownMeans}
use Rattle.meaning.proofs.Unknowns.{unknown_means}
use Rattle.searches.specs.Searches.{Limits, settings, Answered, search_call, FullVerdict, Full, full_call}
use Rattle.searches.proofs.Accepting.{accepts}
use Rattle.searches.proofs.SearchAnswers.{answered}
use Rattle.searches.proofs.SearchAnswers.{full_answered}

module _ (bytes : List ℕ) (words : ℕ) (L : Limits) where
  -- of a result that the plain machine gives with a pool within the range
  result_means : (rule : ℕ) (r : Result) → PoolInRange (settings words L) → r ≡ plain_search rule (settings words L) bytes → r.verdict ≡ Unknown → UnknownMeans rule (settings words L) bytes r
  result_means rule r f q v = rw q (unknown_means rule (settings words L) bytes f (sym (ap (λ (x : Result). x.verdict) q) ∙ v))

  -- THEOREM: of every Unknown of search
  pub search_means : (rule : ℕ) (r : Result) → search_call bytes words rule L ≡ Answered r → r.verdict ≡ Unknown → UnknownMeans rule (settings words L) bytes r
  search_means rule r e v = let a = answered bytes words rule L r e in result_means rule r (accepts bytes words rule L a.0).range a.1 v

  -- THEOREM: of every Unknown in a full verdict, which carries the results under rules 1 and 2
  pub full_means : (v : FullVerdict) (r s : Result) → full_call bytes words L ≡ Full v r s
      → (r.verdict ≡ Unknown → UnknownMeans 1 (settings words L) bytes r) × (s.verdict ≡ Unknown → UnknownMeans 2 (settings words L) bytes s)
  full_means v r s e =
      let a = full_answered bytes words L v r s e in
      let f = (accepts bytes words 0 L a.0).range in
      (result_means 1 r f a.1, result_means 2 s f a.2)
