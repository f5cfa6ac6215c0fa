-- `searches::two_searches` meets its contract: the third condition, of the results that two calls of search give. Rests on TwoSearches.
use mathlib.Core.Path.{sym, ◌∙◌}
use Rattle.searches.proofs.TwoSearches.{third_condition}
use Rattle.searches.proofs.two_searches.Goals as goal

pub returns-clause-third_condition : goal.returns-clause-third_condition
returns-clause-third_condition c =
    λ x y e f. third_condition _ _ _ _ _ _ x y (sym c.search-first.ensures.0 ∙ e) (sym c.search-second.ensures.0 ∙ f)
