-- `stay::is_margin` meets its contract: one of the 257 tests holds exactly of a margin. Rests on Exact.
use Rattle.std.proofs.Common.{◌∙◌, rules, refl}
use Rattle.std.proofs.lemmas.Iterator.{YieldsList-from_range}
use Rattle.std.proofs.lemmas.Iterator.Search.{any_from_yields_List}
use Rattle.stay.proofs.Exact.{test_at, any_margin}
use Rattle.stay.proofs.is_margin.Goals as goal

pub returns : goal.returns
returns c =
    any_from_yields_List (test_at c.args.margin) _ _ _ c.any.ensures.ran (YieldsList-from_range 0 257 257 refl refl) (λ k b q h. (search rules, search rules)) ∙ any_margin c.args.margin 257 refl
