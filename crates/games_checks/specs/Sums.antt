-- The sum of the shares, where none of them is above the range. Rests on Checks.
use Rattle.std.specs.Prelude.{cond, List, ℕ, Option, None, Some, ltb}
use Rattle.rules.specs.Rules.{any}
use Rattle.passes.specs.Passes.{total}
use Rattle.searches.specs.Searches.{budget_most}

abbrev pub sum_within : List ℕ → Option ℕ
sum_within ns = cond (any (ltb budget_most) ns) None (Some (total ns))
