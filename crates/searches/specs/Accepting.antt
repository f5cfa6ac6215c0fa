-- What is known of a search that no check refused, and what it asks for and comes to. Rests on Searches and pn's Results.
use Rattle.std.specs.Prelude.{◌≡◌, List, ℕ, ◌≤◌, length}
use Rattle.rules.specs.Record.{position_of, refusal}
use Rattle.game.specs.Words.{Holds}
use Rattle.machine.proofs.Reached.{PoolInRange}
use Rattle.plain.specs.Plain.{plain_search}
use Rattle.pn.specs.Results.{result_of}
use Rattle.pn.specs.declared.SearchResult.{SearchResult}
use Rattle.stay.specs.Margin.{StayInRange}
use Rattle.calls.specs.Calls.{last_rule}
use Rattle.searches.specs.Searches.{Limits, interval_least, interval_most, budget_most, nodes, settings, search_refusal, Untouched}

pub record Accepts (bytes : List ℕ) (words rule : ℕ) (L : Limits) : Type 0 where
  pub loads : refusal bytes ≡ 0
  pub range : PoolInRange (settings words L)
  pub rule_most : rule ≤ last_rule
  pub interval_at_least : interval_least ≤ L.interval
  pub interval_at_most : L.interval ≤ interval_most
  pub budget_at_most : L.budget ≤ budget_most
  pub stay_is_in_range : StayInRange L.stay

-- every check is passed, and the words g hold the record's position
pub record Passed (bytes g : List ℕ) (words rule : ℕ) (L : Limits) : Type 0 where
  pub holds : Holds (position_of bytes) g 0
  pub none : search_refusal bytes (nodes words) rule L ≡ 0

-- a search of the position that passed: the plain machine's result, and the words past the capacity as they were
abbrev pub SearchesPassed : (g : List ℕ) (rule : ℕ) (L : Limits) (w v : List ℕ) (r : SearchResult) → Type 0
SearchesPassed g rule L w v r =
    ((bytes : List ℕ) → Passed bytes g (length w) rule L → result_of r ≡ plain_search rule (settings (length w) L) bytes) × Untouched w v
