-- What the answers of search and full verdict say, by their cases, and what SearchLimits holds. Rests on Searches, on the numbers of the refusals and on the nine fields as the machine has
-- them.
use Rattle.std.specs.Prelude.{Result, Ok, Err}
use Rattle.refusals.specs.Numbers.{number}
use Rattle.refusals.specs.declared.Refusal.{Refusal}
use Rattle.pn.specs.Results.{result_of}
use Rattle.pn.specs.declared.SearchResult.{SearchResult}
use Rattle.searches.specs.Searches as calls
use Rattle.searches.specs.Searches.{Limits, Searched, Judged}
use Rattle.searches.specs.declared.SearchLimits.{SearchLimits}
use Rattle.searches.specs.declared.FullVerdict.{FullVerdict}
use Rattle.searches.specs.declared.FullVerdict.TheVariants as full
use Rattle.searches.specs.declared.Full.{Full}

-- What a search is given.
abbrev pub limits_of : SearchLimits → Limits
limits_of l = record { limit = l.limit; budget = l.budget; interval = l.interval; stay = l.stay }

-- The answer of search.
abbrev pub searched : Result SearchResult Refusal → Searched
searched (Ok r) = calls.Answered (result_of r)
searched (Err e) = calls.Refused (number e)

-- The six full verdicts, and the answer of full verdict.
abbrev pub full_verdict : FullVerdict → calls.FullVerdict
full_verdict full.Win = calls.Win
full_verdict full.Loss = calls.Loss
full_verdict full.Draw = calls.Draw
full_verdict full.AtLeastDraw = calls.AtLeastDraw
full_verdict full.AtMostDraw = calls.AtMostDraw
full_verdict full.Undecided = calls.Undecided

abbrev pub judged : Result Full Refusal → Judged
judged (Ok f) = calls.Full (full_verdict f.verdict) (result_of f.first) (result_of f.second)
judged (Err e) = calls.Turned (number e)
