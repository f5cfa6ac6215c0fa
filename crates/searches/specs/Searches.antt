-- What search and full verdict answer and what they leave in the pool, as functions of what comes in. The checks stand in their order (MANUAL, Calls;
-- Turned back). Rests on the record's checks, on the setting's range, and on the plain machine of a record.
use Rattle.std.specs.Prelude.{◌≡◌, not, List, [], ◌∷◌, ℕ, ◌*◌, ◌/◌, ltb, length, drop}
use Rattle.rules.specs.Record.{refusal}
use Rattle.rules.specs.Refusals.{refuses, first_refusal}
use Rattle.machine.specs.Machine.{Settings, Result, Verdict, True, False, Unknown}
use Rattle.plain.specs.Plain.{plain_search}
use Rattle.stay.specs.declared.Stay.{Stay}
use Rattle.stay.specs.Margin.{stay_in_range, stay_of}
use Rattle.calls.specs.Calls.{last_rule, answer_unless}

-- The ends of the ranges: pool in nodes, interval, budget.
abbrev pub pool_least : ℕ
pool_least = 1

abbrev pub pool_most : ℕ
pool_most = 16777216

abbrev pub interval_least : ℕ
interval_least = 1

abbrev pub interval_most : ℕ
interval_most = 1000000

abbrev pub budget_most : ℕ
budget_most = 3000000

-- What comes in beside the record, the rule and the pool.
abbrev pub Limits : Type 0
Limits = record { limit : ℕ; budget : ℕ; interval : ℕ; stay : Stay }

abbrev pub limits : (limit budget interval : ℕ) → Stay → Limits
limits limit budget interval stay = record { limit = limit; budget = budget; interval = interval; stay = stay }

-- A pool's capacity in nodes, from its length in words, five a node.
abbrev pub nodes : ℕ → ℕ
nodes words = words / 5

-- The machine's settings: the pool as a number of nodes, never its words.
abbrev pub settings : ℕ → Limits → Settings
settings words L = record { pool = nodes words; limit = L.limit; budget = L.budget; interval = L.interval; stay = stay_of L.stay }

-- The checks of a search, in their order: the record's; no node in the pool, or too many; a rule, an interval or a budget out of its range; a margin that is
-- none. The number of the first that refuses, or 0. The pool comes in as its capacity, in nodes.
unfoldable pub search_refusal : (bytes : List ℕ) (capacity rule : ℕ) → Limits → ℕ
search_refusal bytes capacity rule L =
    first_refusal (
    refusal bytes
    ∷ refuses 8 (ltb capacity pool_least)
    ∷ refuses 9 (ltb pool_most capacity)
    ∷ refuses 10 (ltb last_rule rule)
    ∷ refuses 10 (ltb L.interval interval_least)
    ∷ refuses 10 (ltb interval_most L.interval)
    ∷ refuses 10 (ltb budget_most L.budget)
    ∷ refuses 21 (not (stay_in_range L.stay))
    ∷ []
    )

-- A search is refused, or answered with the plain machine's result, which may be Unknown.
pub data Searched : Type 0 where
  Refused : ℕ → Searched
  Answered : Result → Searched

unfoldable pub search_call : (bytes : List ℕ) (words rule : ℕ) → Limits → Searched
search_call bytes words rule L = answer_unless (search_refusal bytes (nodes words) rule L) Refused (Answered (plain_search rule (settings words L) bytes))

-- The pool's words afterwards: untouched if it was refused; otherwise those past the capacity are.
abbrev pub Untouched : List ℕ → List ℕ → Type 0
Untouched before after = (length after ≡ length before) × (drop (nodes (length before) * 5) after ≡ drop (nodes (length before) * 5) before)

abbrev pub PoolAfter : Searched → List ℕ → List ℕ → Type 0
PoolAfter (Refused n) before after = after ≡ before
PoolAfter (Answered r) before after = Untouched before after

-- The full verdict, from the verdicts of rules 1 and 2.
pub data FullVerdict : Type 0 where
  Win Loss Draw AtLeastDraw AtMostDraw Undecided : FullVerdict

unfoldable pub full_of : Verdict → Verdict → FullVerdict
full_of True second = Win
full_of False False = Loss
full_of Unknown False = Loss
full_of False True = Draw
full_of Unknown True = AtLeastDraw
full_of False Unknown = AtMostDraw
full_of Unknown Unknown = Undecided

-- It takes search's checks and has no rule; it carries both results.
pub data Judged : Type 0 where
  Turned : ℕ → Judged
  Full : FullVerdict → Result → Result → Judged

abbrev pub both_results : Result → Result → Judged
both_results first second = Full (full_of first.verdict second.verdict) first second

unfoldable pub full_call : (bytes : List ℕ) (words : ℕ) → Limits → Judged
full_call bytes words L = answer_unless (search_refusal bytes (nodes words) 0 L) Turned (both_results (plain_search 1 (settings words L) bytes) (plain_search 2 (settings words L) bytes))

abbrev pub PoolAfterFull : Judged → List ℕ → List ℕ → Type 0
PoolAfterFull (Turned n) before after = after ≡ before
PoolAfterFull (Full v r s) before after = Untouched before after
