-- Simulated players: what the call simulate answers and what it leaves in the pool, as functions of what comes in. The checks stand in their order (MANUAL, Simulated players; Turned
-- back), and a refusal leaves every word as it was. Rests on the games of two players, on search's checks and settings, and on the plain machine of a position.
use Rattle.std.specs.Prelude.{◌≡◌, ℕ, zero, suc, max, Bool, true, false, List, [], ◌∷◌, ◌==◌, nat_lt}
use Rattle.rules.specs.Rules.{Player, game_state}
use Rattle.rules.specs.Rules.Player.{X, O}
use Rattle.rules.specs.Record.{position_of}
use Rattle.rules.specs.Refusals.{refuses, first_refusal}
use Rattle.plain.specs.Plain.{search_of}
use Rattle.matches.specs.Matches.{Searcher, Report, report, play_match}
use Rattle.stay.specs.declared.Stay.{Stay}
use Rattle.calls.specs.Calls.{answer_unless}
use Rattle.searches.specs.Searches.{Limits, limits, nodes, settings, search_refusal, Untouched}

-- What the searches of both players are given, beside the pool: each has its own budget for every search, all else is common.
abbrev pub Players : Type 0
Players = record { limit : ℕ; x_budget : ℕ; o_budget : ℕ; interval : ℕ; stay : Stay }

abbrev pub players : (limit x_budget o_budget interval : ℕ) → Stay → Players
players limit x o interval stay = record { limit = limit; x_budget = x; o_budget = o; interval = interval; stay = stay }

abbrev pub budget_of : Players → Player → ℕ
budget_of C X = C.x_budget
budget_of C O = C.o_budget

abbrev pub with_budget : Players → (budget : ℕ) → Limits
with_budget C budget = limits C.limit budget C.interval C.stay

-- A player's search of a position: the plain machine's under rule 2, with the player's budget and the pool as a number of nodes, never its words.
unfoldable pub searcher : (words : ℕ) → Players → Searcher
searcher words C side q = search_of 2 (settings words (with_budget C (budget_of C side))) q

-- How many games there may be.
abbrev pub match_least : ℕ
match_least = 1

abbrev pub match_most : ℕ
match_most = 1000

-- The checks: those of a search, with the larger budget for check 10, since it is out of the range if one of the two is; and 23, no game, or too many. There is no rule to check.
abbrev pub larger : Players → ℕ
larger C = max C.x_budget C.o_budget

unfoldable pub simulate_refusal : (bytes : List ℕ) (capacity : ℕ) → Players → (games : ℕ) → ℕ
simulate_refusal bytes capacity C games =
    first_refusal (search_refusal bytes capacity 2 (with_budget C (larger C)) ∷ refuses 23 (nat_lt games match_least) ∷ refuses 23 (nat_lt match_most games) ∷ [])

-- The answer: 0 or the number of the refusal; the index, 0 always; the report, zeros with a refusal.
pub record SimulateOutcome : Type 0 where
  pub number : ℕ
  pub index : ℕ
  pub report : Report

abbrev pub simulate_outcome : (number index : ℕ) → Report → SimulateOutcome
simulate_outcome n i r = record { number = n; index = i; report = r }

unfoldable pub simulate_call : (bytes : List ℕ) (words : ℕ) → Players → (seed games : ℕ) → SimulateOutcome
simulate_call bytes words C seed games =
    answer_unless (simulate_refusal bytes (nodes words) C games) (λ n. simulate_outcome n 0 (report 0 0 0 0))
    (simulate_outcome 0 0 (play_match (searcher words C) games (position_of bytes) seed))

-- The pool's words afterwards: as they were if the call was refused, or if the record's game is over, since then nothing is searched; otherwise those past the capacity are.
abbrev pub PoolAfterSimulate : (number : ℕ) (playing : Bool) (before after : List ℕ) → Type 0
PoolAfterSimulate zero true before after = Untouched before after
PoolAfterSimulate zero false before after = after ≡ before
PoolAfterSimulate (suc n) playing before after = after ≡ before

abbrev pub in_play : (bytes : List ℕ) → Bool
in_play bytes = game_state (position_of bytes) == 0
