-- Laws of whole lists of checks, each check with the number that stands for it: a search's, a match's, and a record's, whose target is checked twice. No proof of the code rests on them: it goes
-- check by check. Rests on Searches, on Players and on the rules' Refusals.
use Rattle.std.specs.Prelude.{◌≡◌, refl, Bool, true, false, cond, not, ◌&&◌, ◌||◌, List, [], ◌∷◌, ◌++◌, ℕ, eqb, ltb, nat_lt}
use Rattle.rules.specs.Record.{refusal}
use Rattle.rules.specs.Refusals.{refuses, first_refusal}
use Rattle.stay.specs.Margin.{stay_in_range}
use Rattle.calls.specs.Calls.{last_rule}
use Rattle.searches.specs.Searches.{Limits, pool_least, pool_most, interval_least, interval_most, budget_most, search_refusal}
use Rattle.players.specs.Players as players
use Rattle.players.specs.Players.{with_budget, match_least, match_most, larger, simulate_refusal}

-- a search's checks
pub accept_code : (bytes : List ℕ) (capacity rule : ℕ) (L : Limits) {record_code pool_none pool_over rule_over interval_under interval_over budget_over margin_none n : ℕ}
    → record_code ≡ refusal bytes
    → pool_none ≡ refuses 8 (ltb capacity pool_least)
    → pool_over ≡ refuses 9 (ltb pool_most capacity)
    → rule_over ≡ refuses 10 (ltb last_rule rule)
    → interval_under ≡ refuses 10 (ltb L.interval interval_least)
    → interval_over ≡ refuses 10 (ltb interval_most L.interval)
    → budget_over ≡ refuses 10 (ltb budget_most L.budget)
    → margin_none ≡ refuses 21 (not (stay_in_range L.stay))
    → n ≡ first_refusal (record_code ∷ pool_none ∷ pool_over ∷ rule_over ∷ interval_under ∷ interval_over ∷ budget_over ∷ margin_none ∷ [])
    → n ≡ search_refusal bytes capacity rule L
unfolding search_refusal
accept_code bytes capacity rule L a b c d e f g h i = rw (i, a, b, c, d, e, f, g, h)

-- a match's
pub match_code : (bytes : List ℕ) (capacity : ℕ) (C : players.Players) (games : ℕ) {budget search_code none_code many_code n : ℕ}
    → budget ≡ larger C
    → search_code ≡ search_refusal bytes capacity 2 (with_budget C budget)
    → none_code ≡ refuses 23 (nat_lt games match_least)
    → many_code ≡ refuses 23 (nat_lt match_most games)
    → n ≡ first_refusal (search_code ∷ none_code ∷ many_code ∷ [])
    → n ≡ simulate_refusal bytes capacity C games
unfolding simulate_refusal
match_code bytes capacity C games b s l m e = rw (e, s, l, m, b)

-- the target's checks of a record, 2 and 6, made at once: l for a target below 9, e for 15, h and n for a done board; ms are the checks between them, ns those after
pub order : (l e h n : Bool) (ms ns : List ℕ) → (l ≡ true → n ≡ h)
    → let target : ℕ = cond l (refuses 6 h) (refuses 2 (not e)) in
    first_refusal (refuses 2 (not (l || e)) ∷ (ms ++ (refuses 6 (l && n) ∷ ns)))
    ≡ first_refusal (refuses 2 (eqb target 2) ∷ (ms ++ (target ∷ ns)))
unfolding first_refusal
order true e true n ms ns i = rw (i refl)
order true e false n ms ns i = rw (i refl)
order false true h n ms ns i = refl
order false false h n ms ns i = refl
