-- The checks of a call that judges up to eight games, in their order (MANUAL, Games with one allowance). Their records come in one slice, 21 bytes a game, with eight
-- shares. Rests on the record's checks and on the ranges of search's settings.
use Rattle.std.specs.Prelude.{cond, not, List, [], ◌∷◌, ℕ, zero, suc, ◌*◌, ◌/◌, ◌%◌, min, eqb, ltb, length, get_or, take, drop}
use Rattle.rules.specs.Rules.{answers, any}
use Rattle.rules.specs.Record.{refusal}
use Rattle.rules.specs.Refusals.{refuses, first_refusal}
use Rattle.passes.specs.Passes.{total}
use Rattle.stay.specs.declared.Stay.{Stay}
use Rattle.stay.specs.Margin.{stay_in_range}
use Rattle.calls.specs.Calls.{last_rule}
use Rattle.searches.specs.Searches.{pool_least, pool_most, interval_least, interval_most, budget_most}

-- How many games there may be, how many there are, and the record of game i, counted from 0.
abbrev pub games_least : ℕ
games_least = 1

abbrev pub games_most : ℕ
games_most = 8

abbrev pub games : List ℕ → ℕ
games bytes = length bytes / 21

abbrev pub record_at : List ℕ → ℕ → List ℕ
record_at bytes i = take 21 (drop (i * 21) bytes)

-- Checks 1 and 20: the bytes are no whole number of records; no game, or more than eight.
unfoldable pub number_refusal : List ℕ → ℕ
number_refusal bytes =
    first_refusal (
    refuses 1 (not (eqb (length bytes % 21) 0))
    ∷ refuses 20 (ltb (games bytes) games_least)
    ∷ refuses 20 (ltb games_most (games bytes))
    ∷ []
    )

-- Checks 2 to 6 and 22 of every record: the number of the check that refuses it, or 0.
abbrev pub refusal_at : List ℕ → ℕ → ℕ
refusal_at bytes i = refusal (record_at bytes i)

abbrev pub refusals : List ℕ → List ℕ
refusals bytes = answers (refusal_at bytes) 0 (games bytes)

-- The earliest check that refuses a record, or 0; and the lowest game with that refusal.
unfoldable pub earlier : ℕ → ℕ → ℕ
earlier zero m = m
earlier (suc n) zero = suc n
earlier (suc n) (suc m) = min (suc n) (suc m)

unfoldable pub earliest : List ℕ → ℕ
earliest [] = 0
earliest (n ∷ ns) = earlier n (earliest ns)

unfoldable pub lowest : ℕ → List ℕ → ℕ
lowest number [] = 0
lowest number (n ∷ ns) = cond (eqb n number) 0 (suc (lowest number ns))

-- What is common to all games, beside the pool.
abbrev pub Common : Type 0
Common = record { rule : ℕ; limit : ℕ; allowance : ℕ; interval : ℕ; stay : Stay }

abbrev pub common : (rule limit allowance interval : ℕ) → Stay → Common
common rule limit allowance interval stay = record { rule = rule; limit = limit; allowance = allowance; interval = interval; stay = stay }

-- The shares of n games; those past the last game are not read.
abbrev pub shares_of : List ℕ → (n : ℕ) → List ℕ
shares_of shares n = answers (λ i. get_or shares i 0) 0 n

-- Check 8 of a part of the pool, 9 of the whole; 10 of the rule, the interval, the games' shares and the allowance; 21 of the margin; 20, the shares sum above
-- the allowance.
unfoldable pub settings_refusal : (capacity n : ℕ) (shares : List ℕ) → Common → ℕ
settings_refusal capacity n shares C =
    first_refusal (
    refuses 8 (ltb (capacity / n) pool_least)
    ∷ refuses 9 (ltb pool_most capacity)
    ∷ refuses 10 (ltb last_rule C.rule)
    ∷ refuses 10 (ltb C.interval interval_least)
    ∷ refuses 10 (ltb interval_most C.interval)
    ∷ refuses 10 (any (ltb budget_most) shares)
    ∷ refuses 10 (ltb budget_most C.allowance)
    ∷ refuses 21 (not (stay_in_range C.stay))
    ∷ refuses 20 (ltb C.allowance (total shares))
    ∷ []
    )
