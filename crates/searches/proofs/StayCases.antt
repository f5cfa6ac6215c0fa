-- Searches of an ending with and without staying on a line, and check 21, computed. Rests on Searches, and on plain's Cases for the records E and D.
use Rattle.std.specs.Prelude.{◌≡◌, refl, List, [], ◌∷◌, map, ℕ}
use Rattle.std.specs.Float.{binary64}
use Rattle.std.specs.Float.Ieee.{odd, units, of_fields, of_bits}
use Rattle.rules.specs.Record.{position_refusal, refusal_to6, impossible_choice, refusal}
use Rattle.rules.specs.Refusals.{first_refusal}
use Rattle.machine.specs.Machine.{Result, True, False, Unknown, fields}
use Rattle.plain.specs.Plain.{plain_search}
use Rattle.plain.proofs.Cases.{record21, computed_search, E, D}
use Rattle.stay.specs.declared.Stay.{Stay}
use Rattle.stay.specs.declared.Stay.TheVariants.{Off, Margin}
use Rattle.searches.specs.Searches.{Limits, limits, nodes, settings, search_refusal, Refused, Answered, search_call, Turned, full_call}
use Rattle.searches.proofs.SearchAnswers.{search_answered}
use Rattle.searches.specs.StepThree.{pool}

-- C of the manual: O, to move, wins under rule 0; off, margin 0 and margin 1 give three results
abbrev pub C : List ℕ
C = record21 0xBB244D24514B352054802882AC02CCB28294CACC54

-- A margin by its bits; judge's limit and interval, with a budget
unfoldable pub by_bits : ℕ → Stay
unfolding odd units of_fields of_bits
by_bits bits = Margin (of_bits binary64 bits)

abbrev pub staying : ℕ → Stay → Limits
staying budget y = limits 18446744073709551615 budget 10000 y

-- A search of C with so many nodes, under a rule, with a budget and a setting; and its result
abbrev pub StayCase : Type 0
StayCase = record { pool : ℕ; rule : ℕ; budget : ℕ; stay : Stay; result : Result }

abbrev of_C : ℕ → ℕ → ℕ → Stay → Result → StayCase
of_C pool rule budget stay result = record { pool = pool; rule = rule; budget = budget; stay = stay; result = result }

abbrev pub stay_cases : List StayCase
stay_cases =
    -- off; margin 0 and negative zero; 1/256, 1/4 and 1/2, which are too little for another choice here; 1
    of_C 3276 0 100000 Off (fields True 0 2147483649 9 8 4 0 5 0) ∷
    of_C 3276 0 100000 (by_bits 0x0000000000000000) (fields True 0 2147483648 15 14 4 4 9 0) ∷
    of_C 3276 0 100000 (by_bits 0x8000000000000000) (fields True 0 2147483648 15 14 4 4 9 0) ∷
    of_C 3276 0 100000 (by_bits 0x3F70000000000000) (fields True 0 2147483648 15 14 4 4 9 0) ∷
    of_C 3276 0 100000 (by_bits 0x3FD0000000000000) (fields True 0 2147483648 15 14 4 4 9 0) ∷
    of_C 3276 0 100000 (by_bits 0x3FE0000000000000) (fields True 0 2147483648 15 14 4 4 9 0) ∷
    of_C 3276 0 100000 (by_bits 0x3FF0000000000000) (fields True 0 2147483649 7 6 4 0 4 0) ∷
    -- nodes that are enough with off; with margin 0, one too few for an answer, and one more; a budget that is spent, with a part freed
    of_C 8 0 100000 Off (fields True 0 2147483649 9 8 4 0 5 0) ∷
    of_C 11 0 100000 (by_bits 0x0000000000000000) (fields Unknown 2 3 11 0 0 0 5 2) ∷
    of_C 12 0 100000 (by_bits 0x0000000000000000) (fields True 0 2147483648 15 14 4 4 9 0) ∷
    of_C 3276 0 8 (by_bits 0x0000000000000000) (fields Unknown 1 1 14 9 1 4 8 1) ∷
    -- under rules 1 and 2
    of_C 3276 1 100000 (by_bits 0x3FF0000000000000) (fields False 2147483649 0 12 11 0 7 7 0) ∷
    of_C 3276 2 100000 (by_bits 0x0000000000000000) (fields True 0 2147483650 13 12 6 0 7 0) ∷
    []

plain_results : map (λ c. plain_search c.rule (settings (pool c.pool) (staying c.budget c.stay)) C) stay_cases ≡ map (λ c. c.result) stay_cases
unfolding computed_search by_bits
plain_results = refl

accepted : map (λ c. search_refusal C (nodes (pool c.pool)) c.rule (staying c.budget c.stay)) stay_cases ≡ 0 ∷ 0 ∷ 0 ∷ 0 ∷ 0 ∷ 0 ∷ 0 ∷ 0 ∷ 0 ∷ 0 ∷ 0 ∷ 0 ∷ 0 ∷ []
unfolding computed_search position_refusal refusal_to6 impossible_choice refusal first_refusal search_refusal by_bits
accepted = refl

answers_from : (cs : List StayCase) → map (λ c. search_refusal C (nodes (pool c.pool)) c.rule (staying c.budget c.stay)) cs ≡ map (λ c. 0) cs
    → map (λ c. plain_search c.rule (settings (pool c.pool) (staying c.budget c.stay)) C) cs ≡ map (λ c. c.result) cs
    → map (λ c. search_call C (pool c.pool) c.rule (staying c.budget c.stay)) cs ≡ map (λ c. Answered c.result) cs
answers_from [] e h = refl
answers_from (c ∷ cs) e h =
    let first = search_answered C (pool c.pool) c.rule (staying c.budget c.stay) (cc) c.result (cc) in
    let rest = answers_from cs (cc) (cc) in
    cc

-- Each field is a case.
pub record StayAnswers : Type 0 where
  pub of_an_ending : map (λ c. search_call C (pool c.pool) c.rule (staying c.budget c.stay)) stay_cases ≡ map (λ c. Answered c.result) stay_cases
  -- 21: a NaN, 1/512, and 1 and 1/256; of a finished game too, and by full verdict
  pub nan : search_call E (pool 1) 0 (staying 0 (by_bits 0x7FF8000000000000)) ≡ Refused 21
  pub half_a_step : search_call E (pool 1) 0 (staying 0 (by_bits 0x3F60000000000000)) ≡ Refused 21
  pub above_one : search_call D (pool 1) 0 (staying 0 (by_bits 0x3FF0100000000000)) ≡ Refused 21
  pub full : full_call E (pool 1) (staying 0 (by_bits 0x3F60000000000000)) ≡ Turned 21
  -- 3, 8 and 10 before 21
  pub record_first : search_call (record21 0x7A0000000000000000000000000000000000000000) (pool 1) 0 (staying 0 (by_bits 0x3F60000000000000)) ≡ Refused 3
  pub pool_first : search_call E 4 0 (staying 0 (by_bits 0x3F60000000000000)) ≡ Refused 8
  pub budget_first : search_call E (pool 1) 0 (staying 3000001 (by_bits 0x3F60000000000000)) ≡ Refused 10

pub stay_answers : StayAnswers
unfolding computed_search position_refusal refusal_to6 impossible_choice refusal first_refusal search_refusal search_call full_call by_bits
stay_answers = record {
  of_an_ending = answers_from stay_cases accepted plain_results;
  nan = refl;
  half_a_step = refl;
  above_one = refl;
  full = refl;
  record_first = refl;
  pool_first = refl;
  budget_first = refl;
}
