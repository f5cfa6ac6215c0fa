-- Laws of the numbers that C has: any two answers of uttt_search to one record and rule stand in the third condition, and one that isn't Unknown has the number
-- of uttt_referee's value. Rests on TwoAnswers, and on the laws of the calls in searches.
use Rattle.std.specs.Prelude.{◌≡◌, refl, List, ℕ}
use Rattle.std.proofs.Common.{ap, sym, ◌∙◌}
use Rattle.machine.specs.Machine.{Result}
use Rattle.prove.specs.Numbers.{verdict_number}
use Rattle.calls.specs.Calls.{RefereeOutcome, referee_call}
use Rattle.searches.specs.Searches.{Limits, Searched, Answered, Refused, search_call}
use Rattle.searches.proofs.SearchAnswers.{refused}
use Rattle.searches.proofs.TwoSearches.{third_condition}
use Rattle.searches.proofs.RefereeAgrees.{referee_agrees}
use Rattle.ultimattt.specs.Exports.{Fields, SearchNumbers, fields_of, searched_numbers}
use Rattle.ultimattt.specs.TwoAnswers.{TwoAnswers}

-- an answer with code 0 has the fields of a result
result_of_search : (bytes : List ℕ) (words rule : ℕ) (L : Limits) (a : SearchNumbers) → a ≡ searched_numbers (search_call bytes words rule L) → a.code ≡ 0
    → (r : Result) × (search_call bytes words rule L ≡ Answered r) × (a.result ≡ fields_of r)
result_of_search bytes words rule L a e z = go (search_call bytes words rule L) refl
  where
    go : (x : Searched) → search_call bytes words rule L ≡ x → (r : Result) × (search_call bytes words rule L ≡ Answered r) × (a.result ≡ fields_of r)
    go (Answered r) q = (r, q, ap (λ (n : SearchNumbers). n.result) (e ∙ ap searched_numbers q))
    go (Refused n) q = absurd ((refused bytes words rule L n q).1 (sym (ap (λ (m : SearchNumbers). m.code) (e ∙ ap searched_numbers q)) ∙ z))

-- a and b are what the contract of uttt_search says of two calls
pub two_answers : (bytes : List ℕ) (rule : ℕ) (S T : Limits) (words words' : ℕ) (a b : SearchNumbers)
    → a ≡ searched_numbers (search_call bytes words rule S) → b ≡ searched_numbers (search_call bytes words' rule T)
    → a.code ≡ 0 → b.code ≡ 0 → TwoAnswers bytes rule S T words words' a b
two_answers bytes rule S T words words' a b e f y z =
    let r = result_of_search bytes words rule S a e y in
    let s = result_of_search bytes words' rule T b f z in
    record {
      first = r.0;
      second = s.0;
      first_fields = r.2;
      second_fields = s.2;
      condition = third_condition bytes rule S T words words' r.0 s.0 r.1 s.1;
    }

-- a and v are what the contracts of uttt_search and uttt_referee say of one record and rule
pub referee_number : (bytes : List ℕ) (words rule : ℕ) (L : Limits) (a : SearchNumbers) (v : RefereeOutcome)
    → a ≡ searched_numbers (search_call bytes words rule L) → v ≡ referee_call bytes rule → a.code ≡ 0 → v.number ≡ 0
    → (a.result.verdict ≡ 0 → ⊥) → a.result.verdict ≡ v.value
referee_number bytes words rule L a v e f y z known =
    let r = result_of_search bytes words rule L a e y in
    let verdict : a.result.verdict ≡ verdict_number r.0.verdict = ap (λ (n : Fields). n.verdict) r.2 in
    verdict
    ∙ referee_agrees bytes words rule L r.0 (ap (λ (x : RefereeOutcome). x.number) (sym f) ∙ z) r.1 (λ u. known (verdict ∙ ap verdict_number u))
    ∙ ap (λ (x : RefereeOutcome). x.value) (sym f)
