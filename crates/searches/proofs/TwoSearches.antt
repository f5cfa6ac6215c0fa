-- Two accepted searches of one record meet the third condition. Rests on ThirdCondition, SearchAnswers and the machine's theorem, as plain states it of records.
use Rattle.std.specs.Prelude.{◌≡◌, refl, List, ◌↔◌, ℕ, ◌≤◌, ◌<◌}
use Rattle.std.proofs.Common.{arith}
use Rattle.machine.specs.Machine.{Result}
use Rattle.plain.specs.Plain.{record_sequences}
use Rattle.plain.proofs.TwoSearches as plain-searches
use Rattle.searches.specs.Searches.{budget_most, Limits, Answered, settings, search_call}
use Rattle.searches.proofs.Accepting.{accepts}
use Rattle.searches.proofs.SearchAnswers.{answered}
use Rattle.searches.specs.ThirdCondition.{ThirdCondition}

-- positive is not 0
not_zero : {A : Type 0} (a b : ℕ) → A ↔ ((0 < a) × (0 < b)) → A ↔ ((a ≡ 0 → ⊥) × (b ≡ 0 → ⊥))
not_zero a b e = (λ x. let h = e.0 x in (λ q. omega (arith, h.0), λ q. omega (arith, h.1)), λ h. e.1 (omega (arith, h.0), omega (arith, h.1)))

-- THE THIRD CONDITION, of any two accepted searches
pub third_condition : (bytes : List ℕ) (rule : ℕ) (S T : Limits) (words words' : ℕ) (r s : Result)
    → search_call bytes words rule S ≡ Answered r → search_call bytes words' rule T ≡ Answered s → ThirdCondition bytes rule S T words words' r s
third_condition bytes rule S T words words' r s e f =
    let a = answered bytes words rule S r e in
    let b = answered bytes words' rule T s f in
    let h = plain-searches.two_searches rule bytes (settings words S) (settings words' T) (accepts _ _ _ _ a.0).range (accepts _ _ _ _ b.0).range in
    rw (a.1, b.1)
    (record {
      first_machine = refl;
      second_machine = refl;
      first_true = h.first.true_value;
      first_false = h.first.false_value;
      second_true = h.second.true_value;
      second_false = h.second.false_value;
      alike = λ i y p l g. h.alike (record { interval = i; pool = p; limit = l; budget = g }) y;
      first_unknown = not_zero _ _ h.first.unknown;
      second_unknown = not_zero _ _ h.second.unknown;
      first_decided = h.first.decided;
      second_decided = h.second.decided;
    })

-- An accepted budget is at least N only where N is in the budget's range: of a larger N `first_decided` and `second_decided` say nothing
pub budgets_of_N : (bytes : List ℕ) (words rule : ℕ) (L : Limits) (r : Result) → search_call bytes words rule L ≡ Answered r → record_sequences bytes ≤ L.budget
    → record_sequences bytes ≤ budget_most
budgets_of_N bytes words rule L r e l = omega (arith, l, (accepts _ _ _ _ (answered bytes words rule L r e).0).budget_at_most)
