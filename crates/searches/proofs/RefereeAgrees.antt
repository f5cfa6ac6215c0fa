-- The referee and every search that answers agree, as the two calls answer. Rests on calls' Turned, on SearchAnswers and on the referee's law.
use Rattle.std.specs.Prelude.{◌≡◌, refl, Bool, true, false, cond, List, ◌⊎◌, ℕ}
use Rattle.std.proofs.Common.{ap, sym, ◌∙◌, inl, inr}
use Rattle.machine.specs.Machine.{Result, True, False, Unknown}
use Rattle.prove.specs.Numbers.{verdict_number}
use Rattle.plain.specs.Plain.{record_value, plain_search}
use Rattle.referee.specs.Agrees.{agrees}
use Rattle.calls.specs.Calls.{referee_call}
use Rattle.calls.proofs.Turned.{referee_value}
use Rattle.searches.specs.Searches.{Limits, nodes, settings, search_refusal, Answered, search_call}
use Rattle.searches.proofs.Accepting.{accepts}
use Rattle.searches.proofs.SearchAnswers.{answered}

number_of_value : (v : Bool) → verdict_number (cond v True False) ≡ cond v 1 2
number_of_value true = refl
number_of_value false = refl

-- A search of a record that the referee takes is Unknown, or its verdict's number is the referee's value.
pub referee_agrees : (bytes : List ℕ) (words rule : ℕ) (L : Limits) (r : Result) → (referee_call bytes rule).number ≡ 0 → search_call bytes words rule L ≡ Answered r
    → (r.verdict ≡ Unknown → ⊥) → verdict_number r.verdict ≡ (referee_call bytes rule).value
referee_agrees bytes words rule L r taken e known = go (agrees rule bytes (settings words L) (accepts bytes words rule L a.0).range (record_value rule bytes) refl)
  where
    a : (search_refusal bytes (nodes words) rule L ≡ 0) × (r ≡ plain_search rule (settings words L) bytes)
    a = answered bytes words rule L r e

    same : r.verdict ≡ (plain_search rule (settings words L) bytes).verdict
    same = ap (λ (x : Result). x.verdict) a.1

    go : ((plain_search rule (settings words L) bytes).verdict ≡ Unknown) ⊎ ((plain_search rule (settings words L) bytes).verdict ≡ cond (record_value rule bytes) True False)
        → verdict_number r.verdict ≡ (referee_call bytes rule).value
    go (inl u) = absurd (known (same ∙ u))
    go (inr v) = ap verdict_number (same ∙ v) ∙ number_of_value (record_value rule bytes) ∙ sym (referee_value bytes rule taken)
