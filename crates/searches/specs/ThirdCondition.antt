-- The third condition: one statement about two searches of one record under one rule, with their settings, the lengths of their pools in words, and their
-- results. Rests on Searches and on the value, N and plain machine of a record.
use Rattle.std.specs.Prelude.{◌≡◌, true, false, List, ◌↔◌, ℕ, ◌≤◌}
use Rattle.machine.specs.Machine.{Result, True, False, Unknown}
use Rattle.plain.specs.Plain.{record_value, record_sequences, plain_search}
use Rattle.stay.specs.Margin.{stay_of}
use Rattle.searches.specs.Searches.{Limits, nodes, settings}

pub record ThirdCondition (bytes : List ℕ) (rule : ℕ) (S T : Limits) (words words' : ℕ) (r s : Result) : Type 0 where
  -- Each gives the plain machine's result in every field.
  pub first_machine : r ≡ plain_search rule (settings words S) bytes
  pub second_machine : s ≡ plain_search rule (settings words' T) bytes
  -- A True or False is the position's value under the rule.
  pub first_true : r.verdict ≡ True → record_value rule bytes ≡ true
  pub first_false : r.verdict ≡ False → record_value rule bytes ≡ false
  pub second_true : s.verdict ≡ True → record_value rule bytes ≡ true
  pub second_false : s.verdict ≡ False → record_value rule bytes ≡ false
  -- If the first answers, with True or False, and the second has the same interval and setting of staying on a line, and no less pool, limit and
  -- budget, they are alike in every field. The other clauses ask nothing of the setting.
  pub alike : T.interval ≡ S.interval → stay_of T.stay ≡ stay_of S.stay → nodes words ≤ nodes words' → S.limit ≤ T.limit → S.budget ≤ T.budget → (r.verdict ≡ Unknown → ⊥) → s ≡ r
  -- Each is Unknown exactly when neither proof nor disproof is 0.
  pub first_unknown : (r.verdict ≡ Unknown) ↔ ((r.proof ≡ 0 → ⊥) × (r.disproof ≡ 0 → ⊥))
  pub second_unknown : (s.verdict ≡ Unknown) ↔ ((s.proof ≡ 0 → ⊥) × (s.disproof ≡ 0 → ⊥))
  -- With pool, limit and budget at least N it is never Unknown. An accepted budget is at most 3,000,000, and an accepted pool has at most 16,777,216 nodes: so this
  -- is said of N up to 3,000,000, and of no other (`budgets_of_N` of TwoSearches).
  pub first_decided : record_sequences bytes ≤ nodes words → record_sequences bytes ≤ S.limit → record_sequences bytes ≤ S.budget → r.verdict ≡ Unknown → ⊥
  pub second_decided : record_sequences bytes ≤ nodes words' → record_sequences bytes ≤ T.limit → record_sequences bytes ≤ T.budget → s.verdict ≡ Unknown → ⊥
