-- Laws of specs/Accepting.antt. What the checks of a search tell: one that is not refused has a record that loads and numbers within their ranges, and that is what the search asks for.
-- Rests on Searches, calls' Refusing and pn's Searchable.
use Rattle.std.specs.Prelude.{◌≡◌, Bool, not, List, [], ◌∷◌, ℕ, ◌≤◌, ltb, length}
use Rattle.std.proofs.Common.{sym, ◌∙◌, arith, le-ltb}
use Rattle.rules.specs.Record.{position_of, refusal, Accepted}
use Rattle.rules.proofs.Checks.{loads, loads_accepted}
use Rattle.rules.specs.Refusals.{refuses, first_refusal}
use Rattle.rules.proofs.RefusalLaws.{none_refuses, first_refuses, rest_refuses, passes_need}
use Rattle.calls.proofs.Refusing.{passes_test}
use Rattle.game.specs.Words.{Holds}
use Rattle.pn.specs.Searches.{Searchable}
use Rattle.stay.specs.Margin.{stay_in_range}
use Rattle.calls.specs.Calls.{last_rule}
use Rattle.searches.specs.Searches.{Limits, pool_least, pool_most, interval_least, interval_most, budget_most, nodes, search_refusal}
use Rattle.searches.specs.Accepting.{Accepts, Passed}

pub accepts : (bytes : List ℕ) (words rule : ℕ) (L : Limits) → search_refusal bytes (nodes words) rule L ≡ 0 → Accepts bytes words rule L
unfolding search_refusal
accepts bytes words rule L e =
    let record_loads = none_refuses _ _ e in
    let pool_at_least = passes_test 7 _ _ _ record_loads.1 in
    let pool_at_most = passes_test 8 _ _ _ pool_at_least.1 in
    let rule_most = passes_test 9 _ _ _ pool_at_most.1 in
    let interval_at_least = passes_test 9 _ _ _ rule_most.1 in
    let interval_at_most = passes_test 9 _ _ _ interval_at_least.1 in
    let budget_at_most = passes_test 9 _ _ _ interval_at_most.1 in
    record {
      loads = record_loads.0;
      range = record { some = pool_at_least.0; most = pool_at_most.0 };
      rule_most = rule_most.0;
      interval_at_least = interval_at_least.0;
      interval_at_most = interval_at_most.0;
      budget_at_most = budget_at_most.0;
      stay_is_in_range = passes_need 20 _ (none_refuses _ _ budget_at_most.1).0;
    }

-- the record's checks, and the others after them
module _ (bytes : List ℕ) (capacity rule : ℕ) (L : Limits) where
  pub accept_record : (n : ℕ) → n ≡ refusal bytes → (n ≡ 0 → ⊥) → n ≡ search_refusal bytes capacity rule L
  unfolding search_refusal
  accept_record n e z = rw (← e) (sym (first_refuses n _ z))

  pub accept_late : refusal bytes ≡ 0 → (n : ℕ) (in_range : Bool) → in_range ≡ stay_in_range L.stay
      → n ≡ first_refusal (
      refuses 8 (ltb capacity pool_least) ∷ refuses 9 (ltb pool_most capacity) ∷ refuses 10 (ltb last_rule rule) ∷ refuses 10 (ltb L.interval interval_least)
      ∷ refuses 10 (ltb interval_most L.interval) ∷ refuses 10 (ltb budget_most L.budget) ∷ refuses 21 (not in_range) ∷ []
      )
      → n ≡ search_refusal bytes capacity rule L
  unfolding search_refusal
  accept_late loaded n in_range es en = en ∙ rw es (sym (rest_refuses (refusal bytes) _ loaded))

-- the checks of a pool whose capacity has been counted
pub of_pool : (bytes : List ℕ) (capacity words rule : ℕ) (L : Limits) (n : ℕ) → n ≡ search_refusal bytes capacity rule L → capacity ≡ nodes words
    → n ≡ search_refusal bytes (nodes words) rule L
of_pool bytes capacity words rule L n e q = rw (e, q)

module _ {bytes g : List ℕ} {rule : ℕ} (words : ℕ) (L : Limits) where
  pub passed_all : {capacity n : ℕ} → n ≡ search_refusal bytes capacity rule L → capacity ≡ nodes words → n ≡ 0 → Holds (position_of bytes) g 0 → Passed bytes g words rule L
  passed_all e q z h = record { holds = h; none = sym (of_pool bytes _ words rule L _ e q) ∙ z }

  pub passed_accepted : Passed bytes g words rule L → Accepted (position_of bytes)
  passed_accepted h = loads_accepted bytes (loads bytes (accepts bytes words rule L h.none).loads)

-- the checks are the same under each of the rules
pub passed_rule : {bytes g : List ℕ} {words words' : ℕ} {L : Limits} (rule : ℕ) → rule ≤ last_rule → words' ≡ words → Passed bytes g words 0 L → Passed bytes g words' rule L
unfolding search_refusal
passed_rule rule l e h = record { holds = h.holds; none = rw (le-ltb last_rule rule l, e) h.none }

-- what the search asks for, once every check is passed
pub to_search : (bytes g w : List ℕ) (rule : ℕ) (L : Limits) → Passed bytes g (length w) rule L
    → Searchable g w (record { rule = rule; limit = L.limit; budget = L.budget; interval = L.interval; stay = L.stay })
to_search bytes g w rule L h =
    let a = accepts bytes (length w) rule L h.none in
    record {
      startable = record {
        pos = position_of bytes;
        holds = h.holds;
        accepted = passed_accepted (length w) L h;
        some = omega (arith, a.range.some);
        few = omega (arith, a.range.most);
      };
      ranges = record {
        some = omega (arith, a.range.some);
        few = omega (arith, a.range.most);
        interval_some = omega (arith, a.interval_at_least);
        countable = omega (arith, a.budget_at_most);
        rule_few = omega (arith, a.rule_most);
        stay_is_in_range = a.stay_is_in_range;
      };
    }
