-- The checks with the code's sum, and what they tell where they refuse nothing. Rests on Checks and Sums.
use Rattle.std.specs.Prelude.{◌≡◌, refl, Bool, true, not, Option, None, Some, List, [], ◌∷◌, ℕ, ◌/◌, ◌%◌, ◌≤◌, ltb, length}
use Rattle.std.specs.Option.{is_some, unwrap_or}
use Rattle.std.proofs.Common.{ap, sym, ◌∙◌, true≢false, eqb-true}
use Rattle.std.proofs.Math.Bool.{false}
use Rattle.rules.specs.Rules.{any}
use Rattle.rules.specs.Refusals.{refuses, first_refusal}
use Rattle.rules.proofs.RefusalLaws.{none_refuses, same_first, passes_need, passes_check}
use Rattle.passes.specs.Passes.{total}
use Rattle.stay.specs.Margin.{stay_in_range, StayInRange}
use Rattle.calls.specs.Calls.{last_rule}
use Rattle.calls.proofs.Refusing.{passes_test}
use Rattle.searches.specs.Searches.{pool_least, pool_most, interval_least, interval_most, budget_most}
use Rattle.games_checks.specs.Checks.{games_least, games_most, games, number_refusal, Common, settings_refusal}
use Rattle.games_checks.specs.Sums.{sum_within}

-- THE SUM that the code has: there is none where a share is above the range
none_true : (b : Bool) → false ≡ not b → b ≡ true
none_true true e = refl
none_true false e = absurd (true≢false (sym e))

none_false : (b : Bool) → true ≡ not b → b ≡ false
none_false true e = absurd (true≢false e)
none_false false e = refl

module _ (shares : List ℕ) (allowance : ℕ) (sum : Option ℕ) (none : Bool) (s : sum ≡ sum_within shares) (n : is_some sum ≡ not none) where
  sum_tells : (b : Bool) → any (ltb budget_most) shares ≡ b
      → (none ≡ any (ltb budget_most) shares) × (none ≡ false → ltb allowance (unwrap_or sum 0) ≡ ltb allowance (total shares))
  sum_tells true e =
      let q : sum ≡ None = s ∙ rw e refl in
      let y : none ≡ true = none_true none (sym (ap is_some q) ∙ n) in
      (y ∙ sym e, λ z. absurd (true≢false (sym y ∙ z)))
  sum_tells false e =
      let q : sum ≡ Some (total shares) = s ∙ rw e refl in
      (none_false none (sym (ap is_some q) ∙ n) ∙ sym e, λ z. ap (λ x. ltb allowance (unwrap_or x 0)) q)

-- the checks with it
pub settings_refuse : (capacity n : ℕ) (shares : List ℕ) (C : Common) (sum : Option ℕ) (none : Bool) → sum ≡ sum_within shares → is_some sum ≡ not none
    → first_refusal (
    refuses 8 (ltb (capacity / n) pool_least)
    ∷ refuses 9 (ltb pool_most capacity)
    ∷ refuses 10 (ltb last_rule C.rule)
    ∷ refuses 10 (ltb C.interval interval_least)
    ∷ refuses 10 (ltb interval_most C.interval)
    ∷ refuses 10 none
    ∷ refuses 10 (ltb budget_most C.allowance)
    ∷ refuses 21 (not (stay_in_range C.stay))
    ∷ refuses 20 (ltb C.allowance (unwrap_or sum 0))
    ∷ []
    ) ≡ settings_refusal capacity n shares C
unfolding settings_refusal
settings_refuse capacity n shares C sum none s e =
    let k = sum_tells shares C.allowance sum none s e (any (ltb budget_most) shares) refl in
    same_first _ _ _ (same_first _ _ _ (same_first _ _ _ (same_first _ _ _ (same_first _ _ _ (go none k.0 k.1)))))
  where
    go : (b : Bool) → b ≡ any (ltb budget_most) shares → (b ≡ false → ltb C.allowance (unwrap_or sum 0) ≡ ltb C.allowance (total shares))
        → let margin = refuses 21 (not (stay_in_range C.stay)) in
        first_refusal (refuses 10 b ∷ refuses 10 (ltb budget_most C.allowance) ∷ margin ∷ refuses 20 (ltb C.allowance (unwrap_or sum 0)) ∷ [])
        ≡ first_refusal (refuses 10 (any (ltb budget_most) shares) ∷ refuses 10 (ltb budget_most C.allowance) ∷ margin ∷ refuses 20 (ltb C.allowance (total shares)) ∷ [])
    go true e s = rw (sym e) (unfold first_refusal in refl)
    go false e s = rw (sym e, s refl)

-- NOTHING REFUSED
pub record Counted (bytes : List ℕ) : Type 0 where
  pub whole : length bytes % 21 ≡ 0
  pub some : games_least ≤ games bytes
  pub few : games bytes ≤ games_most

pub counted : (bytes : List ℕ) → number_refusal bytes ≡ 0 → Counted bytes
unfolding number_refusal
counted bytes e =
    let whole = none_refuses _ _ e in
    let least = passes_test 19 _ _ _ whole.1 in
    let most = passes_test 19 _ _ _ least.1 in
    record { whole = eqb-true (length bytes % 21) 0 (passes_need 0 _ whole.0); some = least.0; few = most.0 }

pub record Settled (capacity n : ℕ) (shares : List ℕ) (C : Common) : Type 0 where
  pub part_some : pool_least ≤ capacity / n
  pub pool_at_most : capacity ≤ pool_most
  pub rule_most : C.rule ≤ last_rule
  pub interval_at_least : interval_least ≤ C.interval
  pub interval_at_most : C.interval ≤ interval_most
  pub shares_within : any (ltb budget_most) shares ≡ false
  pub allowance_most : C.allowance ≤ budget_most
  pub stay_is_in_range : StayInRange C.stay
  pub shared : total shares ≤ C.allowance

pub settled : (capacity n : ℕ) (shares : List ℕ) (C : Common) → settings_refusal capacity n shares C ≡ 0 → Settled capacity n shares C
unfolding settings_refusal
settled capacity n shares C e =
    let part = passes_test 7 _ _ _ e in
    let pool = passes_test 8 _ _ _ part.1 in
    let rule = passes_test 9 _ _ _ pool.1 in
    let least = passes_test 9 _ _ _ rule.1 in
    let most = passes_test 9 _ _ _ least.1 in
    let each = none_refuses _ _ most.1 in
    let allowance = passes_test 9 _ _ _ each.1 in
    let margin = none_refuses _ _ allowance.1 in
    let sum = passes_test 19 _ _ _ margin.1 in
    record {
      part_some = part.0;
      pool_at_most = pool.0;
      rule_most = rule.0;
      interval_at_least = least.0;
      interval_at_most = most.0;
      shares_within = passes_check 9 _ each.0;
      allowance_most = allowance.0;
      stay_is_in_range = passes_need 20 _ margin.0;
      shared = sum.0;
    }
