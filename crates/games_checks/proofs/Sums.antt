-- The loop over the shares: what it has added up, and its end. Rests on Sums and Checks.
use Rattle.std.specs.Prelude.{◌≡◌, refl, List, ◌∷◌, ℕ, suc, ◌+◌, ◌*◌, ◌-◌, ◌≤◌, ◌<◌, None, Some, ltb, length, get_or, take}
use Rattle.std.proofs.Common.{ap, ◌∙◌, arith, add-one, lt-ltb, le-ltb}
use Rattle.std.proofs.lemmas.List.{get_or-take, length-take-le}
use Rattle.rules.specs.Rules.{answers, any}
use Rattle.passes.specs.Passes.{total}
use Rattle.searches.specs.Searches.{budget_most}
use Rattle.games_checks.specs.Checks.{shares_of}
use Rattle.games_checks.specs.Sums.{sum_within}

-- n shares, from share i on
abbrev from : (shares : List ℕ) (n i : ℕ) → List ℕ
from shares n i = answers (λ k. get_or shares k 0) i (n - i)

-- the first i of n shares are within the range and add up to this
pub record Summing (shares : List ℕ) (n i sum : ℕ) : Type 0 where
  pub low : i ≤ n
  pub any_is : any (ltb budget_most) (shares_of shares n) ≡ any (ltb budget_most) (from shares n i)
  pub total_is : total (shares_of shares n) ≡ sum + total (from shares n i)
  pub most : sum ≤ i * budget_most

pub summing_start : (shares : List ℕ) (n : ℕ) → Summing shares n 0 0
summing_start shares n =
    let z : n ≡ n - 0 = omega arith in
    record { low = omega arith; any_is = ap (λ m. any (ltb budget_most) (answers (λ k. get_or shares k 0) 0 m)) z; total_is = rw (← z) (omega arith); most = omega arith }

module _ (shares : List ℕ) (n i sum : ℕ) (h : Summing shares n i sum) (long : n ≤ length shares) (l : i < length (take n shares)) where
  within : i < n
  within = omega (arith, l, length-take-le n shares long)

  same : get_or (take n shares) i 0 ≡ get_or shares i 0
  same = get_or-take n shares i 0 within

  next : from shares n i ≡ get_or (take n shares) i 0 ∷ from shares n (i + 1)
  next = let w : i < n = within in let k : n - i ≡ suc (n - suc i) = omega arith in rw (k, add-one, same) refl

  pub summing_above : budget_most < get_or (take n shares) i 0 → None ≡ sum_within (shares_of shares n)
  summing_above a = rw (h.any_is, next, lt-ltb budget_most (get_or (take n shares) i 0) a) refl

  pub summing_next : get_or (take n shares) i 0 ≤ budget_most → Summing shares n (i + 1) (sum + get_or (take n shares) i 0)
  unfolding total
  summing_next a = record {
    low = omega (arith, within);
    any_is = h.any_is ∙ rw (next, le-ltb budget_most (get_or (take n shares) i 0) a) refl;
    total_is = h.total_is ∙ rw next (omega arith);
    most = omega (arith, h.most);
  }

pub summing_done : (shares : List ℕ) (n i sum : ℕ) → Summing shares n i sum → n ≤ length shares → length (take n shares) ≤ i → Some sum ≡ sum_within (shares_of shares n)
unfolding total
summing_done shares n i sum h long l =
    let z : n - i ≡ 0 = omega (arith, length-take-le n shares long) in
    let t : total (shares_of shares n) ≡ sum = h.total_is ∙ rw z (omega arith) in
    rw (h.any_is, z, t) refl
