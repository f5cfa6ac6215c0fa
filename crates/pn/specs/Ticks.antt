-- The counter that starts at the interval: it stands at 1 before every interval-th expansion. Rests on numbers alone.
use Rattle.std.specs.Prelude.{◌≡◌, true, false, ℕ, suc, ◌+◌, ◌-◌, ◌%◌, ◌<◌, eqb}
use Rattle.std.proofs.Common.{ap, ◌∙◌, mod-lt, mod-eq_of_lt, arith, eq-eqb, ne_eqb}
use Rattle.std.proofs.Math.Nat.{suc-mod, mod_self, zero-mod}

-- what is left to the next interval-th expansion, after so many
abbrev pub Ticks : (interval expanded tick : ℕ) → Type 0
Ticks i e t = t + e % i ≡ i

module _ (i e t : ℕ) (pos : 0 < i) (h : Ticks i e t) where
  below : e % i < i
  below = mod-lt e pos

  pub tick_some : 0 < t
  tick_some = omega (arith, below)

  -- at 1 the next expansion is an interval-th one, and the counter starts again
  at_one : t ≡ 1 → suc e % i ≡ 0
  at_one q = let r : suc (e % i) ≡ i = omega arith in suc-mod e i ∙ ap (λ n. n % i) r ∙ mod_self i

  pub tick_due : t ≡ 1 → eqb (suc e % i) 0 ≡ true
  tick_due q = eq-eqb (suc e % i) 0 (at_one q)

  pub tick_again : t ≡ 1 → Ticks i (suc e) i
  tick_again q = omega (arith, at_one q)

  -- otherwise it is not
  on : (t ≡ 1 → ⊥) → suc e % i ≡ suc (e % i)
  on n = let l : suc (e % i) < i = omega (arith, below, tick_some) in suc-mod e i ∙ mod-eq_of_lt l

  pub tick_not_due : (t ≡ 1 → ⊥) → eqb (suc e % i) 0 ≡ false
  tick_not_due n = ne_eqb (suc e % i) 0 (λ q. omega (arith, on n))

  pub tick_next : (t ≡ 1 → ⊥) → Ticks i (suc e) (t - 1)
  tick_next n = omega (arith, on n, tick_some)

pub tick_start : (i : ℕ) → Ticks i 0 i
tick_start i = omega (arith, zero-mod i)
