-- The laws can be met, and the theorems then say something: heaps obeys them, and a computed True of the machine is its value. Rests on Cases and Standard.
use Rattle.std.specs.Prelude.{◌≡◌, refl, Bool, true, false, not, ℕ, zero, suc, ◌-◌, ◌<◌}
use mathlib.Core.List.Memᴰ
use mathlib.Core.List.{[], ◌∷◌, Memᴰ}
use Rattle.std.specs.Bool.{beq}
use Rattle.std.proofs.Common.{arith}
use Rattle.machine.specs.Game.{value}
use Rattle.machine.specs.Machine.{off}
use Rattle.machine.specs.Compute.{settings}
use Rattle.machine.proofs.Cases.{takes, heaps, nim}
use Rattle.machine.specs.Value.{Distinct}
use Rattle.machine.proofs.Value.{Lawful}
use Rattle.machine.proofs.Reached.{PoolInRange}
use Rattle.machine.proofs.Standard.{third_standard}

heaps_distinct : (n : ℕ) → Distinct (takes n)
unfolding takes
heaps_distinct zero = tt
heaps_distinct (suc zero) = (Memᴰ.not-nil, tt)
heaps_distinct (suc (suc n)) = (λ i. other i, (Memᴰ.not-nil, tt))
  where
    other : Memᴰ {A = ℕ} 1 (2 ∷ []) → ⊥
    other (Memᴰ.head e) = omega arith
    other (Memᴰ.tail i) = Memᴰ.not-nil i

heaps_lawful : (side : Bool) (x_wins : Bool → Bool) → Lawful (heaps side x_wins)
unfolding takes
heaps_lawful side x_wins = record { falls = λ p m i. falls p.at m i; turns = λ p m i. turns p.x side; distinct = λ p. heaps_distinct p.at }
  where
    falls : (n m : ℕ) → Memᴰ m (takes n) → n - m < n
    falls zero m i = absurd (Memᴰ.not-nil i)
    falls (suc zero) m (Memᴰ.head e) = omega arith
    falls (suc zero) m (Memᴰ.tail i) = absurd (Memᴰ.not-nil i)
    falls (suc (suc n)) m (Memᴰ.head e) = omega arith
    falls (suc (suc n)) m (Memᴰ.tail (Memᴰ.head e)) = omega arith
    falls (suc (suc n)) m (Memᴰ.tail (Memᴰ.tail i)) = absurd (Memᴰ.not-nil i)

    turns : (a b : Bool) → beq (not a) b ≡ not (beq a b)
    turns true true = refl
    turns true false = refl
    turns false true = refl
    turns false false = refl

-- By the third condition, from the machine's answer
nim_5 : value (heaps true (λ x. not x)) (record { at = 5; x = true }) ≡ true
unfolding nim
nim_5 = (third_standard (heaps true (λ x. not x)) (heaps_lawful true (λ x. not x)) off (record { at = 5; x = true }) refl (settings 20 20 20 2) (settings 20 20 20 2) in_range in_range).first.true_value refl
  where
    in_range : PoolInRange (settings 20 20 20 2)
    in_range = record { some = omega arith; most = omega arith }
