-- Laws of checks and answers: what a list that refuses nothing tells, and the answer by the check that refuses. Rests on the rules' Refusals and their laws, and
-- on Calls.
use Rattle.std.specs.Prelude.{◌≡◌, refl, List, ◌∷◌, ℕ, zero, suc, ◌≤◌, ltb}
use Rattle.std.proofs.Common.{ltb-false}
use Rattle.rules.specs.Refusals.{refuses, first_refusal}
use Rattle.rules.proofs.RefusalLaws.{none_refuses, passes_check}
use Rattle.calls.specs.Calls.{answer_unless}

-- a list that refuses nothing: b is not above a, and the rest refuses nothing
pub passes_test : (k a b : ℕ) (ns : List ℕ) → first_refusal (refuses (suc k) (ltb a b) ∷ ns) ≡ 0 → (b ≤ a) × (first_refusal ns ≡ 0)
passes_test k a b ns e = let h = none_refuses (refuses (suc k) (ltb a b)) ns e in (ltb-false a b (passes_check k (ltb a b) h.0), h.1)

-- the answer, by the number of the check
module _ {A : Type 0} (refused : ℕ → A) (answer : A) where
  pub refused_by : (n k : ℕ) → n ≡ k → (n ≡ 0 → ⊥) → refused n ≡ answer_unless k refused answer
  refused_by zero k e z = absurd (z refl)
  refused_by (suc n) k e z = rw (← e)

  pub passed_all : (k : ℕ) → k ≡ 0 → answer ≡ answer_unless k refused answer
  passed_all k e = rw e

-- a fact of the answer, by the number of the check
pub by_number : {A : Type 0} (P : A → Type 0) (n : ℕ) (refused : ℕ → A) (answer : A) → ((m : ℕ) → n ≡ suc m → P (refused (suc m))) → (n ≡ 0 → P answer) → P (answer_unless n refused answer)
by_number P zero refused answer p q = q refl
by_number P (suc n) refused answer p q = p n refl
