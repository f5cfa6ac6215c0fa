-- Laws of lists of checks: what a list that refuses nothing tells of each check, and which check of a list refuses. Rests on Refusals.
use Rattle.std.specs.Prelude.{◌≡◌, refl, Bool, true, false, not, List, [], ◌∷◌, ◌++◌, ℕ, zero, suc}
use Rattle.std.proofs.Common.{arith}
use Rattle.rules.specs.Refusals.{refuses, first_refusal}

-- a list refuses nothing exactly if its first check passes and the others refuse nothing
pub none_refuses : (n : ℕ) (ns : List ℕ) → first_refusal (n ∷ ns) ≡ 0 → (n ≡ 0) × (first_refusal ns ≡ 0)
unfolding first_refusal
none_refuses zero ns e = (refl, e)
none_refuses (suc n) ns e = absurd (omega arith)

-- the first check refuses, or else the rest decides
pub first_refuses : (n : ℕ) (ns : List ℕ) → (n ≡ 0 → ⊥) → first_refusal (n ∷ ns) ≡ n
unfolding first_refusal
first_refuses zero ns z = absurd (z refl)
first_refuses (suc n) ns z = refl

pub rest_refuses : (n : ℕ) (ns : List ℕ) → n ≡ 0 → first_refusal (n ∷ ns) ≡ first_refusal ns
unfolding first_refusal
rest_refuses zero ns e = refl
rest_refuses (suc n) ns e = absurd (omega arith)

-- checks that come after the same one
pub same_first : (n : ℕ) (ns ms : List ℕ) → first_refusal ns ≡ first_refusal ms → first_refusal (n ∷ ns) ≡ first_refusal (n ∷ ms)
unfolding first_refusal
same_first zero ns ms e = e
same_first (suc n) ns ms e = refl

-- a check with the number that the rest refuses by decides nothing
pub same_number : (n : ℕ) (wrong : Bool) (ns : List ℕ) → first_refusal ns ≡ n → first_refusal (refuses n wrong ∷ ns) ≡ n
unfolding first_refusal
same_number n false ns e = e
same_number zero true ns e = e
same_number (suc n) true ns e = refl

-- a list as the first check of another
pub nested : (ns ms : List ℕ) → first_refusal (first_refusal ns ∷ ms) ≡ first_refusal (ns ++ ms)
unfolding first_refusal
nested [] ms = refl
nested (zero ∷ ns) ms = nested ns ms
nested (suc n ∷ ns) ms = refl

-- the last check of a list has the last word
pub last_refuses : (n : ℕ) → first_refusal (n ∷ []) ≡ n
unfolding first_refusal
last_refuses zero = refl
last_refuses (suc n) = refl

-- a check after all others: it refuses where these refuse nothing, and where it passes it changes nothing
pub last_check : (ns : List ℕ) (x : ℕ) → first_refusal ns ≡ 0 → first_refusal (ns ++ (x ∷ [])) ≡ x
unfolding first_refusal
last_check [] x e = last_refuses x
last_check (zero ∷ ns) x e = last_check ns x e
last_check (suc n ∷ ns) x e = absurd (omega arith)

pub others_first : (ns : List ℕ) (x n : ℕ) → first_refusal ns ≡ suc n → first_refusal (ns ++ (x ∷ [])) ≡ suc n
unfolding first_refusal
others_first [] x n e = absurd (omega arith)
others_first (zero ∷ ns) x n e = others_first ns x n e
others_first (suc k ∷ ns) x n e = e

pub passes_last : (ns : List ℕ) → first_refusal (ns ++ (0 ∷ [])) ≡ first_refusal ns
unfolding first_refusal
passes_last [] = refl
passes_last (zero ∷ ns) = passes_last ns
passes_last (suc n ∷ ns) = refl

-- a list that ends with a refusal refuses
pub end_refuses : (ns : List ℕ) (n : ℕ) → first_refusal (ns ++ (suc n ∷ [])) ≡ 0 → ⊥
unfolding first_refusal
end_refuses [] n e = omega arith
end_refuses (zero ∷ ns) n e = end_refuses ns n e
end_refuses (suc k ∷ ns) n e = omega arith

-- a check that passes: what it looks for isn't so, or what it asks for is
pub passes_check : (n : ℕ) (wrong : Bool) → refuses (suc n) wrong ≡ 0 → wrong ≡ false
passes_check n true e = absurd (omega arith)
passes_check n false e = refl

pub passes_need : (n : ℕ) (right : Bool) → refuses (suc n) (not right) ≡ 0 → right ≡ true
passes_need n true e = refl
passes_need n false e = absurd (omega arith)
