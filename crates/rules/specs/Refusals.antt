-- Checks in their order: a list with a number for each check, its own where it turns the call back and 0 where it passes. The first that isn't 0 counts.
use Rattle.std.specs.Prelude.{Bool, cond, List, [], ◌∷◌, ℕ, zero, suc}

-- A check's number, if what it looks for is so; otherwise 0.
abbrev pub refuses : ℕ → Bool → ℕ
refuses n wrong = cond wrong n 0

-- The first number that isn't 0; 0 if every check passes.
unfoldable pub first_refusal : List ℕ → ℕ
first_refusal [] = 0
first_refusal (zero ∷ ns) = first_refusal ns
first_refusal (suc n ∷ ns) = suc n
