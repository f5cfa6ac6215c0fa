-- Computed cases of the two passes, on games that are solved, or stopped by their pool or limit, after so many expansions. Rests on Passes.
use Rattle.std.specs.Prelude.{◌≡◌, refl, cond, List, [], ◌∷◌, ℕ, ltb, length, get_or}
use Rattle.rules.specs.Rules.{answers}
use Rattle.machine.specs.Machine.{True, Unknown, fields}
use Rattle.passes.specs.Passes.{OneGame, total, unspent_at, grant_at, result_at}

-- A game that is solved with so many expansions; one that its pool stops there, or its limit.
abbrev stopping : (share after : ℕ) → ℕ → OneGame
stopping share after cause = record { share = share; search = λ b. cond (ltb b after) (fields Unknown 1 1 1 0 0 0 b 1) (fields Unknown 1 1 1 0 0 0 after cause) }

abbrev solved : (share after : ℕ) → OneGame
solved share after = record { share = share; search = λ b. cond (ltb b after) (fields Unknown 1 1 1 0 0 0 b 1) (fields True 0 1 1 0 1 0 after 0) }

abbrev short : (share after : ℕ) → OneGame
short share after = stopping share after 2

abbrev over : (share after : ℕ) → OneGame
over share after = stopping share after 3

-- The grants of some games, and what each expands.
abbrev games : List OneGame → ℕ → OneGame
games gs i = get_or gs i (solved 0 0)

abbrev grants : (allowance : ℕ) → List OneGame → List ℕ
grants a gs = answers (grant_at (games gs) a (length gs)) 0 (length gs)

abbrev expanded : (allowance : ℕ) → List OneGame → List ℕ
expanded a gs = answers (λ i. (result_at (games gs) a (length gs) i).expanded) 0 (length gs)

-- Each field is a case.
pub record PassesCases : Type 0 where
  -- one game gets the whole allowance, and stops where it is solved
  pub alone : (grants 7 (solved 3 10 ∷ []) ≡ 7 ∷ []) × (expanded 7 (solved 3 10 ∷ []) ≡ 7 ∷ [])
  pub alone_solved : (grants 20 (solved 3 10 ∷ []) ≡ 20 ∷ []) × (expanded 20 (solved 3 10 ∷ []) ≡ 10 ∷ [])
  -- the first game that its budget stopped takes all that is unspent, and the next ones what it leaves
  pub takes_all : grants 100 (solved 5 200 ∷ solved 10 1 ∷ solved 5 200 ∷ []) ≡ 94 ∷ 10 ∷ 5 ∷ []
  pub gives_back : (grants 100 (solved 5 20 ∷ solved 10 1 ∷ solved 5 200 ∷ []) ≡ 94 ∷ 10 ∷ 79 ∷ []) × (expanded 100 (solved 5 20 ∷ solved 10 1 ∷ solved 5 200 ∷ []) ≡ 20 ∷ 1 ∷ 79 ∷ [])
  -- shares that sum to the allowance: nothing is left, unless a game needs less than its share
  pub exact : grants 20 (solved 5 200 ∷ solved 10 200 ∷ solved 5 200 ∷ []) ≡ 5 ∷ 10 ∷ 5 ∷ []
  pub exact_with_rest : grants 20 (solved 5 200 ∷ solved 10 3 ∷ solved 5 200 ∷ []) ≡ 12 ∷ 10 ∷ 5 ∷ []
  -- shares of 0, and an allowance of 0
  pub share_0 : (grants 10 (solved 0 4 ∷ solved 0 200 ∷ []) ≡ 10 ∷ 6 ∷ []) × (expanded 10 (solved 0 4 ∷ solved 0 200 ∷ []) ≡ 4 ∷ 6 ∷ [])
  pub nothing : (grants 0 (solved 0 4 ∷ solved 0 0 ∷ []) ≡ 0 ∷ 0 ∷ []) × (expanded 0 (solved 0 4 ∷ solved 0 0 ∷ []) ≡ 0 ∷ 0 ∷ [])
  -- a game that its pool or its limit stopped in the first pass does not go on; in the second pass it leaves the rest
  pub not_on : grants 100 (short 5 3 ∷ over 5 3 ∷ solved 5 200 ∷ []) ≡ 5 ∷ 5 ∷ 94 ∷ []
  pub stopped_later : (grants 100 (short 5 30 ∷ over 5 40 ∷ solved 5 200 ∷ []) ≡ 90 ∷ 65 ∷ 30 ∷ []) × (expanded 100 (short 5 30 ∷ over 5 40 ∷ solved 5 200 ∷ []) ≡ 30 ∷ 40 ∷ 30 ∷ [])
  -- the same game twice
  pub twice : expanded 30 (solved 5 12 ∷ solved 5 12 ∷ []) ≡ 12 ∷ 12 ∷ []

pub passes_cases : PassesCases
unfolding total unspent_at
passes_cases = record {
  alone = (refl, refl);
  alone_solved = (refl, refl);
  takes_all = refl;
  gives_back = (refl, refl);
  exact = refl;
  exact_with_rest = refl;
  share_0 = (refl, refl);
  nothing = (refl, refl);
  not_on = refl;
  stopped_later = (refl, refl);
  twice = refl;
}
