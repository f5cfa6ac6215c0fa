-- The earliest check of some records and the lowest game, as the code finds them: from the last game down; and what a result that may name a game says. Rests on Checks and on
-- the numbers of the refusals.
use Rattle.std.specs.Prelude.{◌≡◌, List, ℕ, ◌+◌, Result, Ok, Err}
use Rattle.refusals.specs.Numbers.{number}
use Rattle.refusals.specs.declared.Refusal.{Refusal}
use Rattle.games_checks.specs.declared.GameRefusal.{GameRefusal}
use Rattle.games_checks.specs.Checks.{earliest, lowest}

-- of the refusals from game i on, the earliest check and the lowest game, counted from 0
pub record EarlyAt (i : ℕ) (ns : List ℕ) (code index : ℕ) : Type 0 where
  pub code_is : code ≡ earliest ns
  pub index_is : (code ≡ 0 → ⊥) → index ≡ i + lowest code ns

-- a refusal that names no game
abbrev pub of_no_game : Refusal → GameRefusal
of_no_game r = record { refusal = r; index = 0 }

-- the number of the check that refuses, and the game that it names; both are 0 without a refusal
abbrev pub game_code : {A : Type 0} → Result A GameRefusal → ℕ
game_code (Ok a) = 0
game_code (Err e) = number e.refusal

abbrev pub game_index : {A : Type 0} → Result A GameRefusal → ℕ
game_index (Ok a) = 0
game_index (Err e) = e.index
