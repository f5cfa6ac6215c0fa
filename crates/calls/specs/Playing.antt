-- What making moves one after the other comes to: the place that is reached, and why no more are made. Rests on the rules, game's Words and Numbers.
use Rattle.std.specs.Prelude.{◌≡◌, List, ℕ, ◌<◌, length, get_or, take, Result, Ok, Err}
use Rattle.rules.specs.Rules.{Position, move_error, replay}
use Rattle.rules.specs.Rules.Replayed.{Reached}
use Rattle.game.specs.Numbers.{error_number}
use Rattle.game.specs.declared.MoveError.{MoveError}
use Rattle.game.specs.Words.{Holds}
use Rattle.calls.specs.declared.Line.{Line}

-- the first n of the moves ms from p are made, and the words hold the position after them
pub record Place (p : Position) (ms ws : List ℕ) (n : ℕ) : Type 0 where
  pub pos : Position
  pub holds : Holds pos ws 0
  pub made : replay p (take n ms) 0 ≡ Reached pos

-- why no more than n were made: there are no more, or the next one is bad
abbrev pub EndsBy : Position → List ℕ → ℕ → Result (Unit {0}) MoveError → Type 0
EndsBy q ms n (Ok u) = n ≡ length ms
EndsBy q ms n (Err e) = (n < length ms) × (move_error q (get_or ms n 0) ≡ error_number e)

-- the moves ms from p, made up to the first bad one
pub record PlayedBy (p : Position) (ms : List ℕ) (n : ℕ) (ws : List ℕ) (r : Result (Unit {0}) MoveError) : Type 0 where
  pub place : Place p ms ws n
  pub ends : EndsBy place.pos ms n r

abbrev pub Played : Position → List ℕ → Line → Type 0
Played p ms r = PlayedBy p ms r.count r.game.words r.result
