-- The numbers of the code's enums (MANUAL, The game; Record; Turned back). Rests on nothing.
use Rattle.std.specs.Prelude.{ℕ, Result, Ok, Err}
use Rattle.game.specs.declared.Player.{Player}
use Rattle.game.specs.declared.Player.TheVariants.{X, O}
use Rattle.game.specs.declared.CellState.{CellState}
use Rattle.game.specs.declared.CellState.TheVariants.{Empty, Played}
use Rattle.game.specs.declared.GameState.{GameState}
use Rattle.game.specs.declared.GameState.TheVariants.{InPlay, Drawn, Won}
use Rattle.game.specs.declared.MoveError.{MoveError}
use Rattle.game.specs.declared.MoveError.TheVariants.{OutOfBounds, GameOver, WonBoard, WrongBoard, NotEmpty}

-- the side bit of a record
abbrev pub player_number : Player → ℕ
player_number X = 0
player_number O = 1

-- a cell's code
abbrev pub cell_number : CellState → ℕ
cell_number Empty = 0
cell_number (Played X) = 1
cell_number (Played O) = 2

-- the state's number in the rules
abbrev pub state_number : GameState → ℕ
state_number InPlay = 0
state_number (Won X) = 1
state_number (Won O) = 2
state_number Drawn = 3

-- the table of refusals
abbrev pub error_number : MoveError → ℕ
error_number OutOfBounds = 11
error_number GameOver = 12
error_number WonBoard = 13
error_number WrongBoard = 14
error_number NotEmpty = 15

-- a move's error, 0 for none
abbrev pub result_number : {A : Type 0} → Result A MoveError → ℕ
result_number (Ok x) = 0
result_number (Err e) = error_number e
