-- A legal move: playing it is none of the five errors. The facts that this stands for, by name. Rests on Rules and Tests.
use Rattle.std.specs.Prelude.{true, ◌≡◌, ℕ, ◌<◌}
use Rattle.rules.specs.Rules.{Position, state, board, game_state, board_of, cell_of, leads, cell_at}

pub record Legal (p : Position) (m : ℕ) : Type 0 where
  -- not OutOfBounds
  pub board_in : board_of m < 9
  pub cell_in : cell_of m < 9
  -- not GameOver
  pub unfinished : game_state p ≡ 0
  -- not WonBoard
  pub board_open : state (board p.cells (board_of m)) ≡ 0
  -- not WrongBoard
  pub led : leads p.target (board_of m) ≡ true
  -- not NotEmpty
  pub cell_empty : cell_at p.cells m ≡ 0
