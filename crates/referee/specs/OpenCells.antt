-- What check 16 counts: the empty cells in boards in play, whatever the target, in a finished position too. Rests on the rules.
use Rattle.std.specs.Prelude.{Bool, ◌&&◌, List, ℕ, eqb, length}
use Rattle.rules.specs.Rules.{Position, code, board_states, board_of, cell_at, keep, every_move}

-- The move's board is in play, and its cell is empty.
abbrev pub open_cell : Position → List ℕ → ℕ → Bool
open_cell p states m = eqb (code states (board_of m)) 0 && eqb (cell_at p.cells m) 0

unfoldable pub open_cells : Position → ℕ
open_cells p = let states : List ℕ = board_states p.cells in length (keep (open_cell p states) every_move)
