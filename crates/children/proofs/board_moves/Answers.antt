-- `children::board_moves` meets its contract: a board has nine cells. Assumes nothing.
use native.Mathlib.Omega.{arith}
use lib.Count.{ones-le}
use Rattle.children.proofs.board_moves.Goals as goal

pub returns-clause-upper_bound : goal.returns-clause-upper_bound
returns-clause-upper_bound c = ones-le 9 _ (omega arith)
