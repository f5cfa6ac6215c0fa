-- The five errors of a move, in the two parts in which the code looks for them, and that none has the number 0. Rests on the rules and Numbers.
use Rattle.std.specs.Prelude.{ℕ, ◌+◌, ◌*◌, ◌≡◌, true, false, cond, not, ◌&&◌, eqb, ltb, Result, Err}
use Rattle.std.proofs.Common.{sym, ap, ◌∙◌, arith, ltb-true}
use Rattle.rules.specs.Rules.{Position, code, board_states, game_state, board_of, cell_of, leads, move_error}
use Rattle.rules.proofs.Tests.{both_true}
use Rattle.rules.proofs.Boards.{code_states}
use Rattle.game.specs.Numbers.{error_number, result_number}
use Rattle.game.specs.declared.MoveError.{MoveError}
use Rattle.game.specs.declared.MoveError.TheVariants.{OutOfBounds, GameOver, WonBoard, WrongBoard, NotEmpty}

-- the errors of cell c of board b, in a game in play
abbrev pub cell_error : Position → ℕ → ℕ → ℕ
cell_error p b c =
    cond (not (eqb (code (board_states p.cells) b) 0)) 13
    (cond (not (leads p.target b)) 14
    (cond (not (eqb (code p.cells (b * 9 + c)) 0)) 15 0))

module _ (p : Position) (m : ℕ) where
  pub error_out : (ltb (board_of m) 9 && ltb (cell_of m) 9) ≡ false → move_error p m ≡ 11
  unfolding move_error
  error_out e = rw e

  pub error_over : (ltb (board_of m) 9 && ltb (cell_of m) 9) ≡ true → eqb (game_state p) 0 ≡ false → move_error p m ≡ 12
  unfolding move_error
  error_over e f = rw (e, f)

  pub error_cell : (ltb (board_of m) 9 && ltb (cell_of m) 9) ≡ true → eqb (game_state p) 0 ≡ true → move_error p m ≡ cell_error p (board_of m) (cell_of m)
  unfolding move_error
  error_cell e f =
      rw (e, f, code_states p.cells (board_of m) (ltb-true (board_of m) 9 (both_true (ltb (board_of m) 9) (ltb (cell_of m) 9) e).0))

-- an error's number is not 0
pub error_number_some : (e : MoveError) → error_number e ≡ 0 → ⊥
error_number_some OutOfBounds q = omega arith
error_number_some GameOver q = omega arith
error_number_some WonBoard q = omega arith
error_number_some WrongBoard q = omega arith
error_number_some NotEmpty q = omega arith

pub err_number : {A : Type 0} (r : Result A MoveError) (e : MoveError) → r ≡ Err e → result_number r ≡ 0 → ⊥
err_number r e q z = error_number_some e (sym (ap result_number q) ∙ z)
