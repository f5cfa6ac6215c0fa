-- Laws of specs/Legal.antt. A legal move: playing it is none of the five errors. The facts that this stands for, by name. Rests on Rules and Tests.
use Rattle.std.specs.Prelude.{◌&&◌, ◌≡◌, ℕ, eqb, ltb}
use Rattle.std.proofs.Common.{ltb-true, eqb-true, lt-ltb}
use Rattle.rules.specs.Rules.{Position, state, board, game_state, board_of, cell_of, leads, cell_at, move_error}
use Rattle.rules.proofs.Tests.{held, both_true}
use Rattle.rules.specs.Legal.{Legal}

pub legal : (p : Position) (m : ℕ) → move_error p m ≡ 0 → Legal p m
unfolding move_error
legal p m e =
    let bounds = held (ltb (board_of m) 9 && ltb (cell_of m) 9) 10 _ e in
    let inside = both_true (ltb (board_of m) 9) (ltb (cell_of m) 9) bounds.0 in
    let over = held (eqb (game_state p) 0) 11 _ bounds.1 in
    let won = held (eqb (state (board p.cells (board_of m))) 0) 12 _ over.1 in
    let wrong = held (leads p.target (board_of m)) 13 _ won.1 in
    let empty = held (eqb (cell_at p.cells m) 0) 14 _ wrong.1 in
    record {
      board_in = ltb-true (board_of m) 9 inside.0;
      cell_in = ltb-true (cell_of m) 9 inside.1;
      unfinished = eqb-true (game_state p) 0 over.0;
      board_open = eqb-true (state (board p.cells (board_of m))) 0 won.0;
      led = wrong.0;
      cell_empty = eqb-true (cell_at p.cells m) 0 empty.0;
    }

pub legal_error : (p : Position) (m : ℕ) → Legal p m → move_error p m ≡ 0
unfolding move_error
legal_error p m l =
    rw (lt-ltb (board_of m) 9 l.board_in, lt-ltb (cell_of m) 9 l.cell_in, l.unfinished, l.board_open, l.led, l.cell_empty)
