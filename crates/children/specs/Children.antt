-- From the tests that the code makes to the children of a position: what the functions require, and what their answers say of the plain machine's leaves.
-- Rests on Skips, Scalars and Leaves.
use Rattle.std.specs.Prelude.{ℕ, ◌+◌, ◌*◌, ◌<◌, ◌≡◌, true, false, not, []}
use Rattle.std.proofs.Common.{ap, sym, ◌∙◌, arith, eqb-true}
use Rattle.rules.specs.Rules.{Player, Position, code, board_states, game_state, board_of, cell_of, move_of, leads, move_error, play}
use Rattle.rules.proofs.Boards.{code_states}
use Rattle.rules.proofs.Legal.{legal_error}
use Rattle.rules.proofs.LegalMoves.{legal_in}
use Rattle.game.specs.Masks.{has_bit}
use Rattle.game.specs.Cursor.{moves_from}
use Rattle.machine.specs.Machine.{Unknown}
use Rattle.plain.specs.Plain.{game}
use Rattle.plain.proofs.Laws.{lawful}
use Rattle.words.specs.Packed.{view}
use Rattle.evaluate.specs.Final.{position_verdict}
use Rattle.children.specs.declared.Outer.{Outer}
use Rattle.children.specs.Skips.{Playing, board_test, cell_test, board_done, before_target, after_target}
use Rattle.children.specs.Scalars.{OuterOf, CellsOf, ChildOf}
use Rattle.children.specs.Leaves.{can_move_after, verdict_evaluated}

-- A board by its test, and a target by its number.
module _ {p : Position} {o : Outer} (r : OuterOf p o) where
  pub playing : (b : ℕ) → b < 9 → has_bit o.done b ≡ false → leads o.target b ≡ true → Playing p b
  playing b h e l = record {
    is_in_play = eqb-true (code (board_states p.cells) b) 0 (board_test p o.done b r.done_is h ∙ ap not e);
    led = rw r.target_is at l;
  }

  pub done_passed : (b : ℕ) → b < 9 → has_bit o.done b ≡ true → moves_from p (b * 9) ≡ moves_from p (b * 9 + 9)
  done_passed b h e = board_done p b h (board_test p o.done b r.done_is h ∙ ap not e)

  pub target_passed : o.target < 9 → (moves_from p 0 ≡ moves_from p (o.target * 9)) × (moves_from p (o.target * 9 + 9) ≡ [])
  target_passed h = let l : p.target < 9 = rw r.target_is at h in rw r.target_is (before_target p l, after_target p l)

  -- an empty cell of a board that the mover may play on is a child
  pub child_of : game_state p ≡ 0 → {b mine taken : ℕ} → CellsOf p b mine taken → Playing p b → b < 9 → (c : ℕ) → c < 9 → has_bit taken c ≡ false → ChildOf p o mine taken b c
  child_of g {b} {mine} {taken} m k lb c lc e =
      let there : board_of (move_of b c) ≡ b = omega arith in
      let place : cell_of (move_of b c) ≡ c = omega arith in
      record {
        board_in = lb;
        cell_in = lc;
        outer = r;
        cells = m;
        legal = legal_error p (move_of b c) (record {
          board_in = omega arith;
          cell_in = omega arith;
          unfinished = g;
          board_open = rw there (sym (code_states p.cells b lb) ∙ k.is_in_play);
          led = rw there k.led;
          cell_empty = rw (there, place) (eqb-true (code p.cells (b * 9 + c)) 0 (cell_test p taken b c r.held.whole m.taken_is lb lc ∙ ap not e));
        });
      }

-- The other side is to move after a legal move.
pub and_after : (rule : ℕ) (root : Player) (p : Position) (m : ℕ) → move_error p m ≡ 0 → (view (game rule root)).and (play p m) ≡ not ((view (game rule root)).and p)
and_after rule root p m e = ap not ((lawful rule root).turns p m (legal_in p m e))

-- A child whose game is in play is Unknown.
pub open_value : (rule : ℕ) (root : Player) (p : Position) (m : ℕ) → move_error p m ≡ 0 → game_state (play p m) ≡ 0 → Unknown ≡ (view (game rule root)).value (play p m)
unfolding position_verdict
open_value rule root p m e g = by (play p m) g ∙ verdict_evaluated rule root (play p m) (can_move_after p m e)
  where
    by : (q : Position) → game_state q ≡ 0 → Unknown ≡ position_verdict rule root q
    by q z = rw z
