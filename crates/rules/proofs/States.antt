-- Laws of states under a mark: after a move only the mover's line is looked for, of boards and of the game. Rests on Boards and Legal.
use Rattle.std.specs.Prelude.{Bool, true, false, cond, ◌≡◌, refl, List, [], ◌∷◌, ℕ, zero, suc, eqb}
use Rattle.std.proofs.Common.{sym, ◌∙◌, arith, ne_eqb}
use Rattle.std.proofs.Math.Path.{ap}
use Rattle.std.proofs.Math.ListN.{set}
use Rattle.rules.specs.Rules.{Player, Position, other, mark, code, all, any, lines, has_line, state, board, board_states, game_state, board_of, cell_of, move_error, play}
use Rattle.rules.specs.Rules.Player.{X, O}
use Rattle.rules.proofs.Tests.{passed, all_fails, any_fails}
use Rattle.rules.proofs.Boards.{board_same, board_other, states_set}
use Rattle.rules.proofs.Legal.{legal}

-- Nine codes in play: nobody has a line, and one is 0.
pub record Open (cs : List ℕ) : Type 0 where
  pub no_line : (s : Player) → has_line (mark s) cs ≡ false
  pub has_empty : any (eqb 0) cs ≡ true

one_zero : (t : Bool) → ◌≡◌ {A = ℕ} (cond t 0 3) 0 → t ≡ true
one_zero true e = refl
one_zero false e = absurd (omega arith)

pub open_of : (cs : List ℕ) → state cs ≡ 0 → Open cs
unfolding state
open_of cs e =
    let x = passed (has_line 1 cs) 0 _ e in
    let o = passed (has_line 2 cs) 1 _ x.1 in
    record { no_line = λ s. elim s as (λ k. has_line (mark k) cs ≡ false) [ X ↦ x.0 | O ↦ o.0 ]; has_empty = one_zero (any (eqb 0) cs) o.1 }

pub of_open : (cs : List ℕ) → Open cs → state cs ≡ 0
unfolding state
of_open cs o = rw (o.no_line X, o.no_line O, o.has_empty)

-- a store of another code makes no line of k
code_fails : (cs : List ℕ) (c v k : ℕ) → (v ≡ k → ⊥) → (i : ℕ) → eqb (code cs i) k ≡ false → eqb (code (set cs c v) i) k ≡ false
code_fails [] c v k n i e = e
code_fails (x ∷ cs) zero v k n zero e = ne_eqb v k n
code_fails (x ∷ cs) zero v k n (suc i) e = e
code_fails (x ∷ cs) (suc c) v k n zero e = e
code_fails (x ∷ cs) (suc c) v k n (suc i) e = code_fails cs c v k n i e

pub line_kept_out : (cs : List ℕ) (c v k : ℕ) → has_line k cs ≡ false → (v ≡ k → ⊥) → has_line k (set cs c v) ≡ false
unfolding has_line
line_kept_out cs c v k e n =
    any_fails (λ l. all (λ i. eqb (code cs i) k) l) (λ l. all (λ i. eqb (code (set cs c v) i) k) l)
    (all_fails (λ i. eqb (code cs i) k) (λ i. eqb (code (set cs c v) i) k) (code_fails cs c v k n)) lines e

-- The state of nine codes when only the line of s is looked for.
unfoldable pub mover_state : Player → List ℕ → ℕ
mover_state s cs = cond (has_line (mark s) cs) (mark s) (cond (any (eqb 0) cs) 0 3)

pub state_mover : (s : Player) (cs : List ℕ) → has_line (mark (other s)) cs ≡ false → state cs ≡ mover_state s cs
unfolding state mover_state
state_mover X cs e = rw e
state_mover O cs e = rw e

pub mark_apart : (s : Player) → mark s ≡ mark (other s) → ⊥
mark_apart X e = omega arith
mark_apart O e = omega arith

-- looking for the line of s never finds the other's
other_out : (s : Player) (a b : Bool) → cond a (mark s) (cond b 0 3) ≡ mark (other s) → ⊥
other_out s true b e = mark_apart s e
other_out X false true e = omega arith
other_out X false false e = omega arith
other_out O false true e = omega arith
other_out O false false e = omega arith

pub mover_never : (s : Player) (cs : List ℕ) → mover_state s cs ≡ mark (other s) → ⊥
unfolding mover_state
mover_never s cs e = other_out s (has_line (mark s) cs) (any (eqb 0) cs) e

-- nine codes in play, and a store that is not the other's
module _ (s : Player) (cs : List ℕ) (c v : ℕ) (e : state cs ≡ 0) (n : v ≡ mark (other s) → ⊥) where
  pub other_lineless : has_line (mark (other s)) (set cs c v) ≡ false
  other_lineless = line_kept_out cs c v (mark (other s)) ((open_of cs e).no_line (other s)) n

  pub mover_only : state (set cs c v) ≡ mover_state s (set cs c v)
  mover_only = state_mover s (set cs c v) other_lineless

-- a legal move
module _ (p : Position) (m : ℕ) (e : move_error p m ≡ 0) where
  -- the boards' cells afterwards
  pub played_board : board (play p m).cells (board_of m) ≡ set (board p.cells (board_of m)) (cell_of m) (mark p.side)
  unfolding play
  played_board = board_same p.cells (board_of m) (cell_of m) (mark p.side) (legal p m e).cell_in

  pub kept_board : (b : ℕ) → (b ≡ board_of m → ⊥) → board (play p m).cells b ≡ board p.cells b
  unfolding play
  kept_board b n = board_other p.cells (board_of m) (cell_of m) (mark p.side) (legal p m e).cell_in b n

  -- its board has no line of the other's, its state is worked out from the mover's line, and is never the other's
  pub board_lineless : has_line (mark (other p.side)) (board (play p m).cells (board_of m)) ≡ false
  board_lineless =
      rw played_board
      (other_lineless p.side (board p.cells (board_of m)) (cell_of m) (mark p.side) (legal p m e).board_open (mark_apart p.side))

  pub board_mover : state (board (play p m).cells (board_of m)) ≡ mover_state p.side (board (play p m).cells (board_of m))
  board_mover = state_mover p.side (board (play p m).cells (board_of m)) board_lineless

  pub board_never : state (board (play p m).cells (board_of m)) ≡ mark (other p.side) → ⊥
  board_never q = mover_never p.side (board (play p m).cells (board_of m)) (sym board_mover ∙ q)

  -- the boards' states afterwards
  pub played_states : board_states (play p m).cells ≡ set (board_states p.cells) (board_of m) (state (board (play p m).cells (board_of m)))
  unfolding play
  played_states =
      states_set p.cells (board_of m) (cell_of m) (mark p.side) (legal p m e).cell_in
      ∙ ap (λ cs. set (board_states p.cells) (board_of m) (state cs)) (sym played_board)

  -- the same of the game
  pub game_lineless : has_line (mark (other p.side)) (board_states (play p m).cells) ≡ false
  unfolding game_state
  game_lineless =
      rw played_states
      (other_lineless p.side (board_states p.cells) (board_of m) (state (board (play p m).cells (board_of m))) (legal p m e).unfinished board_never)

  pub game_mover : game_state (play p m) ≡ mover_state p.side (board_states (play p m).cells)
  unfolding game_state
  game_mover = state_mover p.side (board_states (play p m).cells) game_lineless
