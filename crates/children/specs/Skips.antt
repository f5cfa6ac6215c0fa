-- The legal moves of a game in play board by board and cell by cell, with the tests that the code makes: what a loop over boards and cells may pass over,
-- and what it lists. Rests on the cursor's moves from a place on, and on Masks.
use Rattle.std.specs.Prelude.{ℕ, zero, suc, ◌+◌, ◌*◌, ◌-◌, ◌/◌, ◌%◌, ◌<◌, ◌≤◌, ◌≡◌, true, false, not, ◌&&◌, List, [], ◌∷◌, eqb, length}
use Rattle.std.proofs.Common.{ap, sym, ◌∙◌, arith, add-zero, zero-add, ne_eqb}
use Rattle.std.proofs.Math.Bool.{and-false, not-not}
use Rattle.rules.specs.Rules.{Position, code, board, board_states, move_of, board_of, cell_of, leads, playable}
use Rattle.rules.proofs.Boards.{code_board, length_board, length_states}
use Rattle.game.specs.Masks.{mask_of, nonzero, has_bit, has_bit_of}
use Rattle.game.specs.Cursor.{move_at, moves_from, moves_hit, moves_skip, moves_end}

-- The place of cell c of board b, and the test of the move there.
module _ (b c : ℕ) (lc : c < 9) where
  pub move_there : move_at (b * 9 + c) ≡ move_of b c
  move_there = let q : (b * 9 + c) / 9 ≡ b = omega arith in let r : (b * 9 + c) % 9 ≡ c = omega arith in rw (q, r)

  pub playable_there : (p : Position) → playable p (board_states p.cells) (move_at (b * 9 + c))
      ≡ (eqb (code (board_states p.cells) b) 0 && leads p.target b && eqb (code p.cells (b * 9 + c)) 0)
  playable_there p =
      let q : board_of (move_of b c) ≡ b = omega arith in
      let r : cell_of (move_of b c) ≡ c = omega arith in
      rw (move_there, q, r)

-- What a bit of the mask of all that is not 0 says; the code's tests of a board among the done ones, and of a cell among the taken ones, are of this kind.
pub zero_test : (cs : List ℕ) (m c : ℕ) → m ≡ mask_of nonzero cs → c < length cs → eqb (code cs c) 0 ≡ not (has_bit m c)
zero_test cs m c e h = sym (ap (λ n. not (has_bit n c)) e ∙ ap not (has_bit_of nonzero cs c h) ∙ not-not (eqb (code cs c) 0))

pub board_test : (p : Position) (done b : ℕ) → done ≡ mask_of nonzero (board_states p.cells) → b < 9 → eqb (code (board_states p.cells) b) 0 ≡ not (has_bit done b)
board_test p done b e h = zero_test (board_states p.cells) done b e (rw (length_states p.cells) h)

-- A board that the mover may play on.
pub record Playing (p : Position) (b : ℕ) : Type 0 where
  pub is_in_play : code (board_states p.cells) b ≡ 0
  pub led : leads p.target b ≡ true

-- Places at which no move is legal are passed over.
module _ (p : Position) where
  pub skip_places : (i n : ℕ) → i + n ≤ 81 → ((k : ℕ) → i ≤ k → k < i + n → playable p (board_states p.cells) (move_at k) ≡ false) → moves_from p i ≡ moves_from p (i + n)
  skip_places i zero h f = rw add-zero
  skip_places i (suc n) h f =
      moves_skip p i (omega arith) (f i (omega arith) (omega arith))
      ∙ skip_places (i + 1) n (omega arith) (λ k l g. f k (omega arith) (omega arith))
      ∙ ap (moves_from p) (omega arith)

  -- a place k stands on board k / 9
  skip_boards : (i n : ℕ) → i + n ≤ 81 → ((k : ℕ) → i ≤ k → k < i + n → (eqb (code (board_states p.cells) (k / 9)) 0 && leads p.target (k / 9)) ≡ false)
      → moves_from p i ≡ moves_from p (i + n)
  skip_boards i n h f = skip_places i n h (λ k l g. at k (f k l g))
    where
      at : (k : ℕ) → (eqb (code (board_states p.cells) (k / 9)) 0 && leads p.target (k / 9)) ≡ false → playable p (board_states p.cells) (move_at k) ≡ false
      at k e =
          let q : k ≡ k / 9 * 9 + k % 9 = omega arith in
          ap (λ j. playable p (board_states p.cells) (move_at j)) q ∙ playable_there (k / 9) (k % 9) (omega arith) p ∙ rw e

  -- a board that is done, or where the target does not lead, has no move
  pub board_done : (b : ℕ) → b < 9 → eqb (code (board_states p.cells) b) 0 ≡ false → moves_from p (b * 9) ≡ moves_from p (b * 9 + 9)
  board_done b h e = skip_boards (b * 9) 9 (omega arith) (λ k l g. let q : k / 9 ≡ b = omega arith in rw (q, e))

  pub board_not_led : (b : ℕ) → b < 9 → leads p.target b ≡ false → moves_from p (b * 9) ≡ moves_from p (b * 9 + 9)
  board_not_led b h e = skip_boards (b * 9) 9 (omega arith) (λ k l g. let q : k / 9 ≡ b = omega arith in rw (q, e) (and-false (eqb (code (board_states p.cells) b) 0)))

  -- a target that names a board leads to no other; one that names none and leaves no choice leads nowhere
  not_led : (b : ℕ) → (p.target ≡ 15 → ⊥) → (p.target ≡ b → ⊥) → (eqb (code (board_states p.cells) b) 0 && leads p.target b) ≡ false
  not_led b f n = rw (ne_eqb p.target 15 f, ne_eqb p.target b n) (and-false (eqb (code (board_states p.cells) b) 0))

  pub before_target : p.target < 9 → moves_from p 0 ≡ moves_from p (p.target * 9)
  before_target h =
      skip_boards 0 (p.target * 9) (omega arith) (λ k l g. not_led (k / 9) (λ e. omega arith) (λ e. omega arith))
      ∙ ap (moves_from p) (zero-add (p.target * 9))

  pub after_target : p.target < 9 → moves_from p (p.target * 9 + 9) ≡ []
  after_target h =
      let n : ℕ = 72 - p.target * 9 in
      let e : p.target * 9 + 9 + n ≡ 81 = omega arith in
      skip_boards (p.target * 9 + 9) n (omega arith) (λ k l g. not_led (k / 9) (λ q. omega arith) (λ q. omega arith))
      ∙ moves_end p (p.target * 9 + 9 + n) (omega arith)

  pub no_target : 9 ≤ p.target → (p.target ≡ 15 → ⊥) → moves_from p 0 ≡ []
  no_target h f =
      skip_boards 0 81 (omega arith) (λ k l g. not_led (k / 9) f (λ e. omega arith))
      ∙ moves_end p 81 (omega arith)

-- Within board b, by the bits of its taken cells.
module _ (p : Position) (taken b c : ℕ) (whole : length p.cells ≡ 81) (is_taken : taken ≡ mask_of nonzero (board p.cells b)) (lb : b < 9) (lc : c < 9) where
  pub cell_test : eqb (code p.cells (b * 9 + c)) 0 ≡ not (has_bit taken c)
  cell_test =
      ap (λ n. eqb n 0) (sym (code_board p.cells b c lc))
      ∙ zero_test (board p.cells b) taken c is_taken (rw (length_board p.cells b whole lb) lc)

  pub cell_skip : has_bit taken c ≡ true → moves_from p (b * 9 + c) ≡ moves_from p (b * 9 + c + 1)
  cell_skip e =
      moves_skip p (b * 9 + c) (omega arith)
      (playable_there b c lc p ∙ rw (cell_test ∙ ap not e) (and-false (eqb (code (board_states p.cells) b) 0 && leads p.target b)))

  pub cell_hit : Playing p b → has_bit taken c ≡ false → moves_from p (b * 9 + c) ≡ move_of b c ∷ moves_from p (b * 9 + c + 1)
  cell_hit g e =
      moves_hit p (b * 9 + c) (omega arith) (playable_there b c lc p ∙ rw (g.is_in_play, g.led, cell_test ∙ ap not e))
      ∙ ap (λ m. m ∷ moves_from p (b * 9 + c + 1)) (move_there b c lc)
