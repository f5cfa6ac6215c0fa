-- How many legal moves a position has, counted board by board. Rests on Skips and on the bits that are set in a mask.
use Rattle.std.specs.Prelude.{ℕ, suc, ◌+◌, ◌*◌, ◌-◌, ◌^◌, ◌<◌, ◌≤◌, ◌≡◌, refl, Bool, true, false, cond, not, List, [], ◌∷◌, eqb, length}
use Rattle.std.proofs.Common.{ap, ◌∙◌, arith, add-zero, eq-eqb}
use Rattle.std.proofs.Math.Bool.{or-true}
use Rattle.std.specs.Int.Count.{ones}
use Rattle.rules.specs.Rules.{Position, code, board, board_states, game_state, leads, playable, legal_moves, count}
use Rattle.rules.proofs.Boards.{code_board, length_board}
use Rattle.game.specs.Masks.{mask, mask_of, nonzero, has_bit, mask_rest, ones_mask}
use Rattle.game.specs.Words.{Holds}
use Rattle.game.specs.Cursor.{move_at, moves_from, moves_all, moves_hit, moves_skip, moves_end}
use Rattle.children.specs.Skips.{board_test, playable_there, board_done, before_target, after_target, no_target}

-- The moves of board b, where the target leads there: its empty cells, or none if it is done.
abbrev pub board_moves : Position → ℕ → ℕ
board_moves p b = cond (eqb (code (board_states p.cells) b) 0) (count 0 (board p.cells b)) 0

-- The empty cells of a board, from its taken ones.
pub empty_cells : (cs : List ℕ) (taken : ℕ) → length cs ≡ 9 → taken ≡ mask_of nonzero cs → ones (511 - taken) ≡ count 0 cs
empty_cells cs taken n e =
    let r : mask 0 cs + mask_of nonzero cs + 1 ≡ 512 = mask_rest cs ∙ ap (λ k. 2 ^ k) n in
    let q : 511 - taken ≡ mask 0 cs = omega arith in
    ap ones q ∙ ones_mask 0 cs

module _ (p : Position) where
  -- places whose moves are legal just where a list of codes has a 0
  cells_length : (cs : List ℕ) (i : ℕ) → i + length cs ≤ 81
      → ((k : ℕ) → k < length cs → playable p (board_states p.cells) (move_at (i + k)) ≡ eqb (code cs k) 0)
      → length (moves_from p i) ≡ count 0 cs + length (moves_from p (i + length cs))
  cells_length [] i h f = rw add-zero (omega arith)
  cells_length (c ∷ cs) i h f =
      let z : i + 0 ≡ i = omega arith in
      let e : i + 1 + length cs ≡ i + suc (length cs) = omega arith in
      first (eqb c 0) (rw z at (f 0 (omega arith)))
      (cells_length cs (i + 1) (omega arith) (λ k l. let q : i + 1 + k ≡ i + suc k = omega arith in rw q (f (suc k) (omega arith))) ∙ ap (λ j. count 0 cs + length (moves_from p j)) e)
    where
      first : (t : Bool) → playable p (board_states p.cells) (move_at i) ≡ t → length (moves_from p (i + 1)) ≡ count 0 cs + length (moves_from p (i + suc (length cs)))
          → length (moves_from p i) ≡ cond t (suc (count 0 cs)) (count 0 cs) + length (moves_from p (i + suc (length cs)))
      first true e g = ap length (moves_hit p i (omega arith) e) ∙ omega (arith, g)
      first false e g = ap length (moves_skip p i (omega arith) e) ∙ g

  -- one board
  pub board_length : (b : ℕ) → length p.cells ≡ 81 → b < 9 → leads p.target b ≡ true → length (moves_from p (b * 9)) ≡ board_moves p b + length (moves_from p (b * 9 + 9))
  board_length b w h l = go (eqb (code (board_states p.cells) b) 0) refl
    where
      n : length (board p.cells b) ≡ 9
      n = length_board p.cells b w h

      go : (t : Bool) → eqb (code (board_states p.cells) b) 0 ≡ t → length (moves_from p (b * 9)) ≡ cond t (count 0 (board p.cells b)) 0 + length (moves_from p (b * 9 + 9))
      go true e =
          cells_length (board p.cells b) (b * 9) (omega (arith, n)) (λ k q. let lk : k < 9 = omega (arith, n) in playable_there b k lk p ∙ rw (e, l, code_board p.cells b k lk))
          ∙ ap (λ k. count 0 (board p.cells b) + length (moves_from p (b * 9 + k))) n
      go false e = ap length (board_done p b h e) ∙ omega arith

  -- the whole, by the target
  module _ (g : game_state p ≡ 0) where
    all_moves : legal_moves p ≡ moves_from p 0
    all_moves = moves_all p (eq-eqb (game_state p) 0 g)

    pub target_length : length p.cells ≡ 81 → p.target < 9 → length (legal_moves p) ≡ board_moves p p.target
    target_length w h =
        ap length (all_moves ∙ before_target p h)
        ∙ board_length p.target w h (rw (eq-eqb p.target p.target refl) (or-true (eqb p.target 15)))
        ∙ ap (λ l. board_moves p p.target + length l) (after_target p h) ∙ omega arith

    pub free_length : length (legal_moves p) ≡ length (moves_from p 0)
    free_length = ap length all_moves

    pub no_length : 9 ≤ p.target → (p.target ≡ 15 → ⊥) → length (legal_moves p) ≡ 0
    no_length h f = ap length (all_moves ∙ no_target p h f)

-- One board, by the code's test of it.
module _ {p : Position} {ws : List ℕ} {base : ℕ} (h : Holds p ws base) (done b : ℕ) (is_done : done ≡ mask_of nonzero (board_states p.cells)) (l : b < 9) where
  pub moves_none : has_bit done b ≡ true → 0 ≡ board_moves p b
  moves_none e = rw (board_test p done b is_done l ∙ ap not e)

  pub moves_some : has_bit done b ≡ false → (taken : ℕ) → taken ≡ mask_of nonzero (board p.cells b) → ones (511 - taken) ≡ board_moves p b
  moves_some e taken t = rw (board_test p done b is_done l ∙ ap not e) (empty_cells (board p.cells b) taken (length_board p.cells b h.whole l) t)

-- The loop over boards with a free choice: n moves stand on the boards before b.
pub record Counting (ws : List ℕ) (base done n b : ℕ) : Type 0 where
  pub within : b ≤ 9
  pub few : n ≤ 9 * b
  pub left : (p : Position) → Holds p ws base → done ≡ mask_of nonzero (board_states p.cells) → p.target ≡ 15 → n + length (moves_from p (b * 9)) ≡ length (moves_from p 0)

pub counting_start : (ws : List ℕ) (base done : ℕ) → Counting ws base done 0 0
counting_start ws base done = record { within = omega arith; few = omega arith; left = λ p h e t. omega arith }

pub counting_step : (ws : List ℕ) (base done n b m : ℕ) → Counting ws base done n b → b < 9 → m ≤ 9
    → ((p : Position) → Holds p ws base → done ≡ mask_of nonzero (board_states p.cells) → m ≡ board_moves p b) → Counting ws base done (n + m) (b + 1)
counting_step ws base done n b m c l s f = record {
  within = omega arith;
  few = omega (arith, c.few);
  left = λ p h e t.
      let q : b * 9 + 9 ≡ (b + 1) * 9 = omega arith in
      omega (arith, f p h e, c.left p h e t, rw q at (board_length p b h.whole l (rw (eq-eqb p.target 15 t))));
}

pub counting_done : (ws : List ℕ) (base done n b : ℕ) → Counting ws base done n b → 9 ≤ b
    → (p : Position) → Holds p ws base → done ≡ mask_of nonzero (board_states p.cells) → p.target ≡ 15 → n ≡ length (moves_from p 0)
counting_done ws base done n b c l p h e t = omega (arith, c.left p h e t, ap length (moves_end p (b * 9) (omega arith)))
