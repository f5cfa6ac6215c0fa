-- The loop over the 81 places that counts the open cells. Rests on OpenCells, and on game's Words and Cursor.
use Rattle.std.specs.Prelude.{◌≡◌, refl, Bool, true, false, cond, List, ◌∷◌, ℕ, suc, ◌+◌, ◌-◌, ◌<◌, ◌≤◌, length}
use Rattle.std.proofs.Common.{◌∙◌, zero-add, add-one, arith}
use Rattle.rules.specs.Rules.{Position, answers, board_states, keep}
use Rattle.game.specs.Words.{Holds}
use Rattle.game.specs.Cursor.{move_at}
use Rattle.referee.specs.OpenCells.{open_cell, open_cells}

-- the cell at place i is open
abbrev pub open_at : Position → ℕ → Bool
open_at p i = open_cell p (board_states p.cells) (move_at i)

-- the open cells from place i on
unfoldable pub open_from : Position → ℕ → ℕ
open_from p i = length (keep (open_cell p (board_states p.cells)) (answers move_at i (81 - i)))

from_all : (p : Position) → open_from p 0 ≡ open_cells p
unfolding open_from open_cells
from_all p = refl

from_end : (p : Position) (i : ℕ) → 81 ≤ i → open_from p i ≡ 0
unfolding open_from
from_end p i h = let e : 81 - i ≡ 0 = omega arith in rw e

from_next : (p : Position) (i : ℕ) → i < 81 → open_from p i ≡ cond (open_at p i) (suc (open_from p (i + 1))) (open_from p (i + 1))
unfolding open_from
from_next p i l =
    let e : 81 - i ≡ suc (81 - (i + 1)) = omega arith in
    rw (e, add-one) (go (open_at p i) (move_at i) (keep (open_cell p (board_states p.cells)) (answers move_at (suc i) (81 - suc i))))
  where
    go : (b : Bool) (m : ℕ) (ms : List ℕ) → length (cond b (m ∷ ms) ms) ≡ cond b (suc (length ms)) (length ms)
    go true m ms = refl
    go false m ms = refl

-- the loop: n cells are counted before place i
pub record Counting (ws : List ℕ) (base n i : ℕ) : Type 0 where
  pub few : n ≤ i
  pub counted : (p : Position) → Holds p ws base → n + open_from p i ≡ open_cells p

pub start : (ws : List ℕ) (base : ℕ) → Counting ws base 0 0
start ws base = record { few = omega arith; counted = λ p h. zero-add (open_from p 0) ∙ from_all p }

module _ (ws : List ℕ) (base n i : ℕ) (c : Counting ws base n i) where
  module _ (b : Bool) (is_b : (p : Position) → Holds p ws base → b ≡ open_at p i) (l : i < 81) where
    next : (p : Position) → Holds p ws base → open_from p i ≡ cond b (suc (open_from p (i + 1))) (open_from p (i + 1))
    next p h = from_next p i l ∙ rw (is_b p h) refl

    pub counts : b ≡ true → Counting ws base (n + 1) (i + 1)
    counts e = record { few = omega (arith, c.few); counted = λ p h. omega (arith, c.counted p h, rw e at (next p h)) }

    pub passes : b ≡ false → Counting ws base n (i + 1)
    passes e = record { few = omega (arith, c.few); counted = λ p h. omega (arith, c.counted p h, rw e at (next p h)) }

  pub done : 81 ≤ i → (p : Position) → Holds p ws base → n ≡ open_cells p
  done l p h = omega (arith, c.counted p h, from_end p i l)
