-- A turn of the referee, as the words have it, and the number of empty cells, which falls at each turn. Rests on the rules' laws and on game's Words.
use Rattle.std.specs.Prelude.{◌≡◌, Bool, cond, List, ℕ, ◌+◌, ◌*◌, ◌/◌, ◌%◌, ◌<◌, get_or}
use Rattle.std.proofs.Common.{sym, ap, ◌∙◌, arith}
use Rattle.rules.specs.Rules.{Position, same, code, answers, count}
use Rattle.rules.specs.Record.{Accepted, player_of}
use Rattle.rules.proofs.Answers.{answers_are}
use Rattle.game.specs.Masks.{has_bit}
use Rattle.game.specs.Words.{Holds, cell_is}

-- what a turn asks of the words: they hold an accepted position; mine says whether the root's side is to move
pub record Turn (ws : List ℕ) (root : ℕ) (mine : Bool) : Type 0 where
  pub position : Position
  pub holds : Holds position ws 0
  pub accepted : Accepted position
  pub turn : same (player_of root) position.side ≡ mine

-- the code of the cell at place i, read from the words, and the number of empty cells
abbrev cell_held : List ℕ → ℕ → ℕ
cell_held ws i = cond (has_bit (get_or ws (0 + (0 * 9 + i / 9)) 0) (i % 9)) 1 (cond (has_bit (get_or ws (0 + (1 * 9 + i / 9)) 0) (i % 9)) 2 0)

unfoldable pub empty_in : List ℕ → ℕ
empty_in ws = count 0 (answers (cell_held ws) 0 81)

pub empty_is : (p : Position) (ws : List ℕ) → Holds p ws 0 → empty_in ws ≡ count 0 p.cells
unfolding empty_in
empty_is p ws h = ap (count 0) (answers_are (cell_held ws) p.cells 81 3 h.whole same_cell)
  where
    same_cell : (i : ℕ) → i < 81 → cell_held ws i ≡ code p.cells i
    same_cell i l = let e : i / 9 * 9 + i % 9 ≡ i = omega arith in sym (cell_is h (i / 9) (i % 9) (omega arith) (omega arith)) ∙ ap (code p.cells) e
