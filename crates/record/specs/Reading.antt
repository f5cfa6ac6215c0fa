-- What the code keeps of a record that is checked: the boards so far, how many cells each side has, and what was read. Rests on the rules and the reading of cells.
use Rattle.std.specs.Prelude.{◌≡◌, true, cond, List, [], ◌∷◌, ℕ, ◌<◌, eqb, ltb, length}
use Rattle.std.proofs.lemmas.List.Edits.{sets}
use Rattle.rules.specs.Rules.{Position, answers, all, any, count, state, board, board_states}
use Rattle.rules.specs.Record.{side_bit, both_lines}
use Rattle.cells.specs.declared.Codes.{Codes}
use Rattle.cells.specs.declared.Cells.{Cells}
use Rattle.cells.specs.Reading.{Masks, BoardsRead, CellsRead}
use Rattle.record.specs.declared.Shown.{Shown}
use Rattle.record.specs.declared.Boards.{Boards}

-- Nine codes and their masks.
pub record Whole (m : Codes) : Type 0 where
  pub codes : List ℕ
  pub count : length codes ≡ 9
  pub masks : Masks codes m

-- The words have 81 cells, none of code 3.
pub record Coded (ws : List ℕ) : Type 0 where
  pub cells : List ℕ
  pub whole : length cells ≡ 81
  pub read : BoardsRead cells 9 ws 0

-- What the first n boards of 81 cells show.
pub record Shows (cs : List ℕ) (n : ℕ) (r : Shown) : Type 0 where
  pub states : Masks (answers (λ b. state (board cs b)) 0 n) r.states
  pub both : r.both ≡ any both_lines (answers (board cs) 0 n)

-- Board b comes next.
pub record Adding (r : Shown) (b : ℕ) (m : Codes) : Type 0 where
  pub place : b < 9
  pub cells : List ℕ
  pub whole : length cells ≡ 81
  pub shows : Shows cells b r
  pub board_masks : Masks (board cells b) m

-- The mask of a side's code.
abbrev pub side_mask : Codes → ℕ → ℕ
side_mask m side = cond (eqb side 0) m.x m.o

-- A position of cells that are empty, X or O, what its boards show, its target and its side to move.
pub record Checking (r : Boards) (target side : ℕ) : Type 0 where
  pub position : Position
  pub whole : length position.cells ≡ 81
  pub coded : all (λ c. ltb c 3) position.cells ≡ true
  pub shows : Shows position.cells 9 r.shown
  pub xs : r.xs ≡ count 1 position.cells
  pub os : r.os ≡ count 2 position.cells
  pub aims : target ≡ position.target
  pub moves : side ≡ side_bit position.side

-- All that a record says has been read: the cells, the target and the side to move of a position.
pub record FieldsRead (r : Cells) (target side : ℕ) : Type 0 where
  pub position : Position
  pub whole : length position.cells ≡ 81
  pub read : CellsRead position.cells r
  pub aims : target ≡ position.target
  pub moves : side ≡ side_bit position.side

-- The words of a position, from those of its cells: the boards' states, the target and the side to move after them.
abbrev pub filled : List ℕ → Codes → (target side : ℕ) → List ℕ
filled ws states target side = sets ws 18 (states.x ∷ states.o ∷ states.rest ∷ target ∷ side ∷ [])

-- The words are those of these cells, and what was read of the target and the side.
pub record FilledFrom (cs ws : List ℕ) (target side : ℕ) (v : List ℕ) : Type 0 where
  pub states : Codes
  pub masks : Masks (board_states cs) states
  pub words : v ≡ filled ws states target side
