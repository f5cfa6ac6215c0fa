-- What the code keeps of a record's cells: codes as masks, and the boards read so far. Rests on the rules and the game's masks.
use Rattle.std.specs.Prelude.{◌≡◌, true, List, ℕ, ◌+◌, ◌*◌, ◌<◌, eqb, ltb, get_or, length, take}
use Rattle.rules.specs.Rules.{Player, mark, all, board}
use Rattle.rules.specs.Record.{side_bit}
use Rattle.game.specs.Masks.{mask}
use Rattle.cells.specs.declared.Codes.{Codes}
use Rattle.cells.specs.declared.Cells.{Cells}

-- The masks of codes below 4: where they are 1, 2 and 3.
pub record Masks (cs : List ℕ) (m : Codes) : Type 0 where
  pub small : all (λ c. ltb c 4) cs ≡ true
  pub x : m.x ≡ mask 1 cs
  pub o : m.o ≡ mask 2 cs
  pub rest : m.rest ≡ mask 3 cs

-- There is room for one more, at place c of nine.
pub record Putting (m : Codes) (c : ℕ) : Type 0 where
  pub place : c < 9
  pub codes : List ℕ
  pub count : length codes ≡ c
  pub masks : Masks codes m

-- The first n boards of 81 cells have been read: the words have the masks of each side, and rest is 0 exactly if no code so far is 3.
pub record BoardsRead (cs : List ℕ) (n : ℕ) (ws : List ℕ) (rest : ℕ) : Type 0 where
  pub room : length ws ≡ 23
  pub masks : (s : Player) (b : ℕ) → b < n → get_or ws (side_bit s * 9 + b) 0 ≡ mask (mark s) (board cs b)
  pub coded : all (λ c. ltb c 3) (take (n * 9) cs) ≡ eqb rest 0

-- All nine.
abbrev pub CellsRead : List ℕ → Cells → Type 0
CellsRead cs r = BoardsRead cs 9 r.words r.rest
