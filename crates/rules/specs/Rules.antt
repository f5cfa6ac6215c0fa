-- The game: MANUAL, 'The game' and 'Draw rules and value', in their order. Rests on the library's numbers and lists alone.
use Rattle.std.specs.Prelude.{Bool, true, false, cond, not, ◌&&◌, ◌||◌, List, [], ◌∷◌, ℕ, zero, suc, ◌+◌, ◌*◌, ◌/◌, ◌%◌, eqb, ltb, get_or, take, drop, set}

-- The two players. X starts.
pub data Player : Type 0 where
  X O : Player

abbrev pub other : Player → Player
other X = O
other O = X

-- A player's code in a cell, and among board states. 0 is an empty cell, or a board in play; 3 a drawn board, which is nobody's.
abbrev pub mark : Player → ℕ
mark X = 1
mark O = 2

-- A position: the side to move; its target (0 to 8 a board, 15 free choice); 81 cells, board by board, each board row by row.
pub record Position : Type 0 where
  pub side : Player
  pub target : ℕ
  pub cells : List ℕ

-- Code i of a list. Past the end there is nothing to play on and nothing that counts for a side.
abbrev pub code : List ℕ → ℕ → ℕ
code cs i = get_or cs i 3

-- f 0, f 1, ..: n answers, counted from i.
abbrev pub answers {ℓ} : {A : Type ℓ} → (ℕ → A) → ℕ → ℕ → List A
answers f i zero = []
answers f i (suc n) = f i ∷ answers f (suc i) n

-- Every answer is true; one is.
abbrev pub all {ℓ} : {A : Type ℓ} → (A → Bool) → List A → Bool
all f [] = true
all f (x ∷ xs) = f x && all f xs

abbrev pub any {ℓ} : {A : Type ℓ} → (A → Bool) → List A → Bool
any f [] = false
any f (x ∷ xs) = f x || any f xs

-- What of a list passes a test, in its order.
abbrev pub keep {ℓ} : {A : Type ℓ} → (A → Bool) → List A → List A
keep f [] = []
keep f (x ∷ xs) = cond (f x) (x ∷ keep f xs) (keep f xs)

-- Two lists have the same bytes.
abbrev pub same_bytes : List ℕ → List ℕ → Bool
same_bytes [] [] = true
same_bytes [] (y ∷ ys) = false
same_bytes (x ∷ xs) [] = false
same_bytes (x ∷ xs) (y ∷ ys) = eqb x y && same_bytes xs ys

-- The lines.
abbrev pub lines : List (List ℕ)
lines =
    (0 ∷ 1 ∷ 2 ∷ []) ∷ (3 ∷ 4 ∷ 5 ∷ []) ∷ (6 ∷ 7 ∷ 8 ∷ []) ∷
    (0 ∷ 3 ∷ 6 ∷ []) ∷ (1 ∷ 4 ∷ 7 ∷ []) ∷ (2 ∷ 5 ∷ 8 ∷ []) ∷
    (0 ∷ 4 ∷ 8 ∷ []) ∷ (2 ∷ 4 ∷ 6 ∷ []) ∷ []

-- Nine codes hold a line of code k.
unfoldable pub has_line : ℕ → List ℕ → Bool
has_line k cs = any (λ l. all (λ c. eqb (code cs c) k) l) lines

-- The state of nine codes: 1 with a line of X's, 2 with one of O's, otherwise 0 (in play) while one of them is 0, and 3 (drawn) if none is.
-- The nine are a board's cells, or the states of the nine boards: the latter's state is the game's.
unfoldable pub state : List ℕ → ℕ
state cs = cond (has_line 1 cs) 1 (cond (has_line 2 cs) 2 (cond (any (eqb 0) cs) 0 3))

-- The cells of board b, the states of the nine boards, and the game's.
unfoldable pub board : List ℕ → ℕ → List ℕ
board cs b = take 9 (drop (b * 9) cs)

unfoldable pub board_states : List ℕ → List ℕ
board_states cs = answers (λ b. state (board cs b)) 0 9

unfoldable pub game_state : Position → ℕ
game_state p = state (board_states p.cells)

-- A move is one byte: board in the high four bits, cell in the low four.
abbrev pub move_of : ℕ → ℕ → ℕ
move_of b c = b * 16 + c

abbrev pub board_of : ℕ → ℕ
board_of m = m / 16

abbrev pub cell_of : ℕ → ℕ
cell_of m = m % 16

-- The target names board b, or leaves the choice free.
abbrev pub leads : ℕ → ℕ → Bool
leads t b = eqb t 15 || eqb t b

-- The code of the cell that a move names.
abbrev pub cell_at : List ℕ → ℕ → ℕ
cell_at cs m = code cs (board_of m * 9 + cell_of m)

-- What is wrong with a move: the number of the first error, in the order of `inplace_move`, or 0.
unfoldable pub move_error : Position → ℕ → ℕ
move_error p m =
    -- OutOfBounds
    cond (not (ltb (board_of m) 9 && ltb (cell_of m) 9)) 11
    -- GameOver
    (cond (not (eqb (game_state p) 0)) 12
    -- WonBoard: won or drawn
    (cond (not (eqb (state (board p.cells (board_of m))) 0)) 13
    -- WrongBoard
    (cond (not (leads p.target (board_of m))) 14
    -- NotEmpty
    (cond (not (eqb (cell_at p.cells m) 0)) 15 0))))

-- The position after a move: the cell is the mover's; the reply goes to the board numbered as the cell, if that board is in play
-- after the move, and otherwise anywhere, after the last move too; the turn passes.
unfoldable pub play : Position → ℕ → Position
play p m =
    let cs : List ℕ = set p.cells (board_of m * 9 + cell_of m) (mark p.side) in
    record {
      side = other p.side;
      target = cond (eqb (state (board cs (cell_of m))) 0) (cell_of m) 15;
      cells = cs;
    }

abbrev pub every_move : List ℕ
every_move = answers (λ i. move_of (i / 9) (i % 9)) 0 81

-- The move's board is in play and the target leads there; its cell is empty.
abbrev pub playable : Position → List ℕ → ℕ → Bool
playable p states m = eqb (code states (board_of m)) 0 && leads p.target (board_of m) && eqb (cell_at p.cells m) 0

-- The legal moves, by board, then cell, ascending. A finished position has none.
unfoldable pub legal_moves : Position → List ℕ
legal_moves p =
    let states : List ℕ = board_states p.cells in
    cond (eqb (state states) 0) (keep (playable p states) every_move) []

-- Moves made one after the other: the position afterwards, or the first error with its move's index, counted from i.
pub data Replayed : Type 0 where
  Reached : Position → Replayed
  BadMove : (error index : ℕ) → Replayed

unfoldable pub replay : Position → List ℕ → ℕ → Replayed
replay p [] i = Reached p
replay p (m ∷ ms) i =
    elim (eqb (move_error p m) 0) [ true ↦ replay (play p m) ms (suc i) | false ↦ BadMove (move_error p m) i ]

-- How many of the codes are k.
abbrev pub count : ℕ → List ℕ → ℕ
count k [] = 0
count k (c ∷ cs) = cond (eqb c k) (suc (count k cs)) (count k cs)

-- The draw rules: whether a drawn position is True for the root's side. Under rule 0 it is lost by its own side to move; rule 1 says False, rule 2 True.
abbrev pub same : Player → Player → Bool
same X X = true
same X O = false
same O X = false
same O O = true

unfoldable pub drawn : ℕ → Player → Player → Bool
drawn zero root side = not (same root side)
drawn (suc zero) root side = false
drawn (suc (suc r)) root side = true

-- The value of a finished position for the root's side, under a rule: a won one is True for its winner.
unfoldable pub final_value : ℕ → Player → Position → Bool
final_value rule root p = eqb (game_state p) (mark root) || eqb (game_state p) 3 && drawn rule root p.side
