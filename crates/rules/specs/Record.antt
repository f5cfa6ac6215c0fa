-- The record (MANUAL, Record): its 21 bytes by bits, checks 1 to 6 and 22 (MANUAL, Turned back), and the record of a position. Rests on Rules and Refusals.
use Rattle.std.specs.Prelude.{Bool, false, cond, not, ◌&&◌, ◌||◌, List, [], ◌∷◌, ◌≡◌, ℕ, zero, suc, ◌+◌, ◌*◌, ◌-◌, ◌/◌, ◌%◌, ◌^◌, eqb, ltb, get_or, length}
use Rattle.rules.specs.Rules.{Player, Position, mark, code, answers, all, any, has_line, board, board_states, count}
use Rattle.rules.specs.Rules.Player.{X, O}
use Rattle.rules.specs.Refusals.{refuses, first_refusal}

-- Bit o of the bytes, the most significant of each first.
unfoldable pub bit_at : List ℕ → ℕ → ℕ
bit_at bs o = get_or bs (o / 8) 0 / 2 ^ (7 - o % 8) % 2

-- The number that k bits make, from bit o on.
abbrev pub number : (ℕ → ℕ) → ℕ → ℕ → ℕ
number f o zero = 0
number f o (suc k) = number f o k * 2 + f (o + k)

-- The bit that says a side to move: 0 X, 1 O.
abbrev pub player_of : ℕ → Player
player_of zero = X
player_of (suc n) = O

abbrev pub side_bit : Player → ℕ
side_bit X = 0
side_bit O = 1

-- What 21 bytes say: the side to move, four bits of target, 81 cells of two bits, board 0 cell 0 first.
unfoldable pub position_of : List ℕ → Position
position_of bs = record {
  side = player_of (bit_at bs 0);
  target = number (bit_at bs) 1 4;
  cells = answers (λ i. number (bit_at bs) (5 + 2 * i) 2) 0 81;
}

-- Check 2, but for the last bit: every cell is 0 empty, 1 X or 2 O, and the target 0 to 8 or 15.
abbrev pub coded : Position → Bool
coded p = all (λ c. ltb c 3) p.cells && (ltb p.target 9 || eqb p.target 15)

-- Check 3: X to move has as many cells as O; O to move has one fewer.
abbrev pub fair_turn : Player → ℕ → ℕ → Bool
fair_turn X x o = eqb x o
fair_turn O x o = eqb x (suc o)

-- Nine codes with lines of both sides.
abbrev pub both_lines : List ℕ → Bool
both_lines cs = has_line 1 cs && has_line 2 cs

-- Checks 2 to 6 of what a record says: the first that refuses it, or 0.
unfoldable pub position_refusal : Position → ℕ
position_refusal p =
    let states : List ℕ = board_states p.cells in
    first_refusal (
    refuses 2 (not (coded p)) ∷
    refuses 3 (not (fair_turn p.side (count 1 p.cells) (count 2 p.cells))) ∷
    refuses 4 (any both_lines (answers (board p.cells) 0 9)) ∷
    refuses 5 (both_lines states || has_line (mark p.side) states) ∷
    refuses 6 (ltb p.target 9 && not (eqb (code states p.target) 0)) ∷ [])

-- Checks 1 to 6 of a record: the first that refuses it, or 0.
unfoldable pub refusal_to6 : List ℕ → ℕ
refusal_to6 bs =
    first_refusal (
    refuses 1 (not (eqb (length bs) 21)) ∷
    refuses 2 (not (eqb (bit_at bs 167) 0)) ∷
    position_refusal (position_of bs) ∷ [])

-- Check 22, a free choice that can't be: no board is done and the target is 15, though a cell is taken.
unfoldable pub impossible_choice : Position → Bool
impossible_choice p = (all (eqb 0) (board_states p.cells) && eqb p.target 15) && not (all (eqb 0) p.cells)

-- All checks of a record, 1 to 6 and then 22: the first that refuses it, or 0.
unfoldable pub refusal : List ℕ → ℕ
refusal bs = first_refusal (refusal_to6 bs ∷ refuses 22 (impossible_choice (position_of bs)) ∷ [])

-- An accepted position: 81 cells that pass every check ahead of 7, which are 2 to 6 and 22.
pub record Accepted (p : Position) : Type 0 where
  pub whole : length p.cells ≡ 81
  pub passes : position_refusal p ≡ 0
  pub possible : impossible_choice p ≡ false

-- Bit o of a position's record: the side, the target, the cells, one zero bit.
unfoldable pub record_bit : Position → ℕ → ℕ
record_bit p o =
    cond (eqb o 0) (side_bit p.side)
    (cond (ltb o 5) (p.target / 2 ^ (4 - o) % 2)
    (cond (ltb o 167) (get_or p.cells ((o - 5) / 2) 0 / 2 ^ (o % 2) % 2) 0))

-- The record of a position.
unfoldable pub record_of : Position → List ℕ
record_of p = answers (λ k. number (record_bit p) (8 * k) 8) 0 21
