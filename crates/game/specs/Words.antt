-- A position in words, as the code keeps it: 23 numbers from a place on in a list. Rests on the rules and on Masks.
--   0 to 8    X's cells of the nine boards, nine bits each      9 to 17   O's
--   18, 19    the boards that X has won, that O has             20        the drawn boards
--   21        the target                                        22        the side to move, 0 X, 1 O
use Rattle.std.specs.Prelude.{ℕ, zero, suc, ◌+◌, ◌*◌, ◌^◌, ◌<◌, ◌≤◌, ◌≡◌, refl, Bool, true, false, not, List, [], ◌∷◌, length, get_or, take, drop, eqb, ltb}
use Rattle.std.proofs.Common.{ap, sym, ◌∙◌, arith, ltb-true}
use Rattle.std.proofs.Math.Bool.{cond, not-not}
use Rattle.rules.specs.Rules.{Player, Position, mark, code, answers, all, any, has_line, state, board, board_states, game_state}
use Rattle.rules.specs.Rules.Player.{X, O}
use Rattle.rules.specs.Record.{side_bit}
use Rattle.rules.proofs.Tests.{both_true, all_at}
use Rattle.rules.proofs.Boards.{length_board, length_states, code_board}
use Rattle.game.specs.Masks.{mask, mask_of, nonzero, has_bit, mask_lt, mask_sum, has_bit_of, full}
use Rattle.game.specs.Lines.{line_in, line_of}

-- the words from base on hold a position of 81 cells
pub record Holds (p : Position) (ws : List ℕ) (base : ℕ) : Type 0 where
  pub whole : length p.cells ≡ 81
  pub codes : all (λ c. ltb c 3) p.cells ≡ true
  pub room : base + 23 ≤ length ws
  pub masks : (s : Player) (b : ℕ) → b < 9 → get_or ws (base + (side_bit s * 9 + b)) 0 ≡ mask (mark s) (board p.cells b)
  pub won : (s : Player) → get_or ws (base + (18 + side_bit s)) 0 ≡ mask (mark s) (board_states p.cells)
  pub drawn : get_or ws (base + 20) 0 ≡ mask 3 (board_states p.cells)
  pub target : get_or ws (base + 21) 0 ≡ p.target
  pub side : get_or ws (base + 22) 0 ≡ side_bit p.side

-- some position is held
abbrev pub Held : List ℕ → ℕ → Type 0
Held ws base = (p : Position) × Holds p ws base

-- nine bits are below 512
pub nine_bits : (k : ℕ) (cs : List ℕ) → length cs ≡ 9 → mask k cs < 512
nine_bits k cs e = let h : mask k cs < 2 ^ length cs = mask_lt (λ c. eqb c k) cs in rw e at h

all_take : (f : ℕ → Bool) (n : ℕ) (cs : List ℕ) → all f cs ≡ true → all f (take n cs) ≡ true
all_take f zero cs h = refl
all_take f (suc n) [] h = refl
all_take f (suc n) (c ∷ cs) h = let s = both_true (f c) (all f cs) h in rw s.0 (all_take f n cs s.1)

all_drop : (f : ℕ → Bool) (n : ℕ) (cs : List ℕ) → all f cs ≡ true → all f (drop n cs) ≡ true
all_drop f zero cs h = h
all_drop f (suc n) [] h = refl
all_drop f (suc n) (c ∷ cs) h = all_drop f n cs (both_true (f c) (all f cs) h).1

pub all_board : (f : ℕ → Bool) (cs : List ℕ) (b : ℕ) → all f cs ≡ true → all f (board cs b) ≡ true
unfolding board
all_board f cs b h = all_take f 9 (drop (b * 9) cs) (all_drop f (b * 9) cs h)

state_small : (a b c : Bool) → ltb (cond a 1 (cond b 2 (cond c 0 3))) 4 ≡ true
state_small true b c = refl
state_small false true c = refl
state_small false false true = refl
state_small false false false = refl

all_answers : (f : ℕ → Bool) (g : ℕ → ℕ) → ((i : ℕ) → f (g i) ≡ true) → (i n : ℕ) → all f (answers g i n) ≡ true
all_answers f g h i zero = refl
all_answers f g h i (suc n) = rw (h i) (all_answers f g h (suc i) n)

pub states_small : (cs : List ℕ) → all (λ c. ltb c 4) (board_states cs) ≡ true
unfolding board_states state
states_small cs =
    all_answers (λ c. ltb c 4) (λ b. state (board cs b))
    (λ b. state_small (has_line 1 (board cs b)) (has_line 2 (board cs b)) (any (eqb 0) (board cs b))) 0 9

pub turned : (b : Bool) → ◌≡◌ {A = ℕ} (cond b 0 3) (cond (not b) 3 0)
turned true = refl
turned false = refl

-- a code below 3, by the tests for the two sides
three : (c : ℕ) → c < 3 → c ≡ cond (eqb c 1) 1 (cond (eqb c 2) 2 0)
three zero h = refl
three (suc zero) h = refl
three (suc (suc zero)) h = refl
three (suc (suc (suc c))) h = absurd (omega arith)

pub side_bit_lt : (s : Player) → side_bit s < 2
side_bit_lt X = omega arith
side_bit_lt O = omega arith

-- a number below 2 is a side's
pub side_of : (n : ℕ) → n < 2 → (s : Player) × (n ≡ side_bit s)
side_of zero h = (X, refl)
side_of (suc zero) h = (O, refl)
side_of (suc (suc n)) h = absurd (omega arith)

module _ {p : Position} {ws : List ℕ} {base : ℕ} (h : Holds p ws base) where
  pub cells_lt : (s : Player) (b : ℕ) → b < 9 → get_or ws (base + (side_bit s * 9 + b)) 0 < 512
  cells_lt s b l = rw (h.masks s b l) (nine_bits (mark s) (board p.cells b) (length_board p.cells b h.whole l))

  pub won_lt : (s : Player) → get_or ws (base + (18 + side_bit s)) 0 < 512
  won_lt s = rw (h.won s) (nine_bits (mark s) (board_states p.cells) (length_states p.cells))

  pub drawn_lt : get_or ws (base + 20) 0 < 512
  drawn_lt = rw h.drawn (nine_bits 3 (board_states p.cells) (length_states p.cells))

  pub side_lt : get_or ws (base + 22) 0 < 2
  side_lt = rw h.side (side_bit_lt p.side)

  -- the same of a side by its number
  pub cells_small : (n b : ℕ) → n < 2 → b < 9 → get_or ws (base + (n * 9 + b)) 0 < 512
  cells_small n b l k = let s = side_of n l in rw s.1 (cells_lt s.0 b k)

  pub won_small : (n : ℕ) → n < 2 → get_or ws (base + (18 + n)) 0 < 512
  won_small n l = let s = side_of n l in rw s.1 (won_lt s.0)

  -- the boards that are done
  pub done_is : get_or ws (base + 18) 0 + get_or ws (base + 19) 0 + get_or ws (base + 20) 0 ≡ mask_of nonzero (board_states p.cells)
  done_is = rw (h.won X, h.won O, h.drawn) (sym (mask_sum (board_states p.cells) (states_small p.cells)))

  -- board b is in play
  pub in_play_is : (b : ℕ) → b < 9 → not (has_bit (mask_of nonzero (board_states p.cells)) b) ≡ eqb (code (board_states p.cells) b) 0
  in_play_is b l =
      ap not (has_bit_of nonzero (board_states p.cells) b (rw (length_states p.cells) l)) ∙ not-not (eqb (code (board_states p.cells) b) 0)

  -- the game's state
  pub state_is : game_state p
      ≡ cond (line_in (get_or ws (base + 18) 0)) 1 (cond (line_in (get_or ws (base + 19) 0)) 2 (cond (eqb (mask_of nonzero (board_states p.cells)) 511) 3 0))
  unfolding game_state state
  state_is =
      rw (
        h.won X,
        h.won O,
        line_of 1 (board_states p.cells) (length_states p.cells),
        line_of 2 (board_states p.cells) (length_states p.cells),
        full (board_states p.cells) (length_states p.cells),
      )
      (ap (λ n. cond (has_line 1 (board_states p.cells)) 1 (cond (has_line 2 (board_states p.cells)) 2 n)) (turned (any (eqb 0) (board_states p.cells))))

  -- the cell c of board b
  pub cell_is : (b c : ℕ) → b < 9 → c < 9 → code p.cells (b * 9 + c)
      ≡ cond (has_bit (get_or ws (base + (0 * 9 + b)) 0) c) 1 (cond (has_bit (get_or ws (base + (1 * 9 + b)) 0) c) 2 0)
  cell_is b c lb lc =
      rw (h.masks X b lb, h.masks O b lb, has_bit_of (λ x. eqb x 1) (board p.cells b) c (inside b c lb lc), has_bit_of (λ x. eqb x 2) (board p.cells b) c (inside b c lb lc))
      (sym (code_board p.cells b c lc) ∙ three (code (board p.cells b) c) (ltb-true _ 3 (all_at (λ x. ltb x 3) (board p.cells b) c 3 (all_board (λ x. ltb x 3) p.cells b h.codes) (inside b c lb lc))))
    where
      inside : (b c : ℕ) → b < 9 → c < 9 → c < length (board p.cells b)
      inside b c lb lc = rw (length_board p.cells b h.whole lb) lc

-- nine bits of boards
pub done_lt : (cs : List ℕ) → mask_of nonzero (board_states cs) < 512
done_lt cs = rw (length_states cs) at (mask_lt nonzero (board_states cs))
