-- The legal moves from a place of the board on: what is left to a cursor that goes over the 81 cells in move order. Rests on the rules and Errors.
use Prim.Native.Nat.{ℕ, suc, ◌+◌, ◌*◌, ◌-◌, ◌/◌, ◌%◌, ◌<◌, ◌≤◌}
use Rattle.std.specs.Prelude.{◌≡◌, refl, Bool, true, false, cond, not, ◌&&◌, eqb, Option, Some, None}
use Rattle.std.proofs.Common.{ap, sym, subst, ◌∙◌, add-one}
use mathlib.Core.List.{List, [], ◌∷◌, nil≢cons}
use native.Mathlib.Omega.{arith}
use Rattle.std.proofs.Math.Decide.{dec_lt}
use Rattle.rules.specs.Rules.{Position, code, answers, board_states, game_state, move_of, leads, keep, playable, legal_moves}
use Rattle.game.specs.Words.{Holds}
use Rattle.game.specs.Errors.{cell_error}
use Rattle.game.specs.declared.Move.{Move}

-- the move at place i, and the legal moves from there on, in a game in play
abbrev pub move_at : ℕ → ℕ
move_at i = move_of (i / 9) (i % 9)

unfoldable pub moves_from : Position → ℕ → List ℕ
moves_from p i = keep (playable p (board_states p.cells)) (answers move_at i (81 - i))

pub moves_over : (p : Position) → eqb (game_state p) 0 ≡ false → legal_moves p ≡ moves_from p 81
unfolding legal_moves game_state moves_from
moves_over p e = ap (λ t. cond t (moves_from p 0) []) e

pub moves_all : (p : Position) → eqb (game_state p) 0 ≡ true → legal_moves p ≡ moves_from p 0
unfolding legal_moves game_state moves_from
moves_all p e = ap (λ t. cond t (moves_from p 0) []) e

module _ (p : Position) (i : ℕ) (h : i < 81) where
  next_place : moves_from p i ≡ cond (playable p (board_states p.cells) (move_at i)) (move_at i ∷ moves_from p (i + 1)) (moves_from p (i + 1))
  unfolding moves_from
  next_place = let e : 81 - i ≡ suc (81 - (i + 1)) = omega arith in rw (e, add-one)

  pub moves_hit : playable p (board_states p.cells) (move_at i) ≡ true → moves_from p i ≡ move_at i ∷ moves_from p (i + 1)
  moves_hit e = next_place ∙ rw e

  pub moves_skip : playable p (board_states p.cells) (move_at i) ≡ false → moves_from p i ≡ moves_from p (i + 1)
  moves_skip e = next_place ∙ rw e

  place : (i / 9 * 16 + i % 9) / 16 ≡ i / 9
  place = omega arith

  cell : (i / 9 * 16 + i % 9) % 16 ≡ i % 9
  cell = omega arith

  tests : (a b c : Bool) → (a && b && c) ≡ eqb (cond (not a) 13 (cond (not b) 14 (cond (not c) 15 0))) 0
  tests true true true = refl
  tests true true false = refl
  tests true false c = refl
  tests false b c = refl

  -- the move at a place is legal if its cell has no error
  pub playable_is : playable p (board_states p.cells) (move_at i) ≡ eqb (cell_error p (i / 9) (i % 9)) 0
  playable_is = rw (place, cell) (tests (eqb (code (board_states p.cells) (i / 9)) 0) (leads p.target (i / 9)) (eqb (code p.cells (i / 9 * 9 + i % 9)) 0))

pub moves_end : (p : Position) (i : ℕ) → 81 ≤ i → moves_from p i ≡ []
unfolding moves_from
moves_end p i h = let e : 81 - i ≡ 0 = omega arith in rw e

-- one step of a cursor from place i to place j: the first move of those left, and from j on the rest; or none is left, and the cursor stays where it is
abbrev pub Stepped : Position → ℕ → Option Move → ℕ → Type 0
Stepped p i (Some m) j = (moves_from p i ≡ m.0 ∷ moves_from p j) × (i < j)
Stepped p i None j = (moves_from p i ≡ []) × (j ≡ i)

-- what a step says, by its two answers
module _ (ws : List ℕ) (base i j : ℕ) (s : Option Move) (stepped : (p : Position) → Holds p ws base → Stepped p i s j) where
  pub next_is : (m : Move) → s ≡ Some m → (p : Position) → Holds p ws base → (moves_from p i ≡ m.0 ∷ moves_from p j) × (i < j)
  next_is m e p h = subst (λ (x : Option Move). Stepped p i x j) e (stepped p h)

  pub end_is : s ≡ None → (p : Position) → Holds p ws base → moves_from p i ≡ []
  end_is e p h = (subst (λ (x : Option Move). Stepped p i x j) e (stepped p h)).0

-- where a move is left, the place lies within the 81
pub moves_within : (p : Position) (i m : ℕ) (ms : List ℕ) → moves_from p i ≡ m ∷ ms → i < 81
moves_within p i m ms e = go (dec_lt i 81)
  where
    go : Dec (i < 81) → i < 81
    go (yes l) = l
    go (no n) = absurd (nil≢cons (sym (moves_end p i (omega arith)) ∙ e))

-- the loop of a step, from place i₀ on: no move stands before place i
pub record Looking (ws : List ℕ) (base i₀ i : ℕ) : Type 0 where
  pub ahead : i₀ ≤ i
  pub none_before : (p : Position) → Holds p ws base → moves_from p i₀ ≡ moves_from p i

pub looking_start : (ws : List ℕ) (base i : ℕ) → Looking ws base i i
looking_start ws base i = record { ahead = omega arith; none_before = λ p h. refl }

module _ (ws : List ℕ) (base i₀ i : ℕ) (l : Looking ws base i₀ i) (h : i < 81) (b : Bool)
    (is_b : (p : Position) → Holds p ws base → b ≡ playable p (board_states p.cells) (move_at i)) where
  pub looking_step : b ≡ false → Looking ws base i₀ (i + 1)
  looking_step e = record {
    ahead = omega (arith, l.ahead);
    none_before = λ p k. l.none_before p k ∙ moves_skip p i h (sym (is_b p k) ∙ e);
  }

  pub looking_found : b ≡ true → (p : Position) → Holds p ws base → (moves_from p i₀ ≡ move_at i ∷ moves_from p (i + 1)) × (i₀ < i + 1)
  looking_found e p k = (l.none_before p k ∙ moves_hit p i h (sym (is_b p k) ∙ e), omega (arith, l.ahead))

pub looking_done : (ws : List ℕ) (base i₀ i : ℕ) → Looking ws base i₀ i → 81 ≤ i → (p : Position) → Holds p ws base → moves_from p i₀ ≡ []
looking_done ws base i₀ i l h p k = l.none_before p k ∙ moves_end p i h
