-- What a legal move does to a position: one empty cell less, the turn passes, the shape is kept, no choice that can't be comes of it, and an accepted position stays
-- accepted. Rests on States, Legal and Checks.
use Rattle.std.specs.Prelude.{Bool, true, false, ◌&&◌, ◌≡◌, ◌⊎◌, eqb, length, set}
use Rattle.std.proofs.Math.Bool.{cond, and-false}
use Rattle.std.proofs.Common.{true≢false, sym, ◌∙◌, inl, inr, not-suc-le-zero, le_of_suc-le-suc, arith, eqb-true, eq-eqb, ne_eqb}
use Rattle.std.proofs.Math.Path.{refl, ap}
use mathlib.Core.List.{List, [], ◌∷◌}
use Prim.Native.Nat.{ℕ, zero, suc, ◌+◌, ◌*◌, ◌<◌, ◌≤◌}
use Rattle.std.proofs.Math.Decide.{dec_lt, ℕ_discrete}
use Rattle.std.proofs.Math.Dec.{ltb}
use Rattle.std.proofs.Math.ListN.{length-set, get_or-eq_default}
use Rattle.rules.specs.Rules.{Player, Position, other, mark, code, all, state, board, board_states, board_of, cell_of, move_error, play, count}
use Rattle.rules.specs.Rules.Player.{X, O}
use Rattle.rules.specs.Record.{fair_turn, both_lines, impossible_choice, Accepted}
use Rattle.rules.proofs.Tests.{all_at, all_set}
use Rattle.rules.proofs.Boards.{length_states, code_states}
use Rattle.rules.proofs.Legal.{legal}
use Rattle.rules.proofs.States.{kept_board, board_lineless, game_lineless}
use Rattle.rules.proofs.Checks.{Passes, passes, passes_refusal, one_lineless, Shaped}

-- counts, one code at a time
count_one : (t : Bool) (n : ℕ) → cond t (suc n) n ≡ n + cond t 1 0
count_one true n = omega arith
count_one false n = omega arith

one_most : (t : Bool) → ◌≤◌ (cond t 1 0) 1
one_most true = omega arith
one_most false = omega arith

pub count_length : (k : ℕ) (cs : List ℕ) → count k cs ≤ length cs
count_length k [] = omega arith
count_length k (x ∷ cs) = omega (arith, count_one (eqb x k) (count k cs), one_most (eqb x k), count_length k cs)

-- a store takes the old code out of the count and puts the new one in
pub count_set : (k : ℕ) (cs : List ℕ) (i v : ℕ) → i < length cs → count k (set cs i v) + count k (code cs i ∷ []) ≡ count k cs + count k (v ∷ [])
count_set k [] i v h = absurd (not-suc-le-zero h)
count_set k (x ∷ cs) zero v h = omega (arith, count_one (eqb x k) (count k cs), count_one (eqb v k) (count k cs))
count_set k (x ∷ cs) (suc i) v h =
    omega (arith, count_one (eqb x k) (count k cs), count_one (eqb x k) (count k (set cs i v)), count_set k cs i v (le_of_suc-le-suc h))

-- a code that is not 3 stands within the list
code_within : (cs : List ℕ) (i : ℕ) → (code cs i ≡ 3 → ⊥) → i < length cs
code_within cs i n = go (dec_lt i (length cs))
  where
    go : Dec (i < length cs) → i < length cs
    go (yes l) = l
    go (no g) = absurd (n (get_or-eq_default cs 3 (omega arith)))

mark_nonzero : (s : Player) → count 0 (mark s ∷ []) ≡ 0
mark_nonzero X = refl
mark_nonzero O = refl

mark_small : (s : Player) → ltb (mark s) 3 ≡ true
mark_small X = refl
mark_small O = refl

-- the next turn is fair
fair_next : (s : Player) (x o x' o' : ℕ) → x' + count 1 (0 ∷ []) ≡ x + count 1 (mark s ∷ []) → o' + count 2 (0 ∷ []) ≡ o + count 2 (mark s ∷ [])
    → fair_turn s x o ≡ true → fair_turn (other s) x' o' ≡ true
fair_next X x o x' o' a b e = eq-eqb x' (suc o') (omega (arith, eqb-true x o e))
fair_next O x o x' o' a b e = eq-eqb x' o' (omega (arith, eqb-true x (suc o) e))

-- the next target
module _ (cs : List ℕ) (c : ℕ) where
  next_range : c < 9 → (t : Bool) → (cond t c 15 < 9) ⊎ (cond t c 15 ≡ 15)
  next_range h true = inl h
  next_range h false = inr refl

  pub next_open : (t : Bool) → eqb (state (board cs c)) 0 ≡ t → cond t c 15 < 9 → state (board cs (cond t c 15)) ≡ 0
  next_open true e l = eqb-true (state (board cs c)) 0 e
  next_open false e l = absurd (omega arith)

-- the next target names a board, or board c is done, so not every board is in play
led_or_done : (states : List ℕ) (c : ℕ) → c < 9 → c < length states → (t : Bool) → eqb (code states c) 0 ≡ t → (all (eqb 0) states && eqb (cond t c 15) 15) ≡ false
led_or_done states c h l true e = rw (ne_eqb c 15 (λ q. omega arith)) (and-false (all (eqb 0) states))
led_or_done states c h l false e = go (all (eqb 0) states) refl
  where
    go : (a : Bool) → all (eqb 0) states ≡ a → (a && true) ≡ false
    go false q = refl
    go true q = let z : 0 ≡ code states c = eqb-true 0 (code states c) (all_at (eqb 0) states c 3 q l) in absurd (true≢false (sym (eq-eqb (code states c) 0 (sym z)) ∙ e))

-- any move
module _ (p : Position) (m : ℕ) where
  pub turn_passes : (play p m).side ≡ other p.side
  unfolding play
  turn_passes = refl

  pub length_played : length (play p m).cells ≡ length p.cells
  unfolding play
  length_played = simp length-set

-- a legal move
module _ (p : Position) (m : ℕ) (e : move_error p m ≡ 0) where
  pub place_within : board_of m * 9 + cell_of m < length p.cells
  place_within = code_within p.cells (board_of m * 9 + cell_of m) (λ q. omega (arith, (legal p m e).cell_empty))

  pub count_played : (k : ℕ) → count k (play p m).cells + count k (0 ∷ []) ≡ count k p.cells + count k (mark p.side ∷ [])
  unfolding play
  count_played k =
      ap (λ c. count k (play p m).cells + count k (c ∷ [])) (sym (legal p m e).cell_empty)
      ∙ count_set k p.cells (board_of m * 9 + cell_of m) (mark p.side) place_within

  pub one_less : count 0 (play p m).cells + 1 ≡ count 0 p.cells
  one_less = omega (arith, count_played 0, mark_nonzero p.side)

  pub codes_kept : all (λ c. ltb c 3) p.cells ≡ true → all (λ c. ltb c 3) (play p m).cells ≡ true
  unfolding play
  codes_kept h = all_set (λ c. ltb c 3) p.cells (board_of m * 9 + cell_of m) (mark p.side) h (mark_small p.side)

  pub target_kept : ((play p m).target < 9) ⊎ ((play p m).target ≡ 15)
  unfolding play
  target_kept = next_range (play p m).cells (cell_of m) (legal p m e).cell_in (eqb (state (board (play p m).cells (cell_of m))) 0)

  -- the next target by the states of the boards
  pub target_states : (play p m).target ≡ cond (eqb (code (board_states (play p m).cells) (cell_of m)) 0) (cell_of m) 15
  unfolding play
  target_states = ap (λ n. cond (eqb n 0) (cell_of m) 15) (sym (code_states (play p m).cells (cell_of m) (legal p m e).cell_in))

  pub keeps_shaped : Shaped p → Shaped (play p m)
  keeps_shaped h = record { whole = length_played p m ∙ h.whole; codes = codes_kept h.codes; target_range = target_kept }

  not_both_kept : Passes p → (b : ℕ) → Dec (b ≡ board_of m) → b < 9 → both_lines (board (play p m).cells b) ≡ false
  unfolding play
  not_both_kept h b (yes q) l = rw q (one_lineless (other p.side) (board (play p m).cells (board_of m)) (board_lineless p m e))
  not_both_kept h b (no n) l = rw (kept_board p m e b n) (h.not_both b l)

  pub keeps_passes : Passes p → Passes (play p m)
  unfolding play
  keeps_passes h = record {
    codes = codes_kept h.codes;
    target_range = target_kept;
    turn = fair_next p.side (count 1 p.cells) (count 2 p.cells) _ _ (count_played 1) (count_played 2) h.turn;
    not_both = λ b. not_both_kept h b (ℕ_discrete b (board_of m));
    lineless = game_lineless p m e;
    target_open = next_open (play p m).cells (cell_of m) (eqb (state (board (play p m).cells (cell_of m))) 0) refl;
  }

  -- after a move the choice is free only if the board that the cell names is done
  pub possible_kept : impossible_choice (play p m) ≡ false
  unfolding impossible_choice
  possible_kept =
      let states : List ℕ = board_states (play p m).cells in
      rw (target_states, led_or_done states (cell_of m) (legal p m e).cell_in (rw (length_states (play p m).cells) (legal p m e).cell_in) (eqb (code states (cell_of m)) 0) refl)

  pub keeps_accepted : Accepted p → Accepted (play p m)
  keeps_accepted a = record {
    whole = length_played p m ∙ a.whole;
    passes = passes_refusal (play p m) (keeps_passes (passes p a.passes));
    possible = possible_kept;
  }
