-- The laws of a game of two players and of the report of some games, whatever the searches say: every game ends, and the report adds up. Rests on Looking.
use Rattle.std.specs.Prelude.{◌≡◌, Bool, cond}
use Rattle.std.proofs.Math.Path.{refl, ap}
use Rattle.std.proofs.Common.{sym, ◌∙◌, subst, eqb-true, eq-eqb, ne_eqb}
use Rattle.std.proofs.Math.Bool.{true, false}
use Prim.Native.Nat.{ℕ, zero, suc, ◌+◌, ◌*◌, ◌^◌, ◌≤◌, ◌<◌}
use Rattle.std.proofs.Math.Nat.{suc-mul, mul-le-mul_right}
use native.Mathlib.Omega.{arith}
use Rattle.std.proofs.lemmas.Bool.{eqb-false}
use Rattle.std.proofs.Math.Dec.{eqb}
use Rattle.rules.specs.Rules.{Player, Position, has_line, state, board_states, any, count, game_state, legal_moves, move_error, play}
use Rattle.rules.specs.Record.{Accepted}
use Rattle.rules.proofs.LegalMoves.{in_legal, unfinished_some}
use Rattle.rules.proofs.Plays.{one_less, keeps_accepted}
use Rattle.plain.proofs.Laws.{left_most}
use Rattle.matches.specs.Matches.{Searcher, turn, Played, then_played, turns, play_game, report, one, counted, play_match}
use Rattle.matches.proofs.Looking.{some, turn_legal, turn_state, turn_most}

-- A STATE is 0 to 3, so a finished game counts once
four : (a b c : Bool) → cond a 1 (cond b 2 (cond c 0 3)) < 4
four true b c = omega arith
four false true c = omega arith
four false false true = omega arith
four false false false = omega arith

pub state_four : (p : Position) → game_state p < 4
unfolding game_state state
state_four p = four (has_line 1 (board_states p.cells)) (has_line 2 (board_states p.cells)) (any (eqb 0) (board_states p.cells))

one_of_three : (g : ℕ) → g < 4 → (g ≡ 0 → ⊥) → one (eqb g 1) + one (eqb g 2) + one (eqb g 3) ≡ 1
one_of_three zero h n = absurd (n refl)
one_of_three (suc zero) h n = refl
one_of_three (suc (suc zero)) h n = refl
one_of_three (suc (suc (suc zero))) h n = refl
one_of_three (suc (suc (suc (suc g)))) h n = absurd (omega arith)

-- TWO REPORTS with the same numbers
pub same_report : {x x' o o' d d' e e' : ℕ} → x ≡ x' → o ≡ o' → d ≡ d' → e ≡ e' → report x o d e ≡ report x' o' d' e'
same_report x o d e = λ i. report (x i) (o i) (d i) (e i)

module _ (search : Searcher) where
  turns_on : (k : ℕ) (p : Position) (s : ℕ) → eqb (game_state p) 0 ≡ true
      → turns search (suc k) p s ≡ then_played (turn search p s) (turns search k (play p (turn search p s).move) (turn search p s).state)
  unfolding turns
  turns_on k p s e = rw (e, turns)

  turns_over : (k : ℕ) (p : Position) (s : ℕ) → eqb (game_state p) 0 ≡ false → turns search k p s ≡ record { last = p; state = s; expanded = 0 }
  unfolding turns
  turns_over zero p s e = refl
  turns_over (suc k) p s e = rw (e, turns)

  -- A finished position is scored as it is: nothing is expanded, and the state is unmoved
  pub game_over : (p : Position) (s : ℕ) → (game_state p ≡ 0 → ⊥) → play_game search p s ≡ record { last = p; state = s; expanded = 0 }
  unfolding play_game
  game_over p s h = turns_over (count 0 p.cells) p s (ne_eqb (game_state p) 0 h)

  -- A position in play: its turn plays a legal move, to an accepted position with one empty cell less; and then comes the game from there
  module _ (p : Position) (s : ℕ) (a : Accepted p) (e : game_state p ≡ 0) where
    pub turn_error : move_error p (turn search p s).move ≡ 0
    turn_error = in_legal p (turn search p s).move (turn_legal search p s (some (legal_moves p) (unfinished_some p a e).1))

    pub turn_accepted : Accepted (play p (turn search p s).move)
    turn_accepted = keeps_accepted p (turn search p s).move turn_error a

    pub turn_less : count 0 (play p (turn search p s).move).cells + 1 ≡ count 0 p.cells
    turn_less = one_less p (turn search p s).move turn_error

    pub game_on : play_game search p s ≡ then_played (turn search p s) (play_game search (play p (turn search p s).move) (turn search p s).state)
    unfolding play_game
    game_on =
        let q = play p (turn search p s).move in
        let fewer : count 0 p.cells ≡ suc (count 0 q.cells) = omega (arith, turn_less) in
        rw fewer (turns_on (count 0 q.cells) p s (eq-eqb (game_state p) 0 e))

  -- By turns: what holds of a finished game, and of a game one turn later, holds of every game from an accepted position
  module _ (P : Position → ℕ → Type 0) (over : (p : Position) (s : ℕ) → Accepted p → (game_state p ≡ 0 → ⊥) → P p s)
      (on : (p : Position) (s : ℕ) → Accepted p → game_state p ≡ 0 → P (play p (turn search p s).move) (turn search p s).state → P p s) where
    by_count : (k : ℕ) (p : Position) (s : ℕ) → count 0 p.cells < k → Accepted p → P p s
    by_count zero p s l a = absurd (omega arith)
    by_count (suc k) p s l a = go (eqb (game_state p) 0) refl (by_count k)
      where
        go : (b : Bool) → eqb (game_state p) 0 ≡ b → ((q : Position) (t : ℕ) → count 0 q.cells < k → Accepted q → P q t) → P p s
        go false e h = over p s a (eqb-false (game_state p) 0 e)
        go true e h =
            let z = eqb-true (game_state p) 0 e in
            on p s a z (h (play p (turn search p s).move) (turn search p s).state (omega (arith, turn_less p s a z)) (turn_accepted p s a z))

    pub by_turns : (p : Position) (s : ℕ) → Accepted p → P p s
    by_turns p s a = by_count (suc (count 0 p.cells)) p s (omega arith) a

  -- EVERY GAME from an accepted position ends, in an accepted position that is finished
  pub record Over (g : Played) : Type 0 where
    pub accepted : Accepted g.last
    pub over : game_state g.last ≡ 0 → ⊥

  pub game_ends : (p : Position) (s : ℕ) → Accepted p → Over (play_game search p s)
  game_ends =
      by_turns (λ p s. Over (play_game search p s))
      (λ p s a h. subst Over (sym (game_over p s h)) (record { accepted = a; over = h }))
      (λ p s a e r. subst Over (sym (game_on p s a e)) (record { accepted = r.accepted; over = r.over }))

  -- Its state keeps within 64 bits
  pub game_state_fits : (p : Position) (s : ℕ) → Accepted p → s < 2 ^ 64 → (play_game search p s).state < 2 ^ 64
  game_state_fits =
      by_turns (λ p s. s < 2 ^ 64 → (play_game search p s).state < 2 ^ 64)
      (λ p s a h l. rw (game_over p s h) l)
      (λ p s a e r l. rw (game_on p s a e) (r (turn_state search p s l)))

  -- THE REPORT adds up
  pub adds_up : (n : ℕ) (p : Position) (s : ℕ) → Accepted p → let r = play_match search n p s in r.x_wins_here + r.o_wins + r.draws ≡ n
  unfolding play_match counted
  adds_up zero p s a = refl
  adds_up (suc n) p s a =
      let g = play_game search p s in
      omega (arith, adds_up n p g.state a, one_of_three (game_state g.last) (state_four g.last) (game_ends p s a).over)

  -- Of a finished position every game is alike
  pub finished_games : (n : ℕ) (p : Position) (s : ℕ) → (game_state p ≡ 0 → ⊥)
      → play_match search n p s ≡ report (n * one (eqb (game_state p) 1)) (n * one (eqb (game_state p) 2)) (n * one (eqb (game_state p) 3)) 0
  unfolding play_match counted
  finished_games zero p s h =
      let none : (a : ℕ) → 0 ≡ 0 * a = λ a. omega arith in
      same_report (none (one (eqb (game_state p) 1))) (none (one (eqb (game_state p) 2))) (none (one (eqb (game_state p) 3))) refl
  finished_games (suc n) p s h =
      ap (λ (g : Played). counted g (play_match search n p g.state)) (game_over p s h)
      ∙ ap (counted (record { last = p; state = s; expanded = 0 })) (finished_games n p s h)
      ∙ same_report (more (one (eqb (game_state p) 1))) (more (one (eqb (game_state p) 2))) (more (one (eqb (game_state p) 3))) refl
    where
      more : (a : ℕ) → a + n * a ≡ suc n * a
      more a = omega (arith, suc-mul n a)

  -- WHERE NO SEARCH EXPANDS MORE THAN b: 81 searches a turn, 81 turns a game
  module _ (b : ℕ) (most : (s : Player) (q : Position) → (search s q).expanded ≤ b) where
    turns_most : (k : ℕ) (p : Position) (s : ℕ) → (turns search k p s).expanded ≤ k * (81 * b)
    unfolding turns
    turns_most zero p s = omega arith
    turns_most (suc k) p s = go (eqb (game_state p) 0) refl (turns_most k (play p (turn search p s).move) (turn search p s).state)
      where
        go : (f : Bool) → eqb (game_state p) 0 ≡ f → (turns search k (play p (turn search p s).move) (turn search p s).state).expanded ≤ k * (81 * b)
            → (turns search (suc k) p s).expanded ≤ suc k * (81 * b)
        go true e h = rw (turns_on k p s e) (omega (arith, turn_most search b most p s, suc-mul k (81 * b)))
        go false e h = rw (turns_over (suc k) p s e) (omega arith)

    pub game_most : (p : Position) (s : ℕ) → Accepted p → (play_game search p s).expanded ≤ 81 * (81 * b)
    unfolding play_game
    game_most p s a = omega (arith, turns_most (count 0 p.cells) p s, mul-le-mul_right (81 * b) (left_most p a))

    pub match_at_most : (n : ℕ) (p : Position) (s : ℕ) → Accepted p → (play_match search n p s).expanded ≤ n * (81 * (81 * b))
    unfolding play_match counted
    match_at_most zero p s a = omega arith
    match_at_most (suc n) p s a = omega (arith, match_at_most n p (play_game search p s).state a, game_most p s a, suc-mul n (81 * (81 * b)))
