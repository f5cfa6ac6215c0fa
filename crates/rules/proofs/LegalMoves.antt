-- The list of legal moves: it holds a move exactly if playing it is none of the five errors, it ascends, a finished position has none,
-- an accepted, unfinished one has some, and none has over 81. Rests on Boards, States, Legal and Checks.
use Rattle.std.specs.Prelude.{Bool, true, false, cond, ◌&&◌, ◌≡◌, refl, ◌⊎◌, ◌↔◌, eqb, length}
use Rattle.std.proofs.Math.Bool.{or-true}
use Rattle.std.proofs.Common.{sym, ap, ◌∙◌, inl, inr, not-suc-le-zero, le_of_suc-le-suc, add-zero, arith, eqb-true, eq-eqb, ne_eqb}
use mathlib.Core.List.Memᴰ
use mathlib.Core.List.{List, [], ◌∷◌, Memᴰ}
use Prim.Native.Nat.{ℕ, zero, suc, ◌+◌, ◌*◌, ◌/◌, ◌%◌, ◌<◌, ◌≤◌}
use Rattle.rules.specs.Rules.{Position, code, answers, state, board, board_states, game_state, move_of, board_of, cell_of, leads, cell_at, move_error, keep, every_move, playable, legal_moves}
use Rattle.rules.proofs.Tests.{both_true, any_at, from_keep, to_keep}
use Rattle.rules.proofs.Boards.{code_states, code_board, length_states, board_short}
use Rattle.rules.proofs.Legal.{legal, legal_error}
use Rattle.rules.proofs.States.{open_of}
use Rattle.rules.specs.Record.{Accepted}
use Rattle.rules.proofs.Checks.{passes}

-- Each is less than all that follow.
abbrev pub Ascending : List ℕ → Type 0
Ascending [] = Unit {0}
Ascending (x ∷ xs) = ((y : ℕ) → Memᴰ y xs → x < y) × Ascending xs

-- what is kept of an ascending list
module _ (f : ℕ → Bool) where
  ascending_keep : (l : List ℕ) → Ascending l → Ascending (keep f l)
  ascending_keep [] a = tt
  ascending_keep (x ∷ l) a = go (f x) (ascending_keep l a.1)
    where
      go : (t : Bool) → Ascending (keep f l) → Ascending (cond t (x ∷ keep f l) (keep f l))
      go true h = (λ y i. a.0 y (from_keep f l y i).0, h)
      go false h = h

-- the members of a list of answers, and their order
module _ (g : ℕ → ℕ) where
  answer_in : (i n k : ℕ) → k < n → Memᴰ (g (i + k)) (answers g i n)
  answer_in i zero k h = absurd (not-suc-le-zero h)
  answer_in i (suc n) zero h = Memᴰ.head (ap g (add-zero i))
  answer_in i (suc n) (suc k) h =
      let e : i + suc k ≡ suc i + k = omega arith in
      Memᴰ.tail (Memᴰ.cast (ap g e) (answer_in (suc i) n k (le_of_suc-le-suc h)))

  in_answers : (i n m : ℕ) → Memᴰ m (answers g i n) → (k : ℕ) × (i ≤ k) × (k < i + n) × (m ≡ g k)
  in_answers i zero m j = absurd (Memᴰ.not-nil j)
  in_answers i (suc n) m (Memᴰ.head q) = (i, omega arith, omega arith, q)
  in_answers i (suc n) m (Memᴰ.tail j) = let r = in_answers (suc i) n m j in (r.0, omega (arith, r.1), omega (arith, r.2), r.3)

  ascending_answers : ((j k : ℕ) → j < k → g j < g k) → (i n : ℕ) → Ascending (answers g i n)
  ascending_answers h i zero = tt
  ascending_answers h i (suc n) =
      (λ y j. let r = in_answers (suc i) n y j in omega (arith, h i r.0 r.1, r.3), ascending_answers h (suc i) n)

-- every move names one of nine boards and one of its nine cells
abbrev nth : ℕ → ℕ
nth i = move_of (i / 9) (i % 9)

every_in : (m : ℕ) → board_of m < 9 → cell_of m < 9 → Memᴰ m every_move
every_in m b c =
    let k : ℕ = board_of m * 9 + cell_of m in
    let e : m ≡ nth (0 + k) = omega arith in
    Memᴰ.cast e (answer_in nth 0 81 k (omega arith))

in_every : (m : ℕ) → Memᴰ m every_move → (board_of m < 9) × (cell_of m < 9)
in_every m i = let r = in_answers nth 0 81 m i in (omega (arith, r.2, r.3), omega (arith, r.2, r.3))

pub in_legal : (p : Position) (m : ℕ) → Memᴰ m (legal_moves p) → move_error p m ≡ 0
unfolding legal_moves game_state
in_legal p m i = go (eqb (state (board_states p.cells)) 0) refl i
  where
    go : (t : Bool) → eqb (state (board_states p.cells)) 0 ≡ t → Memᴰ m (cond t (keep (playable p (board_states p.cells)) every_move) [])
        → move_error p m ≡ 0
    go false e j = absurd (Memᴰ.not-nil j)
    go true e j =
        let states : List ℕ = board_states p.cells in
        let kept = from_keep (playable p states) every_move m j in
        let inside = in_every m kept.0 in
        let fit = both_true (eqb (code states (board_of m)) 0 && leads p.target (board_of m)) (eqb (cell_at p.cells m) 0) kept.1 in
        let led = both_true (eqb (code states (board_of m)) 0) (leads p.target (board_of m)) fit.0 in
        legal_error p m (record {
          board_in = inside.0;
          cell_in = inside.1;
          unfinished = eqb-true (state states) 0 e;
          board_open = sym (code_states p.cells (board_of m) inside.0) ∙ eqb-true (code states (board_of m)) 0 led.0;
          led = led.1;
          cell_empty = eqb-true (cell_at p.cells m) 0 fit.1;
        })

pub legal_in : (p : Position) (m : ℕ) → move_error p m ≡ 0 → Memᴰ m (legal_moves p)
unfolding legal_moves game_state
legal_in p m e =
    let l = legal p m e in
    let open_board : code (board_states p.cells) (board_of m) ≡ 0 = code_states p.cells (board_of m) l.board_in ∙ l.board_open in
    let fit : playable p (board_states p.cells) m ≡ true = rw (open_board, l.led, l.cell_empty) in
    rw (eq-eqb (state (board_states p.cells)) 0 l.unfinished)
    (to_keep (playable p (board_states p.cells)) every_move m (every_in m l.board_in l.cell_in) fit)

pub legal_iff : (p : Position) (m : ℕ) → Memᴰ m (legal_moves p) ↔ (move_error p m ≡ 0)
legal_iff p m = (in_legal p m, legal_in p m)

pub ascending : (p : Position) → Ascending (legal_moves p)
unfolding legal_moves
ascending p = go (eqb (state (board_states p.cells)) 0)
  where
    go : (t : Bool) → Ascending (cond t (keep (playable p (board_states p.cells)) every_move) [])
    go true = ascending_keep (playable p (board_states p.cells)) every_move (ascending_answers nth (λ j k h. omega arith) 0 81)
    go false = tt

pub finished_none : (p : Position) → (game_state p ≡ 0 → ⊥) → legal_moves p ≡ []
unfolding legal_moves game_state
finished_none p n = rw (ne_eqb (state (board_states p.cells)) 0 n)

-- nine codes in play have one that is 0
zero_at : (cs : List ℕ) → state cs ≡ 0 → (i : ℕ) × (i < length cs) × (code cs i ≡ 0)
zero_at cs e =
    let r = any_at (eqb 0) cs 3 (open_of cs e).has_empty in
    (r.0, r.1, sym (eqb-true 0 (code cs r.0) r.2))

-- an unfinished position whose target leads to a board in play
module _ (p : Position) (g : game_state p ≡ 0) where
  move_there : (b : ℕ) → b < 9 → state (board p.cells b) ≡ 0 → leads p.target b ≡ true → (m : ℕ) × Memᴰ m (legal_moves p)
  move_there b h e l =
      let r = zero_at (board p.cells b) e in
      let c : ℕ = r.0 in
      let hc : c < 9 = omega (arith, r.1, board_short p.cells b) in
      let there : board_of (move_of b c) ≡ b = omega arith in
      let place : cell_of (move_of b c) ≡ c = omega arith in (
        move_of b c,
        legal_in p (move_of b c) (legal_error p (move_of b c) (record {
          board_in = omega arith;
          cell_in = omega arith;
          unfinished = g;
          board_open = rw there e;
          led = rw there l;
          cell_empty = rw (there, place) (sym (code_board p.cells b c hc) ∙ r.2);
        })),
      )

  pub unfinished_move : (p.target < 9) ⊎ (p.target ≡ 15) → (p.target < 9 → state (board p.cells p.target) ≡ 0) → (m : ℕ) × Memᴰ m (legal_moves p)
  unfolding game_state
  unfinished_move (inl l) e = move_there p.target l (e l) (rw (eq-eqb p.target p.target refl) (or-true (eqb p.target 15)))
  unfinished_move (inr q) e =
      let r = zero_at (board_states p.cells) g in
      let b : ℕ = r.0 in
      let h : b < 9 = omega (arith, r.1, length_states p.cells) in
      move_there b h (sym (code_states p.cells b h) ∙ r.2) (rw (eq-eqb p.target 15 q))

pub unfinished_some : (p : Position) → Accepted p → game_state p ≡ 0 → (m : ℕ) × Memᴰ m (legal_moves p)
unfinished_some p a g = let h = passes p a.passes in unfinished_move p g h.target_range h.target_open

-- at most 81 moves are legal
keep_few : (f : ℕ → Bool) (l : List ℕ) → length (keep f l) ≤ length l
keep_few f [] = omega arith
keep_few f (m ∷ l) = go (f m) (keep_few f l)
  where
    go : (b : Bool) → length (keep f l) ≤ length l → length (cond b (m ∷ keep f l) (keep f l)) ≤ suc (length l)
    go true h = omega arith
    go false h = omega arith

pub moves_few : (p : Position) → length (legal_moves p) ≤ 81
unfolding legal_moves
moves_few p = go (eqb (state (board_states p.cells)) 0)
  where
    go : (b : Bool) → length (cond b (keep (playable p (board_states p.cells)) every_move) []) ≤ 81
    go true = keep_few (playable p (board_states p.cells)) every_move
    go false = omega arith
