-- The game's state after a legal move, from the masks before it. Rests on the laws of a move in words.
use Prim.Native.Nat.{ℕ, ◌+◌, ◌*◌, ◌^◌, ◌<◌}
use Rattle.std.specs.Prelude.{◌≡◌, refl, Bool, true, false, cond, ◌||◌, ltb, length, set}
use Rattle.std.proofs.Math.Path.{ap}
use Rattle.std.proofs.Common.{sym, ◌∙◌, add-zero, zero-add, arith, eq-eqb, eqb-true, length-set}
use Rattle.std.proofs.Math.Bool.{not}
use mathlib.Core.List.{List}
use Rattle.std.proofs.lemmas.Bool.{not-true}
use Rattle.std.proofs.Math.Dec.{eqb}
use Rattle.rules.specs.Rules.{Player, Position, other, mark, code, any, has_line, board, board_states, game_state, board_of, cell_of, move_of, move_error, play}
use Rattle.rules.specs.Rules.Player.{X, O}
use Rattle.rules.proofs.Boards.{length_board, length_states, code_board, code_states}
use Rattle.rules.proofs.Legal.{legal}
use Rattle.rules.proofs.States.{open_of, mover_state, game_mover}
use Rattle.rules.proofs.Tests.{both_false}
use Rattle.game.specs.Masks.{bit, mask, mask_of, nonzero, has_bit, mask_put, mask_lt, full}
use Rattle.game.specs.Lines.{line_in, line_of}
use Rattle.game.specs.Words.{Holds, all_board, turned, side_bit_lt, done_lt}
use Rattle.game.specs.Numbers.{player_number, state_number}
use Rattle.rules.specs.Record.{side_bit}
use Rattle.game.specs.declared.Player as declared-player
use Rattle.game.specs.declared.Player.TheVariants as variants
use Rattle.game.specs.declared.GameState.TheVariants.{Won}
use Rattle.game.specs.Moves.{moved_board, both_sides, mine_after, theirs_after, wins, fills, won_after, done_after}
use Rattle.children.specs.declared.Outer.{Outer}
use Rattle.children.specs.Scalars.{OuterOf, ChildOf}
use Rattle.children.specs.Skips.{board_test}
use Rattle.children.specs.Taken.{taken_lt}

-- The state of a game in play after a move: w, the mover's cells have a line on the board; a, the mover's boards have one with it; f, the board is full;
-- d, every board is done with it.
abbrev pub state_after : ℕ → Bool → Bool → Bool → Bool → ℕ
state_after k w a f d = cond w (cond a k (cond d 3 0)) (cond f (cond d 3 0) 0)

-- the same from the masks of boards after the move
after_cases : (w f : Bool) (won done own k : ℕ) → line_in won ≡ false → eqb done 511 ≡ false
    → cond (line_in (won + cond w own 0)) k (cond (eqb (done + (cond w own 0 + cond w 0 (cond f own 0))) 511) 3 0)
    ≡ state_after k w (line_in (won + own)) f (eqb (done + own) 511)
after_cases true f won done own k a d = rw (add-zero own)
after_cases false true won done own k a d = rw (add-zero won, a, zero-add own)
after_cases false false won done own k a d = rw (add-zero won, a, add-zero done, d)

module _ (p : Position) (m : ℕ) (ws : List ℕ) (base : ℕ) (h : Holds p ws base) (e : move_error p m ≡ 0) where
  wins_is : wins p m ws base h e ≡ line_in (mask (mark p.side) (board p.cells (board_of m)) + 2 ^ cell_of m)
  unfolding wins
  wins_is = ap line_in (mine_after p m ws base h e ∙ ap (λ n. n + 2 ^ cell_of m) (h.masks p.side (board_of m) (legal p m e).board_in))

  taken_after : mask (mark p.side) (moved_board p m) + mask (mark (other p.side)) (moved_board p m) ≡ mask_of nonzero (board p.cells (board_of m)) + 2 ^ cell_of m
  taken_after = omega (
    arith,
    mine_after p m ws base h e,
    theirs_after p m ws base h e,
    h.masks p.side (board_of m) (legal p m e).board_in,
    h.masks (other p.side) (board_of m) (legal p m e).board_in,
    both_sides p.side (board p.cells (board_of m)) (all_board (λ c. ltb c 3) p.cells (board_of m) h.codes),
  )

  fills_is : fills p m ws base h e ≡ eqb (mask_of nonzero (board p.cells (board_of m)) + 2 ^ cell_of m) 511
  unfolding fills
  fills_is = ap (λ n. eqb n 511) taken_after

  -- before the move nobody has a line of boards, and one board is in play
  no_line : line_in (mask (mark p.side) (board_states p.cells)) ≡ false
  unfolding game_state
  no_line = line_of (mark p.side) (board_states p.cells) (length_states p.cells) ∙ (open_of (board_states p.cells) (legal p m e).unfinished).no_line p.side

  not_full : eqb (mask_of nonzero (board_states p.cells)) 511 ≡ false
  unfolding game_state
  not_full = full (board_states p.cells) (length_states p.cells) ∙ ap not (open_of (board_states p.cells) (legal p m e).unfinished).has_empty

  by_masks : game_state (play p m)
      ≡ cond (line_in (mask (mark p.side) (board_states (play p m).cells))) (mark p.side) (cond (eqb (mask_of nonzero (board_states (play p m).cells)) 511) 3 0)
  unfolding mover_state
  by_masks =
      let s : List ℕ = board_states (play p m).cells in
      game_mover p m e
      ∙ rw (line_of (mark p.side) s (length_states (play p m).cells), full s (length_states (play p m).cells)) (ap (cond (has_line (mark p.side) s) (mark p.side)) (turned (any (eqb 0) s)))

  pub game_after : game_state (play p m) ≡ state_after (mark p.side)
      (line_in (mask (mark p.side) (board p.cells (board_of m)) + 2 ^ cell_of m))
      (line_in (mask (mark p.side) (board_states p.cells) + 2 ^ board_of m))
      (eqb (mask_of nonzero (board p.cells (board_of m)) + 2 ^ cell_of m) 511)
      (eqb (mask_of nonzero (board_states p.cells) + 2 ^ board_of m) 511)
  game_after =
      by_masks
      ∙ rw (won_after p m ws base h e, done_after p m ws base h e)
      (after_cases (wins p m ws base h e) (fills p m ws base h e) _ _ (2 ^ board_of m) (mark p.side) no_line not_full ∙ rw (wins_is, fills_is))

-- A game that neither a line of boards with board b nor its end as the last board can end stays in play.
in_play_still : (k : ℕ) (w f : Bool) → state_after k w false f false ≡ 0
in_play_still k true f = refl
in_play_still k false true = refl
in_play_still k false false = refl

stays_open : (p : Position) (o : Outer) → OuterOf p o → (m : ℕ) → move_error p m ≡ 0
    → (line_in (o.won + 2 ^ board_of m) || eqb (o.done + 2 ^ board_of m) 511) ≡ false → game_state (play p m) ≡ 0
stays_open p o r m e n =
    let t = both_false (line_in (o.won + 2 ^ board_of m)) (eqb (o.done + 2 ^ board_of m) 511) n in
    game_after p m r.words r.base r.held e
    ∙ rw (rw r.won_is at t.0, rw r.done_is at t.1)
    (in_play_still (mark p.side) (line_in (mask (mark p.side) (board p.cells (board_of m)) + 2 ^ cell_of m)) (eqb (mask_of nonzero (board p.cells (board_of m)) + 2 ^ cell_of m) 511))

-- Whether the end of board b can end the game; if not, no move there does.
pub record MayEnd (o : Outer) (b : ℕ) (r : Bool) : Type 0 where
  pub answer : r ≡ (line_in (o.won + 2 ^ b) || eqb (o.done + 2 ^ b) 511)
  pub stays : r ≡ false → (p : Position) → OuterOf p o → (m : ℕ) → board_of m ≡ b → move_error p m ≡ 0 → game_state (play p m) ≡ 0

pub may_end_by : (o : Outer) (b own : ℕ) (r : Bool) → own ≡ 2 ^ b → r ≡ (line_in (o.won + own) || eqb (o.done + own) 511) → MayEnd o b r
may_end_by o b own r q e =
    let a : r ≡ (line_in (o.won + 2 ^ b) || eqb (o.done + 2 ^ b) 511) = rw q at e in
    record { answer = a; stays = λ f p g m z l. stays_open p o g m l (rw z (sym a ∙ f)) }

-- The state after a child's move, by its scalars and the two bits.
pub child_state : (p : Position) (o : Outer) (mine taken b c own cell : ℕ) → ChildOf p o mine taken b c → own ≡ 2 ^ b → cell ≡ 2 ^ c
    → game_state (play p (move_of b c)) ≡ state_after (mark p.side) (line_in (mine + cell)) (line_in (o.won + own)) (eqb (taken + cell) 511) (eqb (o.done + own) 511)
child_state p o mine taken b c own cell k eo ec =
    let there : board_of (move_of b c) ≡ b = omega (arith, k.cell_in) in
    let place : cell_of (move_of b c) ≡ c = omega (arith, k.cell_in) in
    let r : OuterOf p o = k.outer in
    game_after p (move_of b c) r.words r.base r.held k.legal
    ∙ rw (there, place, eo, ec, r.won_is, r.done_is, k.cells.mine_is, k.cells.taken_is)

pub won_number : (q : declared-player.Player) (s : Player) → player_number q ≡ side_bit s → state_number (Won q) ≡ mark s
won_number variants.X X e = refl
won_number variants.X O e = absurd (omega arith)
won_number variants.O X e = absurd (omega arith)
won_number variants.O O e = refl

-- A bit that is clear can be added to nine.
bit_fits : (f : ℕ → Bool) (cs : List ℕ) (c v : ℕ) → length cs ≡ 9 → c < 9 → f (code cs c) ≡ false → f v ≡ true → mask_of f cs + 2 ^ c < 512
bit_fits f cs c v n h e t =
    let l : mask_of f (set cs c v) < 2 ^ 9 = rw (length-set cs c v, n) at (mask_lt f (set cs c v)) in
    let q : mask_of f (set cs c v) ≡ mask_of f cs + bit (f v) * 2 ^ c = mask_put f cs c v (rw n h) e in
    let b : bit (f v) ≡ 1 = rw t in
    omega (arith, rw b at q)

none_yet : (s : Player) → eqb 0 (mark s) ≡ false
none_yet X = refl
none_yet O = refl

pub won_fits : (p : Position) (o : Outer) (b : ℕ) → OuterOf p o → b < 9 → has_bit o.done b ≡ false → o.won + 2 ^ b < 512
won_fits p o b r h e =
    rw r.won_is
    (bit_fits (λ x. eqb x (mark p.side)) (board_states p.cells) b (mark p.side) (length_states p.cells) h
    (rw (eqb-true (code (board_states p.cells) b) 0 (board_test p o.done b r.done_is h ∙ ap not e)) (none_yet p.side))
    (eq-eqb (mark p.side) (mark p.side) refl))

pub mine_fits : (p : Position) (o : Outer) (mine taken b c : ℕ) → ChildOf p o mine taken b c → mine + 2 ^ c < 512
mine_fits p o mine taken b c k =
    let there : board_of (move_of b c) ≡ b = omega (arith, k.cell_in) in
    let place : cell_of (move_of b c) ≡ c = omega (arith, k.cell_in) in
    let empty : code p.cells (b * 9 + c) ≡ 0 = rw (there, place) at (legal p (move_of b c) k.legal).cell_empty in
    rw k.cells.mine_is
    (bit_fits (λ x. eqb x (mark p.side)) (board p.cells b) c (mark p.side) (length_board p.cells b k.outer.held.whole k.board_in) k.cell_in
    (rw (code_board p.cells b c k.cell_in ∙ empty) (none_yet p.side))
    (eq-eqb (mark p.side) (mark p.side) refl))

-- The board of a child is in play.
pub child_open : (p : Position) (o : Outer) (mine taken b c : ℕ) → ChildOf p o mine taken b c → has_bit o.done b ≡ false
child_open p o mine taken b c k =
    let there : board_of (move_of b c) ≡ b = omega (arith, k.cell_in) in
    let state_zero : code (board_states p.cells) b ≡ 0 = code_states p.cells b k.board_in ∙ rw there at (legal p (move_of b c) k.legal).board_open in
    not-true (has_bit o.done b) (sym (board_test p o.done b k.outer.done_is k.board_in) ∙ eq-eqb (code (board_states p.cells) b) 0 state_zero)

-- Small numbers.
pub outer_small : (p : Position) (o : Outer) → OuterOf p o → (o.done < 512) × (o.side < 2)
outer_small p o r = (rw r.done_is (done_lt p.cells), rw r.side_is (side_bit_lt p.side))

pub taken_small : (p : Position) (o : Outer) (mine taken b c : ℕ) → ChildOf p o mine taken b c → taken < 512
taken_small p o mine taken b c k = rw k.cells.taken_is (taken_lt k.outer.held b k.board_in)
