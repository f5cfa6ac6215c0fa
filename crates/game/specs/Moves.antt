-- A legal move made on a position's words: what is stored, and that the words then hold the position after the move. Rests on the rules' laws, Masks, Lines and Words.
use Rattle.std.specs.Prelude.{ℕ, ◌+◌, ◌*◌, ◌-◌, ◌^◌, ◌<◌, ◌≤◌, ◌≡◌, Bool, true, false, not, List, [], ◌∷◌, ◌⊎◌, length, get_or, set, eqb, ltb}
use Rattle.std.proofs.Math.Path.{refl, ap, sym}
use Rattle.std.proofs.Common.{◌∙◌, inl, inr, arith, eq-eqb, ne_eqb, lt-ltb, ltb-true, length-set, get_or-set_same, get_or-set_other}
use Rattle.std.proofs.Math.Bool.{cond, not-not}
use Rattle.std.proofs.Math.Decide.{ℕ_discrete}
use Rattle.rules.specs.Rules.{Player, Position, other, mark, code, all, any, state, board, board_states, board_of, cell_of, move_error, play}
use Rattle.rules.specs.Rules.Player.{X, O}
use Rattle.rules.specs.Record.{side_bit}
use Rattle.rules.proofs.Boards.{length_board, length_states, code_board, code_states}
use Rattle.rules.proofs.Legal.{legal}
use Rattle.rules.proofs.Tests.{both_true}
use Rattle.rules.proofs.States.{mover_state, mark_apart, board_mover, board_never, played_board, kept_board, played_states}
use Rattle.rules.proofs.Plays.{length_played, codes_kept, target_states, turn_passes}
use Rattle.game.specs.Masks.{bit, mask, mask_of, nonzero, has_bit, has_bit_of, mask_put, mask_sum, full}
use Rattle.game.specs.Lines.{line_in, line_of}
use Rattle.game.specs.Words.{Holds, all_board, side_bit_lt, nine_bits}

-- the words from base on hold the position after the move, and no other word is changed
pub record Moved (p : Position) (m base : ℕ) (ws ws' : List ℕ) : Type 0 where
  pub holds : Holds (play p m) ws' base
  pub same_length : length ws' ≡ length ws
  pub others : (i : ℕ) → (i < base) ⊎ (base + 23 ≤ i) → get_or ws' i 0 ≡ get_or ws i 0

-- some position is held of which the move is legal
abbrev pub Movable : List ℕ → ℕ → ℕ → Type 0
Movable ws base m = (p : Position) × Holds p ws base × (move_error p m ≡ 0)

-- the five stores of a move by side s on cell c of board b: the mover's cells, boards won, boards drawn, target, side
abbrev pub stored : List ℕ → ℕ → ℕ → ℕ → (mine won drawn target side : ℕ) → List ℕ
stored ws base s b mine won drawn target side =
    set (set (set (set (set ws (base + (s * 9 + b)) mine) (base + (18 + s)) won) (base + 20) drawn) (base + 21) target) (base + 22) side

-- such stores, that make each legal move of a position that the words hold
pub record Planned (ws : List ℕ) (base m side mine won drawn target : ℕ) : Type 0 where
  pub small : side < 2
  pub makes : (p : Position) → Holds p ws base → move_error p m ≡ 0 → Moved p m base ws (stored ws base side (board_of m) mine won drawn target (1 - side))

-- a store read at a place
store_read : (l : List ℕ) (base i v k : ℕ) → base + i < length l → get_or (set l (base + i) v) (base + k) 0 ≡ cond (eqb k i) v (get_or l (base + k) 0)
store_read l base i v k h = go (ℕ_discrete k i)
  where
    go : Dec (k ≡ i) → get_or (set l (base + i) v) (base + k) 0 ≡ cond (eqb k i) v (get_or l (base + k) 0)
    go (yes e) = rw (eq-eqb k i e, e) (get_or-set_same l (base + i) v 0 h)
    go (no n) = rw (ne_eqb k i n) (get_or-set_other l (base + i) (base + k) v 0 (λ e. n (omega arith)))

zero_apart : (s : Player) → 0 ≡ mark s → ⊥
zero_apart X e = omega arith
zero_apart O e = omega arith

three_apart : (s : Player) → 3 ≡ mark s → ⊥
three_apart X e = omega arith
three_apart O e = omega arith

module _ (ws : List ℕ) (base s b mine won drawn target side : ℕ) (room : base + 23 ≤ length ws) (hs : s < 2) (hb : b < 9) where
  same_long : length (stored ws base s b mine won drawn target side) ≡ length ws
  same_long = simp length-set

  -- place k after the five stores
  read : (k : ℕ) → get_or (stored ws base s b mine won drawn target side) (base + k) 0
      ≡ cond (eqb k 22) side (cond (eqb k 21) target (cond (eqb k 20) drawn (cond (eqb k (18 + s)) won (cond (eqb k (s * 9 + b)) mine (get_or ws (base + k) 0)))))
  read k =
      let s1 : List ℕ = set ws (base + (s * 9 + b)) mine in
      let s2 : List ℕ = set s1 (base + (18 + s)) won in
      let s3 : List ℕ = set s2 (base + 20) drawn in
      let s4 : List ℕ = set s3 (base + 21) target in
      store_read s4 base 22 side k (simp length-set (omega arith))
      ∙ ap (cond (eqb k 22) side) (store_read s3 base 21 target k (simp length-set (omega arith))
      ∙ ap (cond (eqb k 21) target) (store_read s2 base 20 drawn k (simp length-set (omega arith))
      ∙ ap (cond (eqb k 20) drawn) (store_read s1 base (18 + s) won k (simp length-set (omega arith))
      ∙ ap (cond (eqb k (18 + s)) won) (store_read ws base (s * 9 + b) mine k (omega arith)))))

  -- a word outside the 23 is untouched
  outside : (i : ℕ) → (i < base) ⊎ (base + 23 ≤ i) → get_or (stored ws base s b mine won drawn target side) i 0 ≡ get_or ws i 0
  outside i o =
      let s1 : List ℕ = set ws (base + (s * 9 + b)) mine in
      let s2 : List ℕ = set s1 (base + (18 + s)) won in
      let s3 : List ℕ = set s2 (base + 20) drawn in
      let s4 : List ℕ = set s3 (base + 21) target in
      get_or-set_other s4 (base + 22) i side 0 (λ e. away 22 (omega arith) e o)
      ∙ get_or-set_other s3 (base + 21) i target 0 (λ e. away 21 (omega arith) e o)
      ∙ get_or-set_other s2 (base + 20) i drawn 0 (λ e. away 20 (omega arith) e o)
      ∙ get_or-set_other s1 (base + (18 + s)) i won 0 (λ e. away (18 + s) (omega arith) e o)
      ∙ get_or-set_other ws (base + (s * 9 + b)) i mine 0 (λ e. away (s * 9 + b) (omega arith) e o)
    where
      away : (k : ℕ) → k < 23 → i ≡ base + k → (i < base) ⊎ (base + 23 ≤ i) → ⊥
      away k h e (inl l) = omega arith
      away k h e (inr l) = omega arith

  -- the five places, and the places that keep their words
  read_mine : (k : ℕ) → k ≡ s * 9 + b → get_or (stored ws base s b mine won drawn target side) (base + k) 0 ≡ mine
  read_mine k e =
      read k ∙ rw (ne_eqb k 22 (λ q. omega arith), ne_eqb k 21 (λ q. omega arith), ne_eqb k 20 (λ q. omega arith), ne_eqb k (18 + s) (λ q. omega arith), eq-eqb k (s * 9 + b) e)

  read_kept : (k : ℕ) → k < 18 → (k ≡ s * 9 + b → ⊥) → get_or (stored ws base s b mine won drawn target side) (base + k) 0 ≡ get_or ws (base + k) 0
  read_kept k h n =
      read k ∙ rw (ne_eqb k 22 (λ q. omega arith), ne_eqb k 21 (λ q. omega arith), ne_eqb k 20 (λ q. omega arith), ne_eqb k (18 + s) (λ q. omega arith), ne_eqb k (s * 9 + b) n)

  read_won : get_or (stored ws base s b mine won drawn target side) (base + (18 + s)) 0 ≡ won
  read_won =
      read (18 + s) ∙ rw (ne_eqb (18 + s) 22 (λ q. omega arith), ne_eqb (18 + s) 21 (λ q. omega arith), ne_eqb (18 + s) 20 (λ q. omega arith), eq-eqb (18 + s) (18 + s) refl)

  read_lost : (t : ℕ) → t < 2 → (t ≡ s → ⊥) → get_or (stored ws base s b mine won drawn target side) (base + (18 + t)) 0 ≡ get_or ws (base + (18 + t)) 0
  read_lost t l n =
      read (18 + t) ∙ rw (
        ne_eqb (18 + t) 22 (λ q. omega arith),
        ne_eqb (18 + t) 21 (λ q. omega arith),
        ne_eqb (18 + t) 20 (λ q. omega arith),
        ne_eqb (18 + t) (18 + s) (λ q. n (omega arith)),
        ne_eqb (18 + t) (s * 9 + b) (λ q. omega arith),
      )

-- what the state of the mover's board says of the masks of boards: a its line, f whether it is full
module _ (s : Player) (n : ℕ) where
  mover_won : (a f : Bool) → bit (eqb (cond a (mark s) (cond (not f) 0 3)) (mark s)) * n ≡ cond a n 0
  mover_won true f = rw (eq-eqb (mark s) (mark s) refl) (omega arith)
  mover_won false true = rw (ne_eqb 3 (mark s) (three_apart s)) (omega arith)
  mover_won false false = rw (ne_eqb 0 (mark s) (zero_apart s)) (omega arith)

  mover_drawn : (a f : Bool) → bit (eqb (cond a (mark s) (cond (not f) 0 3)) 3) * n ≡ cond a 0 (cond f n 0)
  mover_drawn true f = rw (ne_eqb (mark s) 3 (λ e. three_apart s (sym e))) (omega arith)
  mover_drawn false true = omega arith
  mover_drawn false false = omega arith

  mover_done : (a f : Bool) → bit (nonzero (cond a (mark s) (cond (not f) 0 3))) * n ≡ cond a n 0 + cond a 0 (cond f n 0)
  mover_done true f = rw (ne_eqb (mark s) 0 (λ e. zero_apart s (sym e))) (omega arith)
  mover_done false true = omega arith
  mover_done false false = omega arith

-- the cells of both sides are all that are not empty
no_three : (cs : List ℕ) → all (λ c. ltb c 3) cs ≡ true → mask 3 cs ≡ 0
no_three [] h = refl
no_three (c ∷ cs) h =
    let t = both_true (ltb c 3) (all (λ c. ltb c 3) cs) h in
    let l : c < 3 = ltb-true c 3 t.0 in
    rw (ne_eqb c 3 (λ q. omega arith), no_three cs t.1)

both_masks : (s : Player) (cs : List ℕ) → mask (mark s) cs + mask (mark (other s)) cs ≡ mask 1 cs + mask 2 cs
both_masks X cs = refl
both_masks O cs = omega arith

small_codes : (cs : List ℕ) → all (λ c. ltb c 3) cs ≡ true → all (λ c. ltb c 4) cs ≡ true
small_codes [] h = refl
small_codes (c ∷ cs) h =
    let t = both_true (ltb c 3) (all (λ c. ltb c 3) cs) h in
    let l : c < 3 = ltb-true c 3 t.0 in
    rw (lt-ltb c 4 (omega arith)) (small_codes cs t.1)

pub both_sides : (s : Player) (cs : List ℕ) → all (λ c. ltb c 3) cs ≡ true → mask (mark s) cs + mask (mark (other s)) cs ≡ mask_of nonzero cs
both_sides s cs h = sym (omega (arith, mask_sum cs (small_codes cs h), no_three cs h, both_masks s cs))

side_cases : (s t : Player) → (t ≡ s) ⊎ (t ≡ other s)
side_cases X X = inl refl
side_cases X O = inr refl
side_cases O X = inr refl
side_cases O O = inl refl

sides_apart : (s : Player) → side_bit (other s) * 9 ≡ side_bit s * 9 → ⊥
sides_apart X z = omega arith
sides_apart O z = omega arith

bit_other : (s : Player) → side_bit (other s) ≡ 1 - side_bit s
bit_other X = refl
bit_other O = refl

-- the cells of the move's board afterwards
abbrev pub moved_board : Position → ℕ → List ℕ
moved_board p m = board (play p m).cells (board_of m)

within : (t : Player) (b : ℕ) → b < 9 → side_bit t * 9 + b < 18
within t b l = omega (arith, side_bit_lt t)

module _ (p : Position) (m : ℕ) (ws : List ℕ) (base : ℕ) (h : Holds p ws base) (e : move_error p m ≡ 0) where
  inside : cell_of m < length (board p.cells (board_of m))
  inside = rw (length_board p.cells (board_of m) h.whole (legal p m e).board_in) (legal p m e).cell_in

  was_empty : code (board p.cells (board_of m)) (cell_of m) ≡ 0
  was_empty = code_board p.cells (board_of m) (cell_of m) (legal p m e).cell_in ∙ (legal p m e).cell_empty

  -- the masks of the board after the move
  cells_after : (t : Player) → mask (mark t) (moved_board p m)
      ≡ get_or ws (base + (side_bit t * 9 + board_of m)) 0 + bit (eqb (mark p.side) (mark t)) * 2 ^ cell_of m
  cells_after t =
      ap (mask (mark t)) (played_board p m e)
      ∙ mask_put (λ x. eqb x (mark t)) (board p.cells (board_of m)) (cell_of m) (mark p.side) inside (rw was_empty (ne_eqb 0 (mark t) (zero_apart t)))
      ∙ ap (λ n. n + bit (eqb (mark p.side) (mark t)) * 2 ^ cell_of m) (sym (h.masks t (board_of m) (legal p m e).board_in))

  pub mine_after : mask (mark p.side) (moved_board p m) ≡ get_or ws (base + (side_bit p.side * 9 + board_of m)) 0 + 2 ^ cell_of m
  mine_after = cells_after p.side ∙ rw (eq-eqb (mark p.side) (mark p.side) refl) (omega arith)

  pub theirs_after : mask (mark (other p.side)) (moved_board p m) ≡ get_or ws (base + (side_bit (other p.side) * 9 + board_of m)) 0
  theirs_after = cells_after (other p.side) ∙ rw (ne_eqb (mark p.side) (mark (other p.side)) (mark_apart p.side)) (omega arith)

  codes_after : all (λ c. ltb c 3) (moved_board p m) ≡ true
  codes_after = all_board (λ c. ltb c 3) (play p m).cells (board_of m) (codes_kept p m e h.codes)

  long_after : length (moved_board p m) ≡ 9
  long_after = length_board (play p m).cells (board_of m) (length_played p m ∙ h.whole) (legal p m e).board_in

  -- its line and whether it is full, read off the masks
  unfoldable pub wins : Bool
  wins = line_in (mask (mark p.side) (moved_board p m))

  unfoldable pub fills : Bool
  fills = eqb (mask (mark p.side) (moved_board p m) + mask (mark (other p.side)) (moved_board p m)) 511

  state_after_move : state (moved_board p m) ≡ cond wins (mark p.side) (cond (not fills) 0 3)
  unfolding wins fills mover_state
  state_after_move =
      board_mover p m e
      ∙ rw (
        line_of (mark p.side) (moved_board p m) long_after,
        both_sides p.side (moved_board p m) codes_after,
        full (moved_board p m) long_after,
        not-not (any (eqb 0) (moved_board p m)),
      )

  -- a mask of the boards after the move, of a test that boards in play fail
  boards_after : (f : ℕ → Bool) → f 0 ≡ false → mask_of f (board_states (play p m).cells)
      ≡ mask_of f (board_states p.cells) + bit (f (cond wins (mark p.side) (cond (not fills) 0 3))) * 2 ^ board_of m
  boards_after f z =
      ap (mask_of f) (played_states p m e)
      ∙ mask_put f (board_states p.cells) (board_of m) (state (moved_board p m)) (rw (length_states p.cells) (legal p m e).board_in)
      (ap f (code_states p.cells (board_of m) (legal p m e).board_in ∙ (legal p m e).board_open) ∙ z)
      ∙ ap (λ v. mask_of f (board_states p.cells) + bit (f v) * 2 ^ board_of m) state_after_move

  -- boards won by each side, drawn boards, done boards
  pub won_after : mask (mark p.side) (board_states (play p m).cells) ≡ mask (mark p.side) (board_states p.cells) + cond wins (2 ^ board_of m) 0
  won_after = boards_after (λ x. eqb x (mark p.side)) (ne_eqb 0 (mark p.side) (zero_apart p.side)) ∙ ap (λ n. mask (mark p.side) (board_states p.cells) + n) (mover_won p.side (2 ^ board_of m) wins fills)

  drawn_after : mask 3 (board_states (play p m).cells) ≡ mask 3 (board_states p.cells) + cond wins 0 (cond fills (2 ^ board_of m) 0)
  drawn_after = boards_after (λ x. eqb x 3) refl ∙ ap (λ n. mask 3 (board_states p.cells) + n) (mover_drawn p.side (2 ^ board_of m) wins fills)

  pub done_after : mask_of nonzero (board_states (play p m).cells)
      ≡ mask_of nonzero (board_states p.cells) + (cond wins (2 ^ board_of m) 0 + cond wins 0 (cond fills (2 ^ board_of m) 0))
  done_after = boards_after nonzero refl ∙ ap (λ n. mask_of nonzero (board_states p.cells) + n) (mover_done p.side (2 ^ board_of m) wins fills)

  lost_after : mask (mark (other p.side)) (board_states (play p m).cells) ≡ mask (mark (other p.side)) (board_states p.cells)
  lost_after =
      boards_after (λ x. eqb x (mark (other p.side))) (ne_eqb 0 (mark (other p.side)) (zero_apart (other p.side)))
      ∙ rw (sym state_after_move, ne_eqb (state (moved_board p m)) (mark (other p.side)) (board_never p m e)) (omega arith)

  target_after : cond (has_bit (mask_of nonzero (board_states (play p m).cells)) (cell_of m)) 15 (cell_of m) ≡ (play p m).target
  target_after =
      ap (λ t. cond t 15 (cell_of m)) (has_bit_of nonzero (board_states (play p m).cells) (cell_of m) (rw (length_states (play p m).cells) (legal p m e).cell_in))
      ∙ flip (eqb (code (board_states (play p m).cells) (cell_of m)) 0) ∙ sym (target_states p m e)
    where
      flip : (t : Bool) → cond (not t) 15 (cell_of m) ≡ cond t (cell_of m) 15
      flip true = refl
      flip false = refl

  -- the words after the five stores
  after : ℕ → ℕ → ℕ → ℕ → List ℕ
  after mine ew ed target =
      stored ws base (side_bit p.side) (board_of m) mine (get_or ws (base + (18 + side_bit p.side)) 0 + ew) (get_or ws (base + 20) 0 + ed) target (1 - side_bit p.side)

  module _ (mine theirs ew ed target : ℕ)
      (is_mine : mine ≡ get_or ws (base + (side_bit p.side * 9 + board_of m)) 0 + 2 ^ cell_of m)
      (is_theirs : theirs ≡ get_or ws (base + ((1 - side_bit p.side) * 9 + board_of m)) 0)
      (is_won : ew ≡ cond (line_in mine) (2 ^ board_of m) 0)
      (is_drawn : ed ≡ cond (line_in mine) 0 (cond (eqb (mine + theirs) 511) (2 ^ board_of m) 0))
      (is_target : target ≡ cond (has_bit (mask_of nonzero (board_states p.cells) + (ew + ed)) (cell_of m)) 15 (cell_of m)) where
    mine_mask : mine ≡ mask (mark p.side) (moved_board p m)
    mine_mask = is_mine ∙ sym mine_after

    theirs_mask : theirs ≡ mask (mark (other p.side)) (moved_board p m)
    theirs_mask = is_theirs ∙ ap (λ n. get_or ws (base + (n * 9 + board_of m)) 0) (sym (bit_other p.side)) ∙ sym theirs_after

    won_bit : ew ≡ cond wins (2 ^ board_of m) 0
    unfolding wins
    won_bit = is_won ∙ ap (λ n. cond (line_in n) (2 ^ board_of m) 0) mine_mask

    drawn_bit : ed ≡ cond wins 0 (cond fills (2 ^ board_of m) 0)
    unfolding wins fills
    drawn_bit = is_drawn ∙ rw (mine_mask, theirs_mask)

    masks_here : (t : Player) → (t ≡ p.side) ⊎ (t ≡ other p.side)
        → get_or (after mine ew ed target) (base + (side_bit t * 9 + board_of m)) 0 ≡ mask (mark t) (moved_board p m)
    unfolding after
    masks_here t (inl q) =
        rw q (read_mine ws base (side_bit p.side) (board_of m) _ _ _ _ _ h.room (side_bit_lt p.side) (legal p m e).board_in _ refl ∙ mine_mask)
    masks_here t (inr q) =
        rw q
        (read_kept ws base (side_bit p.side) (board_of m) _ _ _ _ _ h.room (side_bit_lt p.side) (legal p m e).board_in _ (within (other p.side) (board_of m) (legal p m e).board_in)
        (λ z. sides_apart p.side (omega arith))
        ∙ sym theirs_after)

    masks_after : (t : Player) (b : ℕ) → b < 9 → Dec (b ≡ board_of m)
        → get_or (after mine ew ed target) (base + (side_bit t * 9 + b)) 0 ≡ mask (mark t) (board (play p m).cells b)
    unfolding after
    masks_after t b l (yes q) = rw q (masks_here t (side_cases p.side t))
    masks_after t b l (no n) =
        read_kept ws base (side_bit p.side) (board_of m) _ _ _ _ _ h.room (side_bit_lt p.side) (legal p m e).board_in _ (within t b l)
        (λ z. n (omega (arith, (legal p m e).board_in, side_bit_lt t, side_bit_lt p.side)))
        ∙ h.masks t b l ∙ ap (mask (mark t)) (sym (kept_board p m e b n))

    won_at : (t : Player) → (t ≡ p.side) ⊎ (t ≡ other p.side)
        → get_or (after mine ew ed target) (base + (18 + side_bit t)) 0 ≡ mask (mark t) (board_states (play p m).cells)
    unfolding after
    won_at t (inl q) =
        rw q
        (read_won ws base (side_bit p.side) (board_of m) _ _ _ _ _ h.room (side_bit_lt p.side) (legal p m e).board_in
        ∙ ap (λ n. n + ew) (h.won p.side) ∙ ap (λ n. mask (mark p.side) (board_states p.cells) + n) won_bit ∙ sym won_after)
    won_at t (inr q) =
        rw q
        (read_lost ws base (side_bit p.side) (board_of m) _ _ _ _ _ h.room (side_bit_lt p.side) (legal p m e).board_in (side_bit (other p.side))
        (side_bit_lt (other p.side)) (λ z. sides_apart p.side (omega arith))
        ∙ h.won (other p.side) ∙ sym lost_after)

    moved_words : Moved p m base ws (after mine ew ed target)
    unfolding after
    moved_words = record {
      holds = record {
        whole = length_played p m ∙ h.whole;
        codes = codes_kept p m e h.codes;
        room = rw (same_long ws base (side_bit p.side) (board_of m) _ _ _ _ _ h.room (side_bit_lt p.side) (legal p m e).board_in) h.room;
        masks = λ t b l. masks_after t b l (ℕ_discrete b (board_of m));
        won = λ t. won_at t (side_cases p.side t);
        drawn = read ws base (side_bit p.side) (board_of m) _ _ _ _ _ h.room (side_bit_lt p.side) (legal p m e).board_in 20
            ∙ ap (λ n. n + ed) h.drawn ∙ ap (λ n. mask 3 (board_states p.cells) + n) drawn_bit ∙ sym drawn_after;
        target = read ws base (side_bit p.side) (board_of m) _ _ _ _ _ h.room (side_bit_lt p.side) (legal p m e).board_in 21
            ∙ is_target ∙ ap (λ n. cond (has_bit n (cell_of m)) 15 (cell_of m)) (rw (won_bit, drawn_bit) (sym done_after)) ∙ target_after;
        side = read ws base (side_bit p.side) (board_of m) _ _ _ _ _ h.room (side_bit_lt p.side) (legal p m e).board_in 22
            ∙ sym (bit_other p.side) ∙ ap side_bit (sym (turn_passes p m));
      };
      same_length = same_long ws base (side_bit p.side) (board_of m) _ _ _ _ _ h.room (side_bit_lt p.side) (legal p m e).board_in;
      others = outside ws base (side_bit p.side) (board_of m) _ _ _ _ _ h.room (side_bit_lt p.side) (legal p m e).board_in;
    }

  pub mine_small : (s : ℕ) → s ≡ get_or ws (base + 22) 0 → get_or ws (base + (s * 9 + board_of m)) 0 + 2 ^ cell_of m < 512
  mine_small s q =
      rw (q ∙ h.side) (rw mine_after at (nine_bits (mark p.side) (moved_board p m) long_after))

  -- the law of a move: s is the side's word, mine and theirs the two masks of the board, ew and ed the bits of a board won or drawn
  moved : (s mine theirs ew ed won drawn target : ℕ) → s ≡ get_or ws (base + 22) 0
      → mine ≡ get_or ws (base + (s * 9 + board_of m)) 0 + 2 ^ cell_of m
      → theirs ≡ get_or ws (base + ((1 - s) * 9 + board_of m)) 0
      → ew ≡ cond (line_in mine) (2 ^ board_of m) 0
      → ed ≡ cond (line_in mine) 0 (cond (eqb (mine + theirs) 511) (2 ^ board_of m) 0)
      → won ≡ get_or ws (base + (18 + s)) 0 + ew
      → drawn ≡ get_or ws (base + 20) 0 + ed
      → target ≡ cond (has_bit (mask_of nonzero (board_states p.cells) + (ew + ed)) (cell_of m)) 15 (cell_of m)
      → Moved p m base ws (stored ws base s (board_of m) mine won drawn target (1 - s))
  unfolding after
  moved s mine theirs ew ed won drawn target is_side is_mine is_theirs is-ew is-ed is_won is_drawn is_target =
      let q : s ≡ side_bit p.side = is_side ∙ h.side in
      rw (is_won, is_drawn, q) (moved_words mine theirs ew ed target (rw q at is_mine) (rw q at is_theirs) is-ew is-ed is_target)

-- the same from what the code reads and works out: b and c the move's board and cell, mine and theirs the masks of the board before the move
pub planned : (ws : List ℕ) (base m b c s mine cell theirs own ew ed done won drawn target : ℕ)
    → b ≡ board_of m → c ≡ cell_of m → s ≡ get_or ws (base + 22) 0 → s < 2
    → mine ≡ get_or ws (base + (s * 9 + b)) 0 → cell ≡ 2 ^ c → theirs ≡ get_or ws (base + ((1 - s) * 9 + b)) 0 → own ≡ 2 ^ b
    → ew ≡ cond (line_in (mine + cell)) own 0
    → ed ≡ cond (line_in (mine + cell)) 0 (cond (eqb (mine + cell + theirs) 511) own 0)
    → ((p : Position) → Holds p ws base → done ≡ mask_of nonzero (board_states p.cells))
    → won ≡ get_or ws (base + (18 + s)) 0 → drawn ≡ get_or ws (base + 20) 0
    → target ≡ cond (has_bit (done + (ew + ed)) c) 15 c
    → Planned ws base m s (mine + cell) (won + ew) (drawn + ed) target
planned ws base m b c s mine cell theirs own ew ed done won drawn target eb ec es ls em ex et eo eew eed edone ewon edrawn etarget = record {
  small = ls;
  makes = λ p h e. moved p m ws base h e s (mine + cell) theirs ew ed (won + ew) (drawn + ed) target es
      (rw (em, ex, eb, ec)) (rw (et, eb)) (eew ∙ rw (eo, eb)) (eed ∙ rw (eo, eb)) (rw ewon) (rw edrawn) (etarget ∙ rw (edone p h, ec));
}

-- a move tried: the number of its first error, 0 if it was made; an error leaves every word as it was
pub record Tried (p : Position) (m base : ℕ) (ws ws' : List ℕ) (n : ℕ) : Type 0 where
  pub number : n ≡ move_error p m
  pub made : n ≡ 0 → Moved p m base ws ws'
  pub left : (n ≡ 0 → ⊥) → ws' ≡ ws
