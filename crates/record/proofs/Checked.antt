-- Checks 2 to 6 as the code makes them, on what it keeps of the boards of a position with no code 3. Rests on Reading, Marks and Counted.
use Rattle.std.specs.Prelude.{◌≡◌, refl, Bool, true, false, cond, not, ◌&&◌, ◌||◌, ℕ, ◌+◌, ◌<◌, ◌≤◌, eqb, ltb}
use Rattle.std.proofs.Math.Path.{sym}
use Rattle.std.proofs.Common.{◌∙◌, add-zero, add-one, arith}
use mathlib.Core.List.{List, [], ◌∷◌}
use borrow.Author.Tests.{ltb-true}
use Rattle.rules.specs.Rules.{Player, mark, code, count, has_line, board_states}
use Rattle.rules.specs.Rules.Player.{X, O}
use Rattle.rules.specs.Record.{side_bit, fair_turn, both_lines, position_refusal}
use Rattle.rules.specs.Refusals.{refuses, first_refusal}
use Rattle.rules.proofs.Boards.{length_states}
use Rattle.game.specs.Masks.{has_bit, has_bit_of, nonzero}
use Rattle.game.specs.Lines.{line_in}
use Rattle.record.specs.declared.Boards.{Boards}
use Rattle.record.specs.Reading.{Whole, Checking, side_mask}
use Rattle.record.proofs.Marks.{whole_lt, x_line, o_line, done_mask}
use Rattle.record.proofs.Counted.{count_le}

fair : (s : Player) (x o : ℕ) → fair_turn s x o ≡ eqb x (o + side_bit s)
fair X x o = rw add-zero
fair O x o = rw add-one

-- If both sides have a line, the side to move has one.
own_line : (s : Player) (cs : List ℕ) → (both_lines cs || has_line (mark s) cs) ≡ has_line (mark s) cs
own_line X cs = go (has_line 1 cs) (has_line 2 cs)
  where
    go : (a b : Bool) → (a && b || a) ≡ a
    go true true = refl
    go true false = refl
    go false b = refl
own_line O cs = go (has_line 1 cs) (has_line 2 cs)
  where
    go : (a b : Bool) → (a && b || b) ≡ b
    go true true = refl
    go true false = refl
    go false b = refl

-- A second test that is asked only where the first one passes may be replaced by one that agrees there.
and_when : (l n h : Bool) → (l ≡ true → n ≡ h) → (l && n) ≡ (l && h)
and_when true n h i = i refl
and_when false n h i = refl

module _ (r : Boards) (t s : ℕ) (g : Checking r t s) where
  -- the states of the nine boards
  unfoldable pub states : Whole r.shown.states
  unfolding board_states
  states = record { codes = board_states g.position.cells; count = length_states g.position.cells; masks = g.shows.states }

  pub states_lt : (r.shown.states.x < 512) × (r.shown.states.o < 512) × (r.shown.states.rest < 512)
  states_lt = whole_lt r.shown.states states

  abbrev pub done_bits : ℕ
  done_bits = r.shown.states.x + r.shown.states.o + r.shown.states.rest

  turn : fair_turn g.position.side (count 1 g.position.cells) (count 2 g.position.cells) ≡ eqb r.xs (r.os + s)
  turn = fair g.position.side _ _ ∙ rw (← g.xs, ← g.os, g.moves)

  won : (p : Player) → s ≡ side_bit p → has_line (mark p) (board_states g.position.cells) ≡ line_in (side_mask r.shown.states s)
  unfolding states
  won X e = rw e (sym (x_line r.shown.states states))
  won O e = rw e (sym (o_line r.shown.states states))

  done : t < 9 → not (eqb (code (board_states g.position.cells) t) 0) ≡ has_bit done_bits t
  unfolding states
  done h = rw (done_mask r.shown.states states) (sym (has_bit_of nonzero (board_states g.position.cells) t (omega (arith, length_states g.position.cells))))

  done_law : (ltb t 9 && not (eqb (code (board_states g.position.cells) t) 0)) ≡ (ltb t 9 && has_bit done_bits t)
  done_law = and_when (ltb t 9) _ _ (λ e. done (ltb-true t 9 e))

  -- checks 3 to 6 in the code's terms
  abbrev pub later : List ℕ
  later =
      refuses 3 (not (eqb r.xs (r.os + s))) ∷ refuses 4 r.shown.both ∷ refuses 5 (line_in (side_mask r.shown.states s)) ∷ refuses 6 (ltb t 9 && has_bit done_bits t) ∷ []

  -- checks 2 to 6 in the code's terms
  pub check_law : position_refusal g.position ≡ first_refusal (refuses 2 (not (ltb t 9 || eqb t 15)) ∷ later)
  unfolding position_refusal
  check_law =
      rw (g.coded, turn, sym g.shows.both, own_line g.position.side (board_states g.position.cells) ∙ won g.position.side g.moves, ← g.aims, done_law)
      refl

  -- what the code adds up fits, and the mask of a side is nine bits
  pub own_lt : side_mask r.shown.states s < 512
  own_lt = go (eqb s 0)
    where
      go : (b : Bool) → cond b r.shown.states.x r.shown.states.o < 512
      go true = states_lt.0
      go false = states_lt.1

  pub os_few : r.os ≤ 81
  os_few = rw g.os (omega (arith, count_le 2 g.position.cells, g.whole))
