-- One more board: what the boards before it show becomes what they all show. Rests on Reading, Marks and the laws of crate cells.
use Rattle.std.specs.Prelude.{◌≡◌, refl, Bool, true, false, List, [], ◌∷◌, ◌++◌, ℕ, ◌+◌, ◌<◌, ltb, get_or}
use Rattle.std.proofs.Math.Path.{ap, ap₂, sym}
use Rattle.std.proofs.Common.{◌∙◌, zero-add, arith, lt-ltb, ltb-true, eqb-true}
use Rattle.std.proofs.Math.Bool.{◌&&◌, ◌||◌}
use Rattle.rules.specs.Rules.{answers, all, any, state, board}
use Rattle.rules.specs.Rules.Player.{X, O}
use Rattle.rules.specs.Record.{both_lines}
use Rattle.rules.proofs.Answers.{answers_next}
use Rattle.rules.proofs.Boards.{length_board}
use Rattle.rules.proofs.Tests.{both_true}
use Rattle.game.specs.Words.{all_board}
use Rattle.game.specs.Lines.{line_in}
use Rattle.cells.specs.declared.Codes.{Codes}
use Rattle.cells.specs.Reading.{Masks, Putting}
use Rattle.cells.proofs.Marks.{no_codes, putting, put_next}
use Rattle.cells.proofs.MoreBoards.{no_threes, cells_coded}
use Rattle.record.specs.declared.Shown.{Shown}
use Rattle.record.specs.Reading.{Whole, Coded, Shows, Adding}
use Rattle.record.proofs.Marks.{any_more, x_line, o_line}

all_small : (cs : List ℕ) → all (λ c. ltb c 3) cs ≡ true → all (λ c. ltb c 4) cs ≡ true
all_small [] h = refl
all_small (c ∷ cs) h =
    let s = both_true (ltb c 3) _ h in
    rw (lt-ltb c 4 (omega (arith, ltb-true c 3 s.0))) (all_small cs s.1)

-- The masks of a board whose cells are all below 3.
pub board_coded : (ws : List ℕ) (g : Coded ws) (b : ℕ) → b < 9 → Masks (board g.cells b) (record { x = get_or ws b 0; o = get_or ws (9 + b) 0; rest = 0 })
board_coded ws g b h =
    let coded = all_board (λ c. ltb c 3) g.cells b (cells_coded g.cells ws 0 g.whole g.read) in
    let small = all_small (board g.cells b) coded in
    record {
      small = small;
      x = ap (λ i. get_or ws i 0) (sym (zero-add b)) ∙ g.read.masks X b h;
      o = g.read.masks O b h;
      rest = sym (eqb-true _ 0 (sym (no_threes (board g.cells b) small) ∙ coded));
    }

pub nothing_shown : (cs : List ℕ) → Shows cs 0 (record { states = record { x = 0; o = 0; rest = 0 }; both = false })
nothing_shown cs = record { states = no_codes; both = refl }

module _ (r : Shown) (b : ℕ) (m : Codes) (g : Adding r b m) where
  -- the board's nine cells
  unfoldable pub nine : Whole m
  nine = record { codes = board g.cells b; count = length_board g.cells b g.whole g.place; masks = g.board_masks }

  -- the states of the boards before it
  unfoldable pub states_before : Putting r.states b
  states_before = putting (λ i. state (board g.cells i)) b r.states g.place g.shows.states

  both_more : (r.both || (line_in m.x && line_in m.o)) ≡ any both_lines (answers (board g.cells) 0 (b + 1))
  unfolding nine
  both_more =
      ap₂ ◌||◌ g.shows.both (ap₂ ◌&&◌ (x_line m nine) (o_line m nine))
      ∙ sym (any_more both_lines (answers (board g.cells) 0 b) (board g.cells b)) ∙ ap (any both_lines) (sym (answers_next (board g.cells) b))

  -- All of it: v is the board's state, and s the states with it.
  pub added : (s : Codes) (v : ℕ) (t : Bool) → v ≡ state (board g.cells b) → ((h : Putting r.states b) → Masks (h.codes ++ (v ∷ [])) s)
      → t ≡ (r.both || (line_in m.x && line_in m.o))
      → Shows g.cells (b + 1) (record { states = s; both = t })
  added s v t e put q = record {
    states = put_next (λ i. state (board g.cells i)) b r.states g.place g.shows.states v s e put;
    both = q ∙ both_more;
  }
