-- What an expansion reads of a position, besides its cells and of one board's cells; and a child by one of its cells. Rests on Words.
use Rattle.std.specs.Prelude.{ℕ, ◌+◌, ◌<◌, ◌≡◌, List, get_or}
use Rattle.std.proofs.Common.{◌∙◌}
use Rattle.rules.specs.Rules.{Position, mark, board, board_states, move_of, move_error}
use Rattle.rules.specs.Record.{side_bit}
use Rattle.game.specs.Masks.{mask, mask_of, nonzero}
use Rattle.game.specs.Words.{Holds}
use Rattle.children.specs.declared.Outer.{Outer}

-- Read from words that hold p: the boards that the mover has won, those that are done, target and side.
pub record OuterOf (p : Position) (o : Outer) : Type 0 where
  pub words : List ℕ
  pub base : ℕ
  pub held : Holds p words base
  pub won_is : o.won ≡ mask (mark p.side) (board_states p.cells)
  pub done_is : o.done ≡ mask_of nonzero (board_states p.cells)
  pub target_is : o.target ≡ p.target
  pub side_is : o.side ≡ side_bit p.side

pub outer_of : {p : Position} {ws : List ℕ} {base : ℕ} → Holds p ws base → (o : Outer) → o.side ≡ get_or ws (base + 22) 0 → o.won ≡ get_or ws (base + (18 + o.side)) 0
    → o.done ≡ mask_of nonzero (board_states p.cells) → o.target ≡ get_or ws (base + 21) 0 → OuterOf p o
outer_of {p} {ws} {base} h o es ew ed et = record {
  words = ws;
  base = base;
  held = h;
  won_is = ew ∙ rw (es ∙ h.side) (h.won p.side);
  done_is = ed;
  target_is = et ∙ h.target;
  side_is = es ∙ h.side;
}

-- The mover's cells on board b, and the taken ones.
pub record CellsOf (p : Position) (b mine taken : ℕ) : Type 0 where
  pub mine_is : mine ≡ mask (mark p.side) (board p.cells b)
  pub taken_is : taken ≡ mask_of nonzero (board p.cells b)

-- Cell c of board b is a legal move of p.
pub record ChildOf (p : Position) (o : Outer) (mine taken b c : ℕ) : Type 0 where
  pub board_in : b < 9
  pub cell_in : c < 9
  pub outer : OuterOf p o
  pub cells : CellsOf p b mine taken
  pub legal : move_error p (move_of b c) ≡ 0
