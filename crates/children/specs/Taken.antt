-- The masks of a board's cells, read off the words that hold a position. Rests on Words.
use Rattle.std.specs.Prelude.{ℕ, ◌+◌, ◌*◌, ◌<◌, ◌≡◌, List, ltb, get_or}
use Rattle.std.proofs.Common.{◌∙◌}
use Rattle.rules.specs.Rules.{Position, mark, board}
use Rattle.rules.specs.Rules.Player.{X, O}
use Rattle.rules.specs.Record.{side_bit}
use Rattle.rules.proofs.Boards.{length_board}
use Rattle.game.specs.Masks.{mask, mask_of, nonzero, mask_lt}
use Rattle.game.specs.Words.{Holds, all_board}
use Rattle.game.specs.Moves.{both_sides}

module _ {p : Position} {ws : List ℕ} {base : ℕ} (h : Holds p ws base) where
  -- the mover's cells of board b
  pub mine_is : (b side r : ℕ) → b < 9 → side ≡ side_bit p.side → r ≡ get_or ws (base + (side * 9 + b)) 0 → r ≡ mask (mark p.side) (board p.cells b)
  mine_is b side r l es er = er ∙ rw es (h.masks p.side b l)

  -- the taken cells of board b are X's and O's
  pub taken_is : (b x o : ℕ) → b < 9 → x ≡ get_or ws (base + (0 * 9 + b)) 0 → o ≡ get_or ws (base + (1 * 9 + b)) 0 → x + o ≡ mask_of nonzero (board p.cells b)
  taken_is b x o l ex eo = rw (ex ∙ h.masks X b l, eo ∙ h.masks O b l) (both_sides X (board p.cells b) (all_board (λ c. ltb c 3) p.cells b h.codes))

  pub taken_lt : (b : ℕ) → b < 9 → mask_of nonzero (board p.cells b) < 512
  taken_lt b l = rw (length_board p.cells b h.whole l) at (mask_lt nonzero (board p.cells b))
