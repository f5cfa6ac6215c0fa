-- `expand::board_children` meets its contract: the loop for the board's kind. Assumes nothing.
use Rattle.children.specs.After.{outer_small}
use Rattle.expand.specs.Boards.{not_done, asks_open, asks_ending}
use Rattle.expand.proofs.board_children.Goals as goal

pub may_end-requires : goal.may_end-requires
may_end-requires c =
    ((_, c.requires.of_leaf.outer), c.requires.in_range, not_done _ _ _ _ _ c.requires)

pub mine_bits-mine-requires : goal.mine_bits-mine-requires
mine_bits-mine-requires c =
    ((_, c.requires.stands), (outer_small _ _ c.requires.of_leaf.outer).1, c.requires.in_range)

pub ending_board-requires : goal.ending_board-requires
ending_board-requires c =
    asks_ending _ _ _ _ _ c.requires _ c.taken_bits-taken.ensures.value _ c.mine_bits-mine.ensures

pub open_board-requires : goal.open_board-requires
open_board-requires c =
    asks_open _ _ _ _ _ c.requires _ c.taken_bits-taken.ensures.value _ c.may_end.ensures c.if-may_end.false

pub returns-then-may_end : goal.returns-then-may_end
unfolding asks_ending
returns-then-may_end c g =
    c.ending_board.ensures (asks_ending _ _ _ _ _ g _ c.taken_bits-taken.ensures.value _ c.mine_bits-mine.ensures)

pub returns-else-may_end : goal.returns-else-may_end
unfolding asks_open
returns-else-may_end c g =
    c.open_board.ensures (asks_open _ _ _ _ _ g _ c.taken_bits-taken.ensures.value _ c.may_end.ensures c.if-may_end.false)
