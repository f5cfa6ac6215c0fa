-- `room::is_short` meets its contract: free nodes are the capacity less the live ones; enough for 81, or for all legal moves, is enough for the children. Assumes nothing.
use native.Mathlib.Omega.{arith}
use Rattle.room.specs.Shortness.{to_count, short_by, enough_for_moves, enough_for_all}
use Rattle.room.proofs.is_short.Goals as goal

pub returns-then-free_nodes-ge-MOST_MOVES : goal.returns-then-free_nodes-ge-MOST_MOVES
returns-then-free_nodes-ge-MOST_MOVES c path g = enough_for_all g _ _ c.free_nodes-free_nodes.ensures c.capacity.ensures c.if-free_nodes-ge-MOST_MOVES.true

pub count_moves-requires : goal.count_moves-requires
count_moves-requires c =
    (_, (to_count c.requires.1 _ c.base-base.ensures).holds)

pub returns-then-free_nodes-count_moves : goal.returns-then-free_nodes-count_moves
returns-then-free_nodes-count_moves c path g =
    let l = to_count g _ c.base-base.ensures in
    let moves = c.count_moves.ensures _ l.holds l.playing in
    enough_for_moves g _ _ c.free_nodes-free_nodes.ensures c.capacity.ensures (omega (arith, moves, c.if-free_nodes-count_moves.true))

pub count_made-requires : goal.count_made-requires
count_made-requires c =
    to_count c.requires.1 _ c.base-base.ensures

pub returns : goal.returns
returns c path g =
    short_by g _ _ c.free_nodes-free_nodes.ensures c.capacity.ensures _ (c.count_made.ensures (to_count g _ c.base-base.ensures))
