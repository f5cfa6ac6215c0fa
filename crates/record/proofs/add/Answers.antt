-- `record::add` meets its contract: what `added` says of the states and the lines. Assumes nothing.
use mathlib.Core.Path.{refl}
use Rattle.record.proofs.Added.{nine, states_before, added}
use Rattle.record.proofs.add.Goals as goal

pub state_of-requires : goal.state_of-requires
state_of-requires c = nine _ _ _ c.requires

pub put-requires : goal.put-requires
put-requires c = (states_before _ _ _ c.requires, c.state_of.ensures.0)

pub both_lines-requires : goal.both_lines-requires
both_lines-requires c = nine _ _ _ c.requires

pub returns-then-shown : goal.returns-then-shown
unfolding nine
returns-then-shown c g =
    added _ _ _ g _ _ _ (c.state_of.ensures.1 (nine _ _ _ g)) c.put.ensures (rw (c.if-shown.true) refl)

pub returns-else-shown : goal.returns-else-shown
unfolding nine
returns-else-shown c g =
    added _ _ _ g _ _ _ (c.state_of.ensures.1 (nine _ _ _ g)) c.put.ensures (rw (c.if-shown.false) c.both_lines.ensures)
