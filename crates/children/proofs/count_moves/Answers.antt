-- `children::count_moves` meets its contract: by the target, one board, all boards or none. Assumes nothing.
use mathlib.Core.Path.{ap, sym, ◌∙◌}
use Rattle.children.specs.Counts.{board_moves, target_length, free_length, no_length}
use Rattle.children.proofs.count_moves.Goals as goal

pub returns-in-15 : goal.returns-in-15
returns-in-15 c p h g =
    let t = c.target-target.ensures ∙ h.target in
    c.free_moves.ensures p h (c.done_bits-done.ensures p h) (sym t ∙ c.in-15.is) ∙ sym (free_length p g)

pub returns-in-0-to-8 : goal.returns-in-0-to-8
returns-in-0-to-8 c p h g =
    let t = c.target-target.ensures ∙ h.target in
    c.board_moves.ensures.value p h (c.done_bits-done.ensures p h)
    ∙ ap (board_moves p) t ∙ sym (target_length p g h.whole (rw t at c.in-0-to-8.if-target-lt9-own.true))

pub returns-in_default : goal.returns-in_default
returns-in_default c p h g =
    let t = c.target-target.ensures ∙ h.target in
    sym (no_length p g (rw t at c.in_default.if-target-lt9-own.false) (rw t at c.in_default.in_default-own.rest.1))
