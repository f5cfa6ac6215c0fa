-- `children::state_after` meets its contract: each way through is a case of `state_after`. Assumes nothing.
use mathlib.Core.Path.{sym, ◌∙◌}
use native.Mathlib.Omega.{arith}
use borrow.Author.Tests.{eq-eqb, ne_eqb}
use Rattle.std.proofs.Common.{true≢false}
use Rattle.children.specs.After.{child_state, won_number, won_fits, mine_fits, child_open, outer_small, taken_small}
use Rattle.children.proofs.state_after.Goals as goal
use Rattle.children.proofs.state_after.Goals.{else-line-via-then-line+else-line-2, else-line-via-else-line, then-line-3-via-then-line-3, then-line-3-via-else-line-3+then-taken-cell-eq511}

pub overflow_add-mine : goal.overflow_add-mine
overflow_add-mine c = omega (arith, mine_fits _ _ _ _ _ _ c.requires.1, c.bit-cell.ensures.0)

pub line-line-requires : goal.line-line-requires
line-line-requires c = omega (arith, mine_fits _ _ _ _ _ _ c.requires.1, c.bit-cell.ensures.0)

pub overflow_add-o : goal.overflow_add-o
overflow_add-o c =
    let k = c.requires.1 in
    omega (arith, won_fits _ _ _ k.outer k.board_in (child_open _ _ _ _ _ _ k), c.bit-own.ensures.0)

pub line-requires : goal.line-requires
line-requires c =
    let k = c.requires.1 in
    omega (arith, won_fits _ _ _ k.outer k.board_in (child_open _ _ _ _ _ _ k), c.bit-own.ensures.0)

pub player-requires : goal.player-requires
player-requires c = (outer_small _ _ c.requires.1.outer).1

pub returns-then-line-2 : goal.returns-then-line-2
returns-then-line-2 c p k =
    won_number c.player.result p.side (c.player.ensures ∙ k.outer.side_is)
    ∙ sym (child_state p _ _ _ _ _ _ _ k c.bit-own.ensures.0 c.bit-cell.ensures.0
    ∙ rw (sym c.line-line.ensures ∙ c.if-line.true, sym c.line.ensures ∙ c.if-line-2.true))

pub overflow_add-taken : goal.overflow_add-taken
overflow_add-taken c = omega (arith, taken_small _ _ _ _ _ _ c.requires.1, c.bit-cell.ensures.1)

pub overflow_add-o-then-line-3 : goal.overflow_add-o-then-line-3
overflow_add-o-then-line-3 c = omega (arith, (outer_small _ _ c.requires.1.outer).0, c.bit-own.ensures.1)

pub returns-then-line-3 : goal.returns-then-line-3
returns-then-line-3 c p k =
    c.rest_of_game.ensures
    ∙ sym (child_state p _ _ _ _ _ _ _ k c.bit-own.ensures.0 c.bit-cell.ensures.0
    ∙ elim c.then-line-3.branch [
      | then-line-3-via-then-line-3 w ↦ elim c.else-line.branch [
        | else-line-via-then-line+else-line-2 v ↦ rw (sym c.line-line.ensures ∙ w.if-line-3.true, sym v.line.ensures ∙ v.if-line-2.false)
        | else-line-via-else-line v ↦ absurd (true≢false (sym w.if-line-3.true ∙ v.if-line.false))
      ]
      | then-line-3-via-else-line-3+then-taken-cell-eq511 w ↦ rw (sym c.line-line.ensures ∙ w.if-line-3.false, eq-eqb _ 511 w.if-taken-cell-eq511.true)
    ])

pub returns : goal.returns
returns c p k =
    sym (child_state p _ _ _ _ _ _ _ k c.bit-own.ensures.0 c.bit-cell.ensures.0
    ∙ rw (sym c.line-line.ensures ∙ c.if-line-3.false, ne_eqb _ 511 c.if-taken-cell-eq511.false))
