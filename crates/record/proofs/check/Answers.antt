-- `record::check` meets its contract: check 2 refuses the target, or the list of the later ones decides. Assumes nothing.
use mathlib.Core.Path.{sym, ◌∙◌}
use native.Mathlib.Omega.{arith}
use Rattle.rules.specs.Refusals.{first_refusal}
use Rattle.rules.proofs.Roundtrip.{side_lt}
use Rattle.record.proofs.Checked.{check_law, states_lt, own_lt, os_few}
use Rattle.record.proofs.check.Goals as goal

pub returns-then-not-is_target : goal.returns-then-not-is_target
unfolding first_refusal
returns-then-not-is_target c g = sym (check_law _ _ _ g ∙ rw (sym c.is_target.ensures ∙ c.if-not-is_target.true))

pub overflow_add-boards : goal.overflow_add-boards
overflow_add-boards c =
    omega (arith, os_few _ _ _ c.requires, side_lt c.requires.position.side, c.requires.moves)

pub line-requires : goal.line-requires
line-requires c = rw c.of_side.ensures (own_lt _ _ _ c.requires)

pub overflow_add-done : goal.overflow_add-done
overflow_add-done c = omega (arith, states_lt _ _ _ c.requires)

pub overflow_add-done-2 : goal.overflow_add-done-2
overflow_add-done-2 c = omega (arith, states_lt _ _ _ c.requires)

pub returns : goal.returns
unfolding first_refusal
returns c g =
    c.first.ensures ∙ rw (c.line.ensures, c.of_side.ensures, c.names_done.ensures) (sym (check_law _ _ _ g ∙ rw (sym c.is_target.ensures ∙ c.if-not-is_target.false)))
