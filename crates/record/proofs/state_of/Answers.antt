-- `record::state_of` meets its contract: a line of 1s, one of 2s, all nine taken, in that order. Assumes nothing.
use mathlib.Core.Path.{sym, ◌∙◌}
use native.Mathlib.Omega.{arith}
use borrow.Author.Tests.{eq-eqb, ne_eqb}
use Rattle.record.proofs.Marks.{whole_lt, state_law}
use Rattle.record.proofs.state_of.Goals as goal

pub line-requires : goal.line-requires
line-requires c = omega (arith, whole_lt _ c.requires)

pub returns-then-line : goal.returns-then-line
returns-then-line c = (omega arith, λ g. sym (state_law _ g ∙ rw (sym c.line.ensures ∙ c.if-line.true)))

pub line-requires-2 : goal.line-requires-2
line-requires-2 c = omega (arith, whole_lt _ c.requires)

pub returns-then-line-2 : goal.returns-then-line-2
returns-then-line-2 c =
    (omega arith, λ g. sym (state_law _ g ∙ rw (sym c.line.ensures ∙ c.if-line.false, sym c.line-2.ensures ∙ c.if-line-2.true)))

pub overflow_add-codes : goal.overflow_add-codes
overflow_add-codes c = omega (arith, whole_lt _ c.requires)

pub overflow_add-codes-2 : goal.overflow_add-codes-2
overflow_add-codes-2 c = omega (arith, whole_lt _ c.requires)

pub returns-then-codes-eq511 : goal.returns-then-codes-eq511
returns-then-codes-eq511 c = (
  omega arith,
  λ g. sym (state_law _ g
      ∙ rw (sym c.line.ensures ∙ c.if-line.false, sym c.line-2.ensures ∙ c.if-line-2.false, eq-eqb _ _ c.if-codes-eq511.true)),
)

pub returns : goal.returns
returns c = (
  omega arith,
  λ g. sym (state_law _ g
      ∙ rw (sym c.line.ensures ∙ c.if-line.false, sym c.line-2.ensures ∙ c.if-line-2.false, ne_eqb _ _ c.if-codes-eq511.false)),
)
