-- `game::game_state` meets its contract: X's line, O's line, and then whether every board is done. Assumes nothing.
use mathlib.Core.Path.{sym, ap, ◌∙◌}
use borrow.Author.Tests.{eq-eqb, ne_eqb}
use Rattle.game.specs.Lines.{line_in}
use Rattle.game.specs.Words.{state_is}
use Rattle.game.proofs.game_state.Goals as goal

pub returns-then-line : goal.returns-then-line
returns-then-line c p h = sym (state_is h ∙ rw (sym (c.line.ensures ∙ ap line_in c.won_bits.ensures.0) ∙ c.if-line.true))

pub returns-then-line-2 : goal.returns-then-line-2
returns-then-line-2 c p h = sym (state_is h ∙ rw (sym (c.line.ensures ∙ ap line_in c.won_bits.ensures.0) ∙ c.if-line.false, sym (c.line-2.ensures ∙ ap line_in c.won_bits-2.ensures.0) ∙ c.if-line-2.true))

pub returns-then-done_bits-eq511 : goal.returns-then-done_bits-eq511
returns-then-done_bits-eq511 c p h =
    sym (state_is h
    ∙ rw (
      sym (c.line.ensures ∙ ap line_in c.won_bits.ensures.0) ∙ c.if-line.false,
      sym (c.line-2.ensures ∙ ap line_in c.won_bits-2.ensures.0) ∙ c.if-line-2.false,
      eq-eqb _ 511 (sym (c.done_bits.ensures p h) ∙ c.if-done_bits-eq511.true),
    ))

pub returns : goal.returns
returns c p h =
    sym (state_is h
    ∙ rw (
      sym (c.line.ensures ∙ ap line_in c.won_bits.ensures.0) ∙ c.if-line.false,
      sym (c.line-2.ensures ∙ ap line_in c.won_bits-2.ensures.0) ∙ c.if-line-2.false,
      ne_eqb _ 511 (λ e. c.if-done_bits-eq511.false (c.done_bits.ensures p h ∙ e)),
    ))
