-- `game::at` meets its contract: X's bit of the cell, then O's. Assumes nothing.
use mathlib.Core.Path.{ap, sym, ◌∙◌}
use Rattle.game.specs.Masks.{has_bit}
use Rattle.game.specs.Words.{cell_is}
use Rattle.game.proofs.at.Goals as goal

pub returns-then-has : goal.returns-then-has
returns-then-has c p h = sym (cell_is h c.args.b c.args.c c.requires.1 c.requires.2 ∙ rw (sym (c.has.ensures ∙ ap (λ m. has_bit m c.args.c) c.player_bits.ensures.0) ∙ c.if-has.true))

pub returns-then-has-2 : goal.returns-then-has-2
returns-then-has-2 c p h =
    sym (cell_is h c.args.b c.args.c c.requires.1 c.requires.2
    ∙ rw (
      sym (c.has.ensures ∙ ap (λ m. has_bit m c.args.c) c.player_bits.ensures.0) ∙ c.if-has.false,
      sym (c.has-2.ensures ∙ ap (λ m. has_bit m c.args.c) c.player_bits-2.ensures.0) ∙ c.if-has-2.true,
    ))

pub returns : goal.returns
returns c p h =
    sym (cell_is h c.args.b c.args.c c.requires.1 c.requires.2
    ∙ rw (
      sym (c.has.ensures ∙ ap (λ m. has_bit m c.args.c) c.player_bits.ensures.0) ∙ c.if-has.false,
      sym (c.has-2.ensures ∙ ap (λ m. has_bit m c.args.c) c.player_bits-2.ensures.0) ∙ c.if-has-2.false,
    ))
