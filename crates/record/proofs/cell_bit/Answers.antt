-- `record::cell_bit` meets its contract: a bit of a mask is a bit of the code. Assumes nothing.
use Rattle.std.specs.Prelude.{◌≡◌, refl, Bool, true, false}
use Rattle.std.proofs.Common.{ap, ◌∙◌}
use mir.Val.{bool_byte}
use Rattle.game.specs.Masks.{bit}
use Rattle.record.proofs.Storing.{cell_law}
use Rattle.record.proofs.cell_bit.Goals as goal

-- a test as a number
as_bit : (t : Bool) → bool_byte t ≡ bit t
as_bit true = refl
as_bit false = refl

pub returns : goal.returns
returns c p h = as_bit _ ∙ ap bit c.has.ensures ∙ cell_law p _ h _ c.requires.1 _ _ c.requires.2 c.player_bits.ensures.0
