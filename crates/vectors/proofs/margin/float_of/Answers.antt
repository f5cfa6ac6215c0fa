-- `vectors::margin::float_of` meets its contract: the test tells a NaN's patterns from the others. Assumes nothing.
use mathlib.Core.Path.{◌≡◌, refl, sym, ◌∙◌}
use lib.Ieee.{binary64, nan, div, of_bits, of_fields, odd}
use Rattle.vectors.proofs.Margins.{pattern_nan, pattern_number}
use Rattle.vectors.proofs.margin.float_of.Goals as goal

pub returns-then-n-gt-INFINITY : goal.returns-then-n-gt-INFINITY
unfolding div of_bits of_fields odd
returns-then-n-gt-INFINITY c = quotient ∙ sym (pattern_nan _ c.if-n-gt-INFINITY.true)
  where
    quotient : div binary64 (of_bits binary64 0) (of_bits binary64 0) ≡ nan
    quotient = refl

pub float_from_bits-result : goal.float_from_bits-result
float_from_bits-result c = pattern_number _ c.if-n-gt-INFINITY.false
