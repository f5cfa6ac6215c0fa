-- Which floats are margins, and of how many 256ths, computed from their bits. Rests on Margin.
use Rattle.std.specs.Prelude.{◌≡◌, refl, true, false, ℕ, Float}
use Rattle.std.specs.Float.{binary64}
use Rattle.std.specs.Float.Ieee.{odd, units, of_fields, of_bits}
use Rattle.machine.specs.Machine as machine
use Rattle.stay.specs.Margin.{is_margin, given, stay_of}

unfoldable pub float : ℕ → Float
unfolding odd units of_fields of_bits
float bits = of_bits binary64 bits

-- The float with these bits is a margin of k 256ths, or is none
abbrev Accepted : (bits k : ℕ) → Type 0
Accepted bits k = (is_margin (float bits) ≡ true) × (stay_of (given true (float bits)) ≡ machine.margin k)

abbrev Refused : (bits : ℕ) → Type 0
Refused bits = is_margin (float bits) ≡ false

-- Each field is a case.
pub record MarginCases : Type 0 where
  -- 0, negative zero, 1/256, 1/4, 1/2, 255/256 and 1
  pub zero : Accepted 0x0000000000000000 0
  pub negative_zero : Accepted 0x8000000000000000 0
  pub one_step : Accepted 0x3F70000000000000 1
  pub quarter : Accepted 0x3FD0000000000000 64
  pub half : Accepted 0x3FE0000000000000 128
  pub last_but_one : Accepted 0x3FEFE00000000000 255
  pub one : Accepted 0x3FF0000000000000 256
  -- 1/512, 1 and 1/256, -1/256, 2
  pub half_a_step : Refused 0x3F60000000000000
  pub one_step_above : Refused 0x3FF0100000000000
  pub below_zero : Refused 0xBF70000000000000
  pub two : Refused 0x4000000000000000
  -- the next floats: above 0 (the smallest of all, and its negative), above and below 1/256, 1/4 and 1
  pub smallest : Refused 0x0000000000000001
  pub smallest_negative : Refused 0x8000000000000001
  pub largest_subnormal : Refused 0x000FFFFFFFFFFFFF
  pub above_step : Refused 0x3F70000000000001
  pub below_step : Refused 0x3F6FFFFFFFFFFFFF
  pub above_quarter : Refused 0x3FD0000000000001
  pub below_quarter : Refused 0x3FCFFFFFFFFFFFFF
  pub above_one : Refused 0x3FF0000000000001
  pub below_one : Refused 0x3FEFFFFFFFFFFFFF
  -- the infinities and NaNs, quiet and signalling; the largest float
  pub infinite : Refused 0x7FF0000000000000
  pub minus_infinite : Refused 0xFFF0000000000000
  pub quiet_nan : Refused 0x7FF8000000000000
  pub signalling_nan : Refused 0x7FF0000000000001
  pub negative_nan : Refused 0xFFF8000000000000
  pub largest : Refused 0x7FEFFFFFFFFFFFFF
  -- not staying, whatever the margin
  pub off : stay_of (given false (float 0x7FF8000000000000)) ≡ machine.off

pub margin_cases : MarginCases
unfolding float
margin_cases = record {
  zero = (refl, refl);
  negative_zero = (refl, refl);
  one_step = (refl, refl);
  quarter = (refl, refl);
  half = (refl, refl);
  last_but_one = (refl, refl);
  one = (refl, refl);
  half_a_step = refl;
  one_step_above = refl;
  below_zero = refl;
  two = refl;
  smallest = refl;
  smallest_negative = refl;
  largest_subnormal = refl;
  above_step = refl;
  below_step = refl;
  above_quarter = refl;
  below_quarter = refl;
  above_one = refl;
  below_one = refl;
  infinite = refl;
  minus_infinite = refl;
  quiet_nan = refl;
  signalling_nan = refl;
  negative_nan = refl;
  largest = refl;
  off = refl;
}
