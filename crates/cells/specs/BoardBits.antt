-- The nine codes in the 18 bits of a board. Rests on numbers alone.
use Rattle.std.specs.Prelude.{ℕ, ◌*◌, ◌-◌, ◌/◌, ◌%◌, ◌^◌}

-- The 18 bits of a board are nine codes; code 0 has the two most significant.
abbrev pub code_in : ℕ → ℕ → ℕ
code_in v c = v / 2 ^ (16 - 2 * c) % 4
