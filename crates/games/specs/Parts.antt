-- A part of a list of words. Rests on lists alone.
use Rattle.std.specs.Prelude.{List, ℕ, ◌-◌, take, drop}

-- a part of a list, as a part of a slice is cut
abbrev pub cut : ℕ → ℕ → List ℕ → List ℕ
cut a e w = take (e - a) (drop a w)
