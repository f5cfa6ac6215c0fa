-- What the contracts of `vectors::margin` cite. Rests on the library alone.
use Rattle.std.specs.Prelude.{ℕ, ◌+◌, ◌*◌, ◌<◌, ◌≡◌, List, [], ◌∷◌, length, get_or, Float, Option, Some, None, Result, Ok, Err}
use Rattle.std.specs.Float.{binary64}
use Rattle.std.specs.Float.Ieee.{of_bits}
use Rattle.vectors.specs.Words.{hex_value}
use Rattle.vectors.specs.declared.line.Unreadable.{Unreadable}

-- The number that hexadecimal digits spell after n, the first the highest.
unfoldable pub spelled : ℕ → List ℕ → ℕ
spelled n [] = n
spelled n (b ∷ bs) = spelled (n * 16 + hex_value b) bs

-- Sixteen bytes, each a digit.
pub record Digits (xs : List ℕ) : Type 0 where
  pub sixteen : length xs ≡ 16
  pub each : (k : ℕ) → k < 16 → hex_value (get_or xs k 0) < 16

-- The number that sixteen digits spell; other bytes spell none.
abbrev pub BitsOf : List ℕ → Result ℕ Unreadable → Type 0
BitsOf xs (Ok n) = Digits xs × (n ≡ spelled 0 xs)
BitsOf xs (Err e) = Digits xs → ⊥

-- The margin whose bits they spell.
abbrev pub MarginOf : List ℕ → Result (Option Float) Unreadable → Type 0
MarginOf xs (Ok (Some m)) = Digits xs × (m ≡ of_bits binary64 (spelled 0 xs))
MarginOf xs (Ok None) = ⊥
MarginOf xs (Err e) = Digits xs → ⊥
