-- A line's array and length, zeros after its text, and both from the text alone. Assumes nothing.
use Rattle.std.specs.Prelude.{◌≡◌, List, ◌++◌, ℕ, ◌-◌, ◌≤◌, length, take, drop, replicate}
use Rattle.std.proofs.Common.{arith, length-take-le, take-append-drop}
use Rattle.printed.specs.declared.Line.TheInside.{Inside}

-- the array has 176 bytes, and zeros after the text
abbrev pub Padded : Inside → Type 0
Padded l = (length l.bytes ≡ 176) × (l.length ≤ 176) × (drop l.length l.bytes ≡ replicate (176 - l.length) 0)

-- the array and the length of a text
abbrev pub padded : List ℕ → Inside
padded t = record { bytes = t ++ replicate (176 - length t) 0; length = length t }

pub padded_back : (l : Inside) → Padded l → padded (take l.length l.bytes) ≡ l
padded_back l h =
    let n : length (take l.length l.bytes) ≡ l.length = length-take-le l.length l.bytes (omega (arith, h.0, h.1)) in
    rw (n, ← h.2, take-append-drop l.length l.bytes)
