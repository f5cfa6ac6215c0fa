-- What the contracts of `vectors::line` and of those who read by it cite. Rests on the library alone.
use Rattle.std.specs.Prelude.{ℕ, ◌+◌, ◌-◌, ◌<◌, ◌≤◌, ◌≡◌, List, ◌++◌, cond, length, take, drop, get_or, ltb, Result, Ok, Err}
use Rattle.vectors.specs.declared.line.Unreadable.{Unreadable}

-- r is the first place from a on where b stands, or the length.
pub record First (s : List ℕ) (a b r : ℕ) : Type 0 where
  pub from : a ≤ r
  pub fits : r ≤ length s
  pub before : (k : ℕ) → k < r → a ≤ k → get_or s k 0 ≡ b → ⊥
  pub there : r < length s → get_or s r 0 ≡ b

-- A text starts with a word, which ends before its first space or with it, and goes on with the rest.
pub record Leads (text word rest : List ℕ) : Type 0 where
  pub whole : text ≡ word ++ rest
  pub ends : First text 0 32 (length word)

-- A space stands at the front of a text, then the word, and after it the rest.
abbrev pub Next : List ℕ → List ℕ → List ℕ → Type 0
Next text word rest = (get_or text 0 0 ≡ 32) × Leads (drop 1 text) word rest

-- n elements stand at the front of xs. The second part follows from the first, and spares a caller who lends them a proof.
abbrev pub IsPrefixLen : ℕ → List ℕ → Type 0
IsPrefixLen n xs = (n ≤ length xs) × (n ≡ length (take n xs))

-- So many bytes as were counted stand at the front of xs.
abbrev pub Counted : Result ℕ Unreadable → List ℕ → Type 0
Counted (Ok n) xs = IsPrefixLen n xs
Counted (Err e) xs = Unit {0}

-- The value of a hexadecimal digit: bytes 48 to 57 are 0 to 9, 65 to 70 are A to F. Any other byte gives 16.
abbrev pub hex_value : ℕ → ℕ
hex_value b = cond (ltb b 48) 16 (cond (ltb b 58) (b - 48) (cond (ltb b 65) 16 (cond (ltb b 71) (b - 65 + 10) 16)))

-- A digit's value; a byte that is none has none.
abbrev pub DigitOf : ℕ → Result ℕ Unreadable → Type 0
DigitOf b (Ok d) = (d ≡ hex_value b) × (d < 16)
DigitOf b (Err e) = hex_value b ≡ 16
