-- The masks of three codes, packed in a number, and the table of the 64. Rests on the game's masks.
use Rattle.std.specs.Prelude.{List, [], ◌∷◌, ℕ, ◌+◌, ◌*◌, ◌/◌, ◌%◌}
use Rattle.rules.specs.Rules.{answers}
use Rattle.game.specs.Masks.{mask}

-- The three codes of six bits.
abbrev pub three_codes : ℕ → List ℕ
three_codes n = n / 16 ∷ n / 4 % 4 ∷ n % 4 ∷ []

-- Their masks, nine bits apart.
abbrev pub packed : ℕ → ℕ
packed n = mask 1 (three_codes n) + mask 2 (three_codes n) * 512 + mask 3 (three_codes n) * 262144

-- Entry n of the table.
unfoldable pub triple_table : List ℕ
triple_table = answers packed 0 64
