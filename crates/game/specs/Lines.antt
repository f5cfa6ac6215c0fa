-- The table of lines: which of the 512 masks hold one of the eight lines. Rests on the rules' lines and on Masks.
use Rattle.std.specs.Prelude.{ℕ, ◌<◌, ◌≡◌, Bool, List, length, get_or, eqb}
use Rattle.std.proofs.Common.{ap, ◌∙◌, arith, zero-add}
use Rattle.rules.specs.Rules.{code, answers, all, any, lines, has_line}
use Rattle.rules.proofs.Answers.{answers_at}
use Rattle.game.specs.Masks.{bit, mask, has_bit, has_bit_of}

-- a line whose places all pass a test
abbrev pub line_by : (ℕ → Bool) → Bool
line_by f = any (λ l. all f l) lines

-- nine bits hold a line
unfoldable pub line_in : ℕ → Bool
line_in m = line_by (has_bit m)

-- entry i of the table is 1 exactly if a listed line lies within i's nine bits
unfoldable pub line_table : List ℕ
line_table = answers (λ i. bit (line_in i)) 0 512

pub line_at : (m : ℕ) → m < 512 → get_or line_table m 0 ≡ bit (line_in m)
unfolding line_table
line_at m h = answers_at (λ i. bit (line_in i)) 0 512 m 0 h ∙ ap (λ i. bit (line_in i)) (zero-add m)

-- the bits of one code hold a line where the codes do
pub line_of : (k : ℕ) (cs : List ℕ) → length cs ≡ 9 → line_in (mask k cs) ≡ has_line k cs
unfolding line_in has_line
line_of k cs n = cc (at 0 (omega arith), at 1 (omega arith), at 2 (omega arith), at 3 (omega arith), at 4 (omega arith), at 5 (omega arith), at 6 (omega arith), at 7 (omega arith), at 8 (omega arith))
  where
    at : (c : ℕ) → c < 9 → has_bit (mask k cs) c ≡ eqb (code cs c) k
    at c h = has_bit_of (λ x. eqb x k) cs c (omega arith)
