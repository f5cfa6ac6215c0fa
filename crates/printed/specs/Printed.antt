-- The printed line: the bytes that the program judge writes, as a function of those that it reads. Bytes are ASCII. Rests on search's answer.
use Rattle.std.specs.Prelude.{true, false, cond, List, [], ◌∷◌, ◌++◌, ℕ, zero, suc, ◌+◌, ◌*◌, ◌/◌, ◌%◌, eqb, ltb, length, take, get_or}
use Rattle.std.specs.Prelude as code
use Rattle.machine.specs.Machine.{Result, Verdict, True, False, Unknown}
use Rattle.pn.specs.Results.{result_of}
use Rattle.pn.specs.declared.SearchResult.{SearchResult}
use Rattle.stay.specs.declared.Stay.TheVariants.{Off}
use Rattle.searches.specs.Searches.{Limits, limits, Searched, Answered, Refused, search_call}

-- One byte.
abbrev pub byte : ℕ → List ℕ
byte b = b ∷ []

-- The byte of a digit.
abbrev pub digit : ℕ → ℕ
digit d = 48 + d

-- The decimal digits of n: a number below ten is one digit, any other is the digits of its tenth, then its last. k bounds the steps, and n are enough.
abbrev pub digits : (k n : ℕ) → List ℕ
digits zero n = byte (digit n)
digits (suc k) n = elim (ltb n 10) [ true ↦ byte (digit n) | false ↦ digits k (n / 10) ++ byte (digit (n % 10)) ]

unfoldable pub decimal : ℕ → List ℕ
decimal n = digits n n

-- The words: True, False, Unknown; refused.
abbrev pub verdict_word : Verdict → List ℕ
verdict_word True = 84 ∷ 114 ∷ 117 ∷ 101 ∷ []
verdict_word False = 70 ∷ 97 ∷ 108 ∷ 115 ∷ 101 ∷ []
verdict_word Unknown = 85 ∷ 110 ∷ 107 ∷ 110 ∷ 111 ∷ 119 ∷ 110 ∷ []

abbrev pub refused_word : List ℕ
refused_word = 114 ∷ 101 ∷ 102 ∷ 117 ∷ 115 ∷ 101 ∷ 100 ∷ []

-- A number after a space; numbers so; the end of a line.
abbrev pub field : ℕ → List ℕ
field n = byte 32 ++ decimal n

abbrev pub fields : List ℕ → List ℕ
fields [] = []
fields (n ∷ ns) = field n ++ fields ns

abbrev pub newline : List ℕ
newline = byte 10

unfoldable pub fields_line : Result → List ℕ
fields_line r = verdict_word r.verdict ++ fields (r.proof ∷ r.disproof ∷ r.allocated ∷ r.freed ∷ r.proved ∷ r.disproved ∷ r.expanded ∷ r.cause ∷ []) ++ newline

unfoldable pub refused_line : ℕ → List ℕ
refused_line n = refused_word ++ field n ++ newline

unfoldable pub answer_line : Searched → List ℕ
answer_line (Answered r) = fields_line r
answer_line (Refused n) = refused_line n

-- A search's answer in the code's fields, with a refusal's number
abbrev pub numbered : code.Result SearchResult ℕ → Searched
numbered (code.Ok r) = Answered (result_of r)
numbered (code.Err n) = Refused n

-- judge's pool in words, five a node; its limit, budget and interval; it does not stay on a line.
abbrev pub judge_words : ℕ
judge_words = 3276 * 5

abbrev pub judge_limits : Limits
judge_limits = limits 18446744073709551615 100000 10000 Off

-- 21 record bytes and one rule byte are searched; an input of another length is refused as a record is.
unfoldable pub judge_line : List ℕ → List ℕ
judge_line input = cond (eqb (length input) 22) (answer_line (search_call (take 21 input) judge_words (get_or input 21 0) judge_limits)) (refused_line 1)
