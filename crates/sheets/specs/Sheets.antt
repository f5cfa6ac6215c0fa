-- The agreed opening of two sheets, and the call as one function of what comes in (MANUAL, Calls). Rests on the rules, the numbers of
-- the refusals and the calls' answers.
use Rattle.std.specs.Prelude.{cond, List, [], ◌∷◌, ℕ, eqb, ltb, length, replicate, Result, Ok, Err}
use Rattle.std.specs.Borrow.{Bor}
use Rattle.rules.specs.Rules.{Position, move_error, play, replay}
use Rattle.rules.specs.Rules.Player.{X}
use Rattle.rules.specs.Refusals.{refuses}
use Rattle.refusals.specs.Numbers.{number}
use Rattle.refusals.specs.declared.Refusal.{Refusal}
use Rattle.calls.specs.Calls.{answer_unless, after_moves}

-- The empty game: X to move, free choice, no cell played.
abbrev pub empty_game : Position
empty_game = record { side = X; target = 15; cells = replicate 81 0 }

-- The common beginning of two lists, up to the first difference or the end of one.
unfoldable pub common : (first second : List ℕ) → List ℕ
common [] second = []
common (m ∷ ms) [] = []
common (m ∷ ms) (n ∷ ns) = cond (eqb m n) (m ∷ common ms ns) []

-- The beginning of a list in which every move is legal, one after the other, from p: up to the first error.
unfoldable pub legal_part : Position → List ℕ → List ℕ
legal_part p [] = []
legal_part p (m ∷ ms) = cond (eqb (move_error p m) 0) (m ∷ legal_part (play p m) ms) []

-- The agreed opening.
unfoldable pub opening : (first second : List ℕ) → List ℕ
opening first second = legal_part empty_game (common first second)

-- The answer: the part of the first sheet that is handed back; the number, 0 or 7; the output afterwards.
pub record SheetsOutcome : Type 0 where
  pub part : List ℕ
  pub number : ℕ
  pub output : List ℕ

abbrev pub sheets_outcome : List ℕ → ℕ → List ℕ → SheetsOutcome
sheets_outcome part n out = record { part = part; number = n; output = out }

-- Moves that are handed back, the record after them in the output as replay writes it.
abbrev pub agreeing : (moves out : List ℕ) → SheetsOutcome
agreeing moves out = sheets_outcome moves 0 (after_moves (replay empty_game moves 0) out).output

-- Check 7 alone: an output of fewer than 21 bytes gets the empty part, and none of its bytes is written.
unfoldable pub sheets_call : (first second out : List ℕ) → SheetsOutcome
sheets_call first second out = answer_unless (refuses 7 (ltb (length out) 21)) (λ n. sheets_outcome [] n out) (agreeing (opening first second) out)

-- What the code's answer says: a part that is handed back, or the number of a refusal, with the empty part.
abbrev pub agreed : Result (Bor (List ℕ)) Refusal → List ℕ → SheetsOutcome
agreed (Ok part) out = sheets_outcome part.now 0 out
agreed (Err r) out = sheets_outcome [] (number r) out
