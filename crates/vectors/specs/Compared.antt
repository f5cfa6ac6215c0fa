-- What it is for a line to agree.
use Rattle.std.specs.Prelude.{ℕ, ◌≡◌, Bool, true, List, Result, Ok}
use Rattle.vectors.specs.declared.line.Unreadable.{Unreadable}
use Rattle.vectors.specs.declared.answers.Answer.{Answer}

-- A line agreed exactly if the stored answer is the one given, and the two outputs are the same.
pub record Compared (stored : Result (Answer (List ℕ)) Unreadable) (given : Answer (List ℕ)) (want out : List ℕ) (r : Result Bool Unreadable) : Type 0 where
  pub agreed : r ≡ Ok true → (stored ≡ Ok given) × (want ≡ out)
  pub alike : stored ≡ Ok given → want ≡ out → r ≡ Ok true
