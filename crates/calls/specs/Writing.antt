-- What it is for moves to stand at the front of an output. Rests on lists alone.
use Rattle.std.specs.Prelude.{◌≡◌, List, ◌++◌, ℕ, length, drop}

-- n moves stand at the front of the output, and the rest of it is untouched
pub record Written (moves out out' : List ℕ) (n : ℕ) : Type 0 where
  pub count : n ≡ length moves
  pub left : out' ≡ moves ++ drop n out
