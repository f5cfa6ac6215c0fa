-- What it is for a pool to be untouched from a place on. Rests on the library alone.
use Rattle.std.specs.Prelude.{ℕ, ◌≤◌, ◌<◌, ◌≡◌, List, length, get_or}

-- From a on, each word of xs is w.
pub record Kept (xs : List ℕ) (a w : ℕ) : Type 0 where
  pub each : (k : ℕ) → k < length xs → a ≤ k → get_or xs k 0 ≡ w
