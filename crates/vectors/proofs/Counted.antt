-- A law of `Counted`, for those who took the count apart. Assumes nothing.
use Rattle.std.specs.Prelude.{ℕ, ◌≡◌, List, Result, Ok}
use Rattle.vectors.specs.Words.{IsPrefixLen, Counted}
use Rattle.vectors.specs.declared.line.Unreadable.{Unreadable}

pub counted : (xs : List ℕ) {r : Result ℕ Unreadable} {n : ℕ} → r ≡ Ok n → Counted r xs → IsPrefixLen n xs
counted xs e h = rw e at h
