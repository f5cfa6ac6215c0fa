-- The record's bytes of an entry. Rests on lists alone.
use Rattle.std.specs.Prelude.{List, take}
use Prim.Native.Nat.{ℕ}
use Rattle.std.proofs.Math.ListN.{drop}

-- the record bytes of the entry at a place
abbrev pub record_at : (book : List ℕ) (at : ℕ) → List ℕ
record_at book at = take 21 (drop at book)
