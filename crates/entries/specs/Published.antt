-- The published entries of a book that have a verdict, as far as a trainer may know them: their pairs and verdicts, in their order. Rests on Entries.
use Rattle.std.specs.Prelude.{cond, ◌&&◌, List, [], ◌∷◌, ℕ, eqb}
use Rattle.entries.specs.Entries.{Entry, rule_bits, verdict_bits, is_published, same_bytes, has_verdict}

-- What an entry says: a record, a rule and a verdict, without the bits that are never looked at.
pub record PairVerdict : Type 0 where
  pub bytes : List ℕ
  pub rule : ℕ
  pub verdict : ℕ

abbrev pub pair_verdict : Entry → PairVerdict
pair_verdict e = record { bytes = e.bytes; rule = rule_bits e.last; verdict = verdict_bits e.last }

abbrev pub published_pairs : List Entry → List PairVerdict
published_pairs [] = []
published_pairs (e ∷ es) = cond (is_published e.last && has_verdict e.last) (pair_verdict e ∷ published_pairs es) (published_pairs es)

-- The verdict of the first of them that is of a pair; 0 if none is.
abbrev pub verdict_among : (bytes : List ℕ) (rule : ℕ) → List PairVerdict → ℕ
verdict_among bytes rule [] = 0
verdict_among bytes rule (p ∷ ps) = cond (same_bytes p.bytes bytes && eqb p.rule rule) p.verdict (verdict_among bytes rule ps)
