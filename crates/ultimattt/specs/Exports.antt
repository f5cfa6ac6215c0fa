-- The numbers of search's and full verdict's answers as C has them. Rests on Searches.
use Rattle.std.specs.Prelude.{ℕ}
use Rattle.machine.specs.Machine.{Result}
use Rattle.prove.specs.Numbers.{verdict_number}
use Rattle.searches.specs.Searches as calls
use Rattle.searches.specs.Searches.{Searched, Answered, Refused, Judged, Full, Turned, FullVerdict}
use Rattle.ultimattt.specs.declared.exports.ResultFields.{ResultFields}
use Rattle.ultimattt.specs.declared.exports.SearchAnswer.{SearchAnswer}
use Rattle.ultimattt.specs.declared.exports.FullAnswer.{FullAnswer}

-- The nine fields of a result; a verdict is 0 Unknown, 1 True, 2 False.
pub record Fields : Type 0 where
  pub verdict : ℕ
  pub proof : ℕ
  pub disproof : ℕ
  pub allocated : ℕ
  pub freed : ℕ
  pub proved : ℕ
  pub disproved : ℕ
  pub expanded : ℕ
  pub cause : ℕ

abbrev pub fields_of : Result → Fields
fields_of r = record {
  verdict = verdict_number r.verdict;
  proof = r.proof;
  disproof = r.disproof;
  allocated = r.allocated;
  freed = r.freed;
  proved = r.proved;
  disproved = r.disproved;
  expanded = r.expanded;
  cause = r.cause;
}

-- A refusal has no result.
abbrev pub no_fields : Fields
no_fields = record { verdict = 0; proof = 0; disproof = 0; allocated = 0; freed = 0; proved = 0; disproved = 0; expanded = 0; cause = 0 }

-- Search: 0 or the number of the refusal; the index, 0 always; the fields.
pub record SearchNumbers : Type 0 where
  pub code : ℕ
  pub index : ℕ
  pub result : Fields

abbrev pub searched_numbers : Searched → SearchNumbers
searched_numbers (Answered r) = record { code = 0; index = 0; result = fields_of r }
searched_numbers (Refused n) = record { code = n; index = 0; result = no_fields }

-- Full verdict: 0 or the number of the refusal; the index, 0 always; the verdict's number, 0 with a refusal; the fields under rules 1 and 2.
abbrev pub full_number : FullVerdict → ℕ
full_number calls.Undecided = 0
full_number calls.Win = 1
full_number calls.Loss = 2
full_number calls.Draw = 3
full_number calls.AtLeastDraw = 4
full_number calls.AtMostDraw = 5

pub record FullNumbers : Type 0 where
  pub code : ℕ
  pub index : ℕ
  pub verdict : ℕ
  pub first : Fields
  pub second : Fields

abbrev pub judged_numbers : Judged → FullNumbers
judged_numbers (Full v r s) = record { code = 0; index = 0; verdict = full_number v; first = fields_of r; second = fields_of s }
judged_numbers (Turned n) = record { code = n; index = 0; verdict = 0; first = no_fields; second = no_fields }

-- What stands in the structs.
abbrev pub fields : ResultFields → Fields
fields a = record {
  verdict = a.verdict;
  proof = a.proof;
  disproof = a.disproof;
  allocated = a.allocated;
  freed = a.freed;
  proved = a.proved;
  disproved = a.disproved;
  expanded = a.expanded;
  cause = a.cause;
}

abbrev pub search_numbers : SearchAnswer → SearchNumbers
search_numbers a = record { code = a.code; index = a.index; result = fields a.result }

abbrev pub full_numbers : FullAnswer → FullNumbers
full_numbers a = record { code = a.code; index = a.index; verdict = a.verdict; first = fields a.first; second = fields a.second }
