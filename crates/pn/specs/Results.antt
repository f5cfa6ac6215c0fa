-- What the code's settings, causes and result are to the plain machine. Definitions alone; rests on machine, prove, stay and words.
use Rattle.std.specs.Prelude.{IfSome, Option, List, ℕ, ◌≤◌}
use Rattle.machine.specs.Machine as machine
use Rattle.prove.specs.Numbers.{verdict}
use Rattle.words.specs.Words.{capacity}
use Rattle.stay.specs.Margin.{stay_of}
use Rattle.pn.specs.declared.Settings.{Settings}
use Rattle.pn.specs.declared.SearchResult.{SearchResult}
use Rattle.pn.specs.declared.Cause.{Cause}

-- the machine's settings, with the capacity in nodes of a pool of these words
abbrev pub machine_settings : List ℕ → Settings → machine.Settings
machine_settings w s = record { pool = capacity w; limit = s.limit; budget = s.budget; interval = s.interval; stay = stay_of s.stay }

-- a cause as the machine has it
abbrev pub cause_number : Cause → ℕ
cause_number c = c.0

-- the causes that have a name
abbrev pub Solved : Cause
Solved = record { 0 = 0 }

abbrev pub Budget : Cause
Budget = record { 0 = 1 }

abbrev pub Pool : Cause
Pool = record { 0 = 2 }

abbrev pub Limit : Cause
Limit = record { 0 = 3 }

-- it goes on, or has stopped for one of the four
abbrev pub OneOfFour : Option Cause → Type 0
OneOfFour o = IfSome o (λ c. cause_number c ≤ 3)

-- the nine fields of a SearchResult as the machine has them
abbrev pub result_of : SearchResult → machine.Result
result_of r = record {
  verdict = verdict r.verdict;
  proof = r.proof;
  disproof = r.disproof;
  allocated = r.allocated;
  freed = r.freed;
  proved = r.proved;
  disproved = r.disproved;
  expanded = r.expanded;
  cause = cause_number r.cause;
}
