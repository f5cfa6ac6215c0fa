-- The numbers and values of the calls' answers: what each result says. Rests on Calls and on the numbers of the refusals.
use Rattle.std.specs.Prelude.{cond, Bool, List, ℕ, Result, Ok, Err}
use Rattle.refusals.specs.Numbers.{number}
use Rattle.refusals.specs.declared.Refusal.{Refusal}
use Rattle.game.specs.Numbers.{error_number}
use Rattle.calls.specs.Calls.{ReplayOutcome, MovesOutcome, RefereeOutcome, replay_outcome, moves_outcome, referee_outcome}
use Rattle.calls.specs.declared.ReplayError.{ReplayError}
use Rattle.calls.specs.declared.ReplayError.TheVariants.{Refused, BadMove}

abbrev pub replayed : {A : Type 0} → Result A ReplayError → List ℕ → ReplayOutcome
replayed (Ok a) out = replay_outcome 0 0 out
replayed (Err (Refused r)) out = replay_outcome (number r) 0 out
replayed (Err (BadMove e i)) out = replay_outcome (error_number e) i out

abbrev pub listing : Result ℕ Refusal → List ℕ → MovesOutcome
listing (Ok k) out = moves_outcome 0 0 k out
listing (Err r) out = moves_outcome (number r) 0 0 out

abbrev pub refereed : Result Bool Refusal → RefereeOutcome
refereed (Ok v) = referee_outcome 0 0 (cond v 1 2)
refereed (Err r) = referee_outcome (number r) 0 0
