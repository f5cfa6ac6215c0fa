-- What the code's settings and its answer say. Rests on Players.
use Rattle.std.specs.Prelude.{◌≡◌, ℕ, zero, suc, ◌≢◌, refl, Result, Ok, Err}
use Rattle.refusals.specs.Numbers.{number}
use Rattle.refusals.specs.declared.Refusal.{Refusal}
use Rattle.rules.specs.Rules.{Player}
use Rattle.rules.specs.Rules.Player.{X, O}
use Rattle.rules.specs.Record.{player_of}
use Rattle.matches.specs.Matches as matches
use Rattle.matches.specs.Matches.{report}
use Rattle.pn.specs.declared.Settings.{Settings}
use Rattle.players.specs.Players as players
use Rattle.players.specs.Players.{budget_of, SimulateOutcome, simulate_outcome}
use Rattle.players.specs.declared.Players.{Players}
use Rattle.players.specs.declared.Report.{Report}

-- What both players are given, and the settings of a side's searches.
abbrev pub players_of : Players → players.Players
players_of c = record { limit = c.limit; x_budget = c.x_budget; o_budget = c.o_budget; interval = c.interval; stay = c.stay }

abbrev pub settings_for : Players → Player → Settings
settings_for c side = record { rule = 2; limit = c.limit; budget = budget_of (players_of c) side; interval = c.interval; stay = c.stay }

-- The report, and the answer.
abbrev pub report_of : Report → matches.Report
report_of r = report r.x_wins r.o_wins r.draws r.expanded

abbrev pub simulated : Result Report Refusal → SimulateOutcome
simulated (Ok r) = simulate_outcome 0 0 (report_of r)
simulated (Err e) = simulate_outcome (number e) 0 (report 0 0 0 0)
