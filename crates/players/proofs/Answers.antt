-- Laws of specs/Answers.antt. What the code's settings and its answer say. Rests on Players.
use Rattle.std.specs.Prelude.{◌≡◌, ℕ, zero, suc, ◌≢◌, refl}
use Rattle.rules.specs.Rules.{Player}
use Rattle.rules.specs.Rules.Player.{X, O}
use Rattle.rules.specs.Record.{player_of}
use Rattle.matches.specs.Matches as matches
use Rattle.matches.specs.Matches.{report}
use Rattle.pn.specs.declared.Settings.{Settings}
use Rattle.players.specs.Players as players
use Rattle.players.specs.Players.{budget_of, SimulateOutcome, simulate_outcome}
use Rattle.players.specs.declared.Players.{Players}
use Rattle.players.specs.declared.Report.{Report}
use Rattle.players.specs.Answers.{settings_for}

pub settings_x : (c : Players) (n : ℕ) → n ≡ 0 → settings_for c X ≡ settings_for c (player_of n)
settings_x c n e = rw e

pub settings_o : (c : Players) (n : ℕ) → (n ≢ 0) → settings_for c O ≡ settings_for c (player_of n)
settings_o c zero z = absurd (z refl)
settings_o c (suc n) z = refl
