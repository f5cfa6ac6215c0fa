-- Some games as the code plays them, one after the other, and their report. Rests on the laws of reports, on Gaming and Answers.
use Rattle.std.specs.Prelude.{◌≡◌, ℕ, suc, ◌+◌, ◌-◌, ◌*◌, ◌<◌, ◌≤◌, List, length, ◌==◌, ◌≢◌, refl}
use Rattle.std.proofs.Math.Path.{ap, sym}
use Rattle.std.proofs.Common.{subst, ◌∙◌}
use Rattle.std.proofs.Math.Nat.{mul-le-mul_right}
use native.Mathlib.Omega.{arith}
use Rattle.rules.specs.Rules.{Position, game_state}
use Rattle.rules.specs.Record.{Accepted}
use Rattle.game.specs.Words.{Holds, Held}
use Rattle.matches.specs.Matches as matches
use Rattle.matches.specs.Matches.{play_game, report, one, counted, play_match}
use Rattle.matches.proofs.Playing.{same_report, adds_up, match_at_most}
use Rattle.words.specs.Words.{Beyond}
use Rattle.words.proofs.Words.{beyond_trans}
use Rattle.searches.specs.Searches.{budget_most}
use Rattle.players.specs.Players.{searcher, match_most}
use Rattle.players.specs.Answers.{players_of, report_of}
use Rattle.players.specs.Turning.{same_range, searcher_most, Ready}
use Rattle.players.specs.Gaming.{PlayedIs, GamePlayed}
use Rattle.players.specs.declared.Players.{Players}
use Rattle.players.specs.declared.Played.{Played}
use Rattle.players.specs.declared.Report.{Report}

-- one game more: what the code's sums ask for, and the report after it
pub record Countable (r : Report) (g : Played) : Type 0 where
  pub held : Held g.pos.words 0
  pub x_fits : r.x_wins < match_most
  pub o_fits : r.o_wins < match_most
  pub draws_fit : r.draws < match_most
  pub expanded_fits : r.expanded + g.expanded ≤ match_most * (81 * (81 * budget_most))

abbrev pub Counts : (state : ℕ) (r : Report) (g : Played) (a : Report) → Type 0
Counts state r g a =
    report_of a ≡ report (r.x_wins + one (state == 1)) (r.o_wins + one (state == 2)) (r.draws + one (state == 3)) (r.expanded + g.expanded)

-- what some games come to
pub record MatchPlayed (g : List ℕ) (c : Players) (seed games : ℕ) (w v : List ℕ) (r : Report) : Type 0 where
  pub past : Beyond w v
  pub over : (p : Position) → Holds p g 0 → Accepted p → (game_state p ≢ 0) → v ≡ w
  pub each : (p : Position) → Holds p g 0 → Accepted p → report_of r ≡ play_match (searcher (length w) (players_of c)) games p seed
