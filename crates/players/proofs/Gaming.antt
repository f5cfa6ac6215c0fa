-- Laws of specs/Gaming.antt. A game as the code plays it, turn after turn. Rests on the laws of games, on Turning, and on referee's number of empty cells.
use Rattle.std.specs.Prelude.{◌≡◌, ℕ, ◌+◌, ◌*◌, ◌<◌, ◌≤◌, Bool, true, false, List, length, ◌==◌, ◌≢◌, refl}
use Rattle.std.proofs.Common.{ap, sym, subst, ◌∙◌, arith, eqb-true}
use Rattle.std.proofs.lemmas.Bool.{eqb-false}
use Rattle.rules.specs.Rules.{Position, game_state, move_error, play}
use Rattle.rules.specs.Record.{Accepted}
use Rattle.game.specs.Words.{Holds, Held}
use Rattle.game.specs.Moves.{Movable}
use Rattle.matches.specs.Matches as matches
use Rattle.matches.specs.Matches.{Searcher, turn, play_game}
use Rattle.matches.proofs.Playing.{game_over, turn_error, turn_accepted, turn_less, game_on, game_most}
use Rattle.referee.specs.Turns.{empty_in, empty_is}
use Rattle.words.specs.Words.{Beyond}
use Rattle.words.proofs.Words.{beyond_trans}
use Rattle.searches.specs.Searches.{budget_most}
use Rattle.players.specs.Players.{searcher}
use Rattle.players.specs.Answers.{players_of}
use Rattle.players.specs.Turning.{same_range, searcher_most, Ready, Turnable, Turned, TurnIs}
use Rattle.players.specs.declared.Players.{Players}
use Rattle.players.specs.declared.Turn.{Turn}
use Rattle.players.specs.declared.Played.{Played}
use Rattle.players.specs.Gaming.{Gaming, here}

pub gaming_start : (g : List ℕ) (c : Players) (seed : ℕ) (w : List ℕ) → Ready g w c → Gaming g c seed w w g seed 0
gaming_start g c seed w r = record {
  from = r;
  long = refl;
  past = λ j l. refl;
  each = λ p h a.
      let t = play_game (searcher (length w) (players_of c)) p seed in
      let none : t.expanded ≡ 0 + t.expanded = omega arith in
      record { pos = p; holds = h; accepted = a; rest = λ i. record { last = t.last; state = t.state; expanded = none i }; still = λ z. (refl, refl) };
}

module _ {g₀ : List ℕ} {c : Players} {seed : ℕ} {w₀ w g : List ℕ} {state expanded : ℕ} (l : Gaming g₀ c seed w₀ w g state expanded) where
  pub gaming_held : Held g 0
  gaming_held = ((here l).pos, (here l).holds)
