-- Laws of specs/Matching.antt. Some games as the code plays them, one after the other, and their report. Rests on the laws of reports, on Gaming and Answers.
use Rattle.std.specs.Prelude.{◌≡◌, ℕ, suc, ◌+◌, ◌-◌, ◌*◌, ◌<◌, ◌≤◌, List, length, ◌==◌, ◌≢◌, refl}
use Rattle.std.proofs.Math.Path.{ap, sym}
use Rattle.std.proofs.Common.{subst, ◌∙◌}
use Rattle.std.proofs.Math.Nat.{mul-le-mul_right}
use native.Mathlib.Omega.{arith}
use Rattle.rules.specs.Rules.{Position, game_state}
use Rattle.rules.specs.Record.{Accepted}
use Rattle.game.specs.Words.{Holds, Held}
use Rattle.matches.specs.Matches as matches
use Rattle.matches.specs.Matches.{play_game, report, one, counted, play_match}
use Rattle.matches.proofs.Playing.{same_report, adds_up, match_at_most}
use Rattle.words.specs.Words.{Beyond}
use Rattle.words.proofs.Words.{beyond_trans}
use Rattle.searches.specs.Searches.{budget_most}
use Rattle.players.specs.Players.{searcher, match_most}
use Rattle.players.specs.Answers.{players_of, report_of}
use Rattle.players.specs.Turning.{same_range, searcher_most, Ready}
use Rattle.players.specs.Gaming.{PlayedIs, GamePlayed}
use Rattle.players.specs.declared.Players.{Players}
use Rattle.players.specs.declared.Played.{Played}
use Rattle.players.specs.declared.Report.{Report}
use Rattle.players.specs.Matching.{Countable, Counts, MatchPlayed}

pub counts : {state k x o d : ℕ} (r : Report) (g : Played) → k ≡ state → x ≡ one (k == 1) → o ≡ one (k == 2) → d ≡ one (k == 3)
    → Counts state r g (record { x_wins = r.x_wins + x; o_wins = r.o_wins + o; draws = r.draws + d; expanded = r.expanded + g.expanded })
counts r g e x o d = rw (x, o, d, e)

-- two reports together
abbrev adding : matches.Report → matches.Report → matches.Report
adding a b = report (a.x_wins_here + b.x_wins_here) (a.o_wins + b.o_wins) (a.draws + b.draws) (a.expanded + b.expanded)

-- after i games the others, from the state that is reached, make the whole report
pub record Matching (g : List ℕ) (c : Players) (seed games : ℕ) (w₀ w : List ℕ) (r : Report) (state i : ℕ) : Type 0 where
  pub from : Ready g w₀ c
  pub few : games ≤ match_most
  pub low : i ≤ games
  pub long : length w ≡ length w₀
  pub past : Beyond w₀ w
  pub over : (p : Position) → Holds p g 0 → Accepted p → (game_state p ≢ 0) → w ≡ w₀
  pub each : (p : Position) → Holds p g 0 → Accepted p
      → let S = searcher (length w₀) (players_of c) in play_match S games p seed ≡ adding (report_of r) (play_match S (games - i) p state)

pub matching_start : (g : List ℕ) (c : Players) (seed games : ℕ) (w : List ℕ) → Ready g w c → games ≤ match_most
    → Matching g c seed games w w (record { x_wins = 0; o_wins = 0; draws = 0; expanded = 0 }) seed 0
matching_start g c seed games w ready few = record {
  from = ready;
  few = few;
  low = omega arith;
  long = refl;
  past = λ j l. refl;
  over = λ p h a z. refl;
  each = λ p h a.
      let all : games - 0 ≡ games = omega arith in
      let t = play_match (searcher (length w) (players_of c)) games p seed in
      let none : (k : ℕ) → k ≡ 0 + k = λ k. omega arith in
      rw all (same_report (none t.x_wins_here) (none t.o_wins) (none t.draws) (none t.expanded));
}

module _ {g : List ℕ} {c : Players} {seed games : ℕ} {w₀ w : List ℕ} {r : Report} {state i : ℕ} (l : Matching g c seed games w₀ w r state i) where
  pub matching_ready : Ready g w c
  matching_ready = record { pos = l.from.pos; holds = l.from.holds; accepted = l.from.accepted; range = same_range _ _ _ l.long l.from.range }

  module _ (on : i < games) (v : List ℕ) (t : Played) (played : GamePlayed g c state w v t) where
    -- the game, with the pool as it was lent
    game_is : (p : Position) → Holds p g 0 → Accepted p → PlayedIs (play_game (searcher (length w₀) (players_of c)) p state) t.pos.words t.state t.expanded
    game_is p h a = subst (λ n. PlayedIs (play_game (searcher n (players_of c)) p state) t.pos.words t.state t.expanded) l.long (played.each p h a)

    -- the games from here on are this one and those after it
    split : (p : Position) → Holds p g 0 → Accepted p
        → let S = searcher (length w₀) (players_of c) in play_match S (games - i) p state ≡ counted (play_game S p state) (play_match S (games - (i + 1)) p t.state)
    unfolding play_match
    split p h a =
        let S = searcher (length w₀) (players_of c) in
        let one_more : games - i ≡ suc (games - (i + 1)) = omega arith in
        rw one_more (ap (λ s. counted (play_game S p state) (play_match S (games - (i + 1)) p s)) (sym (game_is p h a).state_is))

    whole : (p : Position) → Holds p g 0 → Accepted p
        → let S = searcher (length w₀) (players_of c) in play_match S games p seed ≡ adding (report_of r) (counted (play_game S p state) (play_match S (games - (i + 1)) p t.state))
    whole p h a = l.each p h a ∙ ap (adding (report_of r)) (split p h a)

    pub matching_countable : Countable r t
    unfolding counted
    matching_countable =
        let p = l.from.pos in
        let h = l.from.holds in
        let a = l.from.accepted in
        let S = searcher (length w₀) (players_of c) in
        let is = game_is p h a in
        let all = whole p h a in
        let x = ap (λ (y : matches.Report). y.x_wins_here) (l.each p h a) in
        let o = ap (λ (y : matches.Report). y.o_wins) (l.each p h a) in
        let d = ap (λ (y : matches.Report). y.draws) (l.each p h a) in
        let e = ap (λ (y : matches.Report). y.expanded) all in
        let rest = adds_up S (games - i) p state a in
        let sum = adds_up S games p seed a in
        let most = match_at_most S budget_most (searcher_most (length w₀) (players_of c) l.from.range) games p seed a in
        record {
          held = ((play_game S p state).last, is.holds);
          x_fits = omega (arith, x, o, d, rest, sum, l.few);
          o_fits = omega (arith, x, o, d, rest, sum, l.few);
          draws_fit = omega (arith, x, o, d, rest, sum, l.few);
          expanded_fits = omega (arith, e, is.total, most, mul-le-mul_right (81 * (81 * budget_most)) l.few);
        }

    pub matching_next : length v ≡ length w → (b : Report) → ((p : Position) → Holds p t.pos.words 0 → Counts (game_state p) r t b) → Matching g c seed games w₀ v b t.state (i + 1)
    unfolding counted
    matching_next long b counts = record {
      from = l.from;
      few = l.few;
      low = omega arith;
      long = long ∙ l.long;
      past = beyond_trans w₀ w v l.long l.past played.past;
      over = λ p h a z. played.over p h a z ∙ l.over p h a z;
      each = λ p h a.
          let S = searcher (length w₀) (players_of c) in
          let is = game_is p h a in
          let q = play_game S p state in
          let m = play_match S (games - (i + 1)) p t.state in
          let n = game_state q.last in
          let by : (j k y : ℕ) → j + (k + y) ≡ j + k + y = λ j k y. omega arith in
          whole p h a
          ∙ same_report (by r.x_wins (one (n == 1)) m.x_wins_here) (by r.o_wins (one (n == 2)) m.o_wins) (by r.draws (one (n == 3)) m.draws)
          (by r.expanded q.expanded m.expanded)
          ∙ ap (λ e. adding (report (r.x_wins + one (n == 1)) (r.o_wins + one (n == 2)) (r.draws + one (n == 3)) (r.expanded + e)) m) (sym is.total)
          ∙ ap (λ (y : matches.Report). adding y m) (sym (counts q.last is.holds));
    }

  pub matching_done : games ≤ i → MatchPlayed g c seed games w₀ w r
  unfolding play_match
  matching_done end = record {
    past = l.past;
    over = l.over;
    each = λ p h a.
        let S = searcher (length w₀) (players_of c) in
        let none : games - i ≡ 0 = omega arith in
        let all = rw none at (l.each p h a) in
        let zero_more : (k : ℕ) → k ≡ k + 0 = λ k. omega arith in
        same_report (zero_more r.x_wins) (zero_more r.o_wins) (zero_more r.draws) (zero_more r.expanded) ∙ sym all;
  }
