-- A game as the code plays it, turn after turn. Rests on the laws of games, on Turning, and on referee's number of empty cells.
use Rattle.std.specs.Prelude.{◌≡◌, ℕ, ◌+◌, ◌*◌, ◌<◌, ◌≤◌, Bool, true, false, List, length, ◌==◌, ◌≢◌, refl}
use Rattle.std.proofs.Common.{ap, sym, subst, ◌∙◌, arith, eqb-true}
use Rattle.std.proofs.lemmas.Bool.{eqb-false}
use Rattle.rules.specs.Rules.{Position, game_state, move_error, play}
use Rattle.rules.specs.Record.{Accepted}
use Rattle.game.specs.Words.{Holds, Held}
use Rattle.game.specs.Moves.{Movable}
use Rattle.matches.specs.Matches as matches
use Rattle.matches.specs.Matches.{Searcher, turn, play_game}
use Rattle.matches.proofs.Playing.{game_over, turn_error, turn_accepted, turn_less, game_on, game_most}
use Rattle.referee.specs.Turns.{empty_in, empty_is}
use Rattle.words.specs.Words.{Beyond}
use Rattle.words.proofs.Words.{beyond_trans}
use Rattle.searches.specs.Searches.{budget_most}
use Rattle.players.specs.Players.{searcher}
use Rattle.players.specs.Answers.{players_of}
use Rattle.players.specs.Turning.{same_range, searcher_most, Ready, Turnable, Turned, TurnIs}
use Rattle.players.specs.declared.Players.{Players}
use Rattle.players.specs.declared.Turn.{Turn}
use Rattle.players.specs.declared.Played.{Played}

-- what a game comes to: its last position, the state and what was expanded
pub record PlayedIs (t : matches.Played) (g : List ℕ) (state expanded : ℕ) : Type 0 where
  pub holds : Holds t.last g 0
  pub state_is : state ≡ t.state
  pub total : expanded ≡ t.expanded

pub record GamePlayed (g : List ℕ) (c : Players) (state : ℕ) (w v : List ℕ) (r : Played) : Type 0 where
  pub past : Beyond w v
  pub over : (p : Position) → Holds p g 0 → Accepted p → (game_state p ≢ 0) → v ≡ w
  pub each : (p : Position) → Holds p g 0 → Accepted p → PlayedIs (play_game (searcher (length w) (players_of c)) p state) r.pos.words r.state r.expanded

-- after some turns: the position reached, from which the rest of the game leads to the same end; a finished position is never left
pub record Reached (S : Searcher) (p : Position) (seed : ℕ) (w₀ w g : List ℕ) (state expanded : ℕ) : Type 0 where
  pub pos : Position
  pub holds : Holds pos g 0
  pub accepted : Accepted pos
  pub rest : let t = play_game S pos state in play_game S p seed ≡ record { last = t.last; state = t.state; expanded = expanded + t.expanded }
  pub still : (game_state p ≢ 0) → (pos ≡ p) × (w ≡ w₀)

pub record Gaming (g₀ : List ℕ) (c : Players) (seed : ℕ) (w₀ w g : List ℕ) (state expanded : ℕ) : Type 0 where
  pub from : Ready g₀ w₀ c
  pub long : length w ≡ length w₀
  pub past : Beyond w₀ w
  pub each : (p : Position) → Holds p g₀ 0 → Accepted p → Reached (searcher (length w₀) (players_of c)) p seed w₀ w g state expanded

module _ {g₀ : List ℕ} {c : Players} {seed : ℕ} {w₀ w g : List ℕ} {state expanded : ℕ} (l : Gaming g₀ c seed w₀ w g state expanded) where
  -- the position reached from the one that the call was begun with
  abbrev pub here : Reached (searcher (length w₀) (players_of c)) l.from.pos seed w₀ w g state expanded
  here = l.each l.from.pos l.from.holds l.from.accepted

  module _ (b : Bool) (test : (p : Position) → Holds p g 0 → b ≡ (game_state p == 0)) where
    -- in play
    module _ (on : b ≡ true) where
      playing : (q : Position) → Holds q g 0 → game_state q ≡ 0
      playing q h = eqb-true (game_state q) 0 (sym (test q h) ∙ on)

      pub gaming_turnable : Turnable g w c
      gaming_turnable = (
        record { pos = here.pos; holds = here.holds; accepted = here.accepted; range = same_range _ _ _ l.long l.from.range },
        playing here.pos here.holds,
      )

      module _ (v : List ℕ) (t : Turn) (turned : Turned g c state w v t) where
        -- the turn, with the pool as it was lent
        turn_is : (p : Position) → Holds p g 0 → Accepted p → TurnIs (turn (searcher (length w₀) (players_of c)) p state) t.m.0 t.state t.expanded
        turn_is p h a = subst (λ n. TurnIs (turn (searcher n (players_of c)) p state) t.m.0 t.state t.expanded) l.long (turned.each p h a (playing p h))

        legal : (p : Position) → Holds p g 0 → Accepted p → move_error p t.m.0 ≡ 0
        legal p h a = rw (turn_is p h a).move (turn_error (searcher (length w₀) (players_of c)) p state a (playing p h))

        pub gaming_movable : Movable g 0 t.m.0
        gaming_movable = (here.pos, here.holds, legal here.pos here.holds here.accepted)

        module _ (next : List ℕ) (made : (p : Position) → Holds p g 0 → move_error p t.m.0 ≡ 0 → Holds (play p t.m.0) next 0) where
          one_turn : (p : Position) → Holds p g₀ 0 → Accepted p → Reached (searcher (length w₀) (players_of c)) p seed w₀ v next t.state (expanded + t.expanded)
          one_turn p h a =
              let S = searcher (length w₀) (players_of c) in
              let k = l.each p h a in
              let q = k.pos in
              let e = playing q k.holds in
              let is = turn_is q k.holds k.accepted in
              let r = play_game S (play q t.m.0) t.state in
              let on : play_game S q state ≡ record { last = r.last; state = r.state; expanded = t.expanded + r.expanded } =
              rw (is.move, is.state_is, is.total) (game_on S q state k.accepted e) in
              let sum : expanded + (t.expanded + r.expanded) ≡ expanded + t.expanded + r.expanded = omega arith in
              record {
                pos = play q t.m.0;
                holds = made q k.holds (legal q k.holds k.accepted);
                accepted = rw is.move (turn_accepted S q state k.accepted e);
                rest =
                    k.rest
                    ∙ ap (λ (x : matches.Played). record { last = x.last; state = x.state; expanded = expanded + x.expanded }) on
                    ∙ (λ i. record { last = r.last; state = r.state; expanded = sum i });
                still = λ z. absurd (z (subst (λ x. game_state x ≡ 0) (k.still z).0 e));
              }

          pub gaming_next : length v ≡ length w → Gaming g₀ c seed w₀ v next t.state (expanded + t.expanded)
          gaming_next long = record { from = l.from; long = long ∙ l.long; past = beyond_trans w₀ w v l.long l.past turned.past; each = one_turn }

          pub gaming_less : empty_in next < empty_in g
          gaming_less =
              let S = searcher (length w₀) (players_of c) in
              let q = here.pos in
              let is = turn_is q here.holds here.accepted in
              let fewer = rw (← is.move) at (turn_less S q state here.accepted (playing q here.holds)) in
              omega (arith, fewer, empty_is q g here.holds, empty_is (play q t.m.0) next (made q here.holds (legal q here.holds here.accepted)))

        pub gaming_fits : expanded + t.expanded ≤ 81 * (81 * budget_most)
        gaming_fits =
            let S = searcher (length w₀) (players_of c) in
            let q = here.pos in
            let is = turn_is q here.holds here.accepted in
            omega (
              arith,
              is.total,
              ap (λ (x : matches.Played). x.expanded) (game_on S q state here.accepted (playing q here.holds)),
              ap (λ (x : matches.Played). x.expanded) here.rest,
              game_most S budget_most (searcher_most (length w₀) (players_of c) l.from.range) l.from.pos seed l.from.accepted,
            )

    -- over
    pub gaming_over : b ≡ false → GamePlayed g₀ c seed w₀ w (record { pos = record { words = g }; state = state; expanded = expanded })
    gaming_over off = record {
      past = l.past;
      over = λ p h a z. ((l.each p h a).still z).1;
      each = λ p h a.
          let k = l.each p h a in
          let S = searcher (length w₀) (players_of c) in
          let ended = game_over S k.pos state (eqb-false (game_state k.pos) 0 (sym (test k.pos k.holds) ∙ off)) in
          let all = rw ended at k.rest in
          rw all (record { holds = k.holds; state_is = refl; total = omega arith });
    }
