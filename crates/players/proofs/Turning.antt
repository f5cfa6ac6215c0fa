-- Laws of specs/Turning.antt. A turn as the code takes it: the legal moves in an array, looking through them one after the other, and the move played or drawn. Rests on the laws of turns, on Players and on what
-- pn's search asks for and comes to.
use Rattle.std.specs.Prelude.{◌≡◌, ℕ, zero, suc, ◌+◌, ◌*◌, ◌<◌, ◌≤◌, Bool, true, false, List, [], ◌∷◌, ◌++◌, length, get_or, drop, take, slice_index, slice_index_or, refl, Option, Some, None}
use Rattle.std.proofs.lemmas.Option.{none-some}
use Rattle.std.proofs.Math.Path.{ap}
use Rattle.std.proofs.Common.{sym, subst, ◌∙◌, true≢false, add-one, arith, drop-cons}
use Rattle.std.proofs.lemmas.Bool.{false≢true}
use Rattle.std.proofs.Math.Seq.{drop-length, take-append_seam}
use Rattle.rules.specs.Rules.{Player, Position, game_state, legal_moves, move_error, play}
use Rattle.rules.specs.Record.{Accepted, player_of}
use Rattle.rules.proofs.LegalMoves.{in_legal, unfinished_some, moves_few}
use Rattle.rules.proofs.Plays.{keeps_accepted}
use Rattle.rules.proofs.Roundtrip.{side_back}
use Rattle.game.specs.Words.{Holds}
use Rattle.game.specs.Moves.{Movable}
use Rattle.machine.specs.Machine as machine
use Rattle.machine.specs.Machine.{Result}
use Rattle.machine.proofs.Reached.{PoolInRange, ends_spent}
use Rattle.matches.specs.Matches as matches
use Rattle.matches.specs.Matches.{Searcher, is_false_verdict, WinsBy, NoWin, look, next_state, drawn_place, move_or_draw, turn}
use Rattle.matches.proofs.Looking.{member, some, look_wins, look_on, look_most}
use Rattle.plain.specs.Plain.{game_of, policy_of, search_of}
use Rattle.plain.proofs.Laws.{lawful, policy_sane}
use Rattle.prove.specs.Numbers.{verdict}
use Rattle.words.specs.Words.{Beyond}
use Rattle.words.proofs.Words.{beyond_trans}
use Rattle.stay.specs.Margin.{StayInRange}
use Rattle.pn.specs.Results.{machine_settings, result_of}
use Rattle.pn.specs.Going.{settings_long}
use Rattle.pn.specs.Searches.{Searchable, Searched}
use Rattle.pn.specs.declared.Settings.{Settings}
use Rattle.pn.specs.declared.SearchResult.{SearchResult}
use Rattle.calls.specs.Writing.{Written}
use Rattle.searches.specs.Searches.{pool_least, pool_most, interval_least, budget_most, nodes, settings}
use Rattle.players.specs.Players as players
use Rattle.players.specs.Players.{budget_of, with_budget, searcher}
use Rattle.players.specs.Answers.{players_of, settings_for}
use Rattle.players.specs.declared.Players.{Players}
use Rattle.players.specs.declared.Look.{Look}
use Rattle.players.specs.declared.Turn.{Turn}
use Rattle.players.specs.Turning.{Listed, listed_legal, Looks, Lookable, Looked, Looking, LookIs, TurnIs}

pub looking_start : (g ms : List ℕ) (n : ℕ) (s : Settings) (w : List ℕ) → Lookable g ms n w s → Looking g ms n s w w 0 0
looking_start g ms n s w f = record {
  from = f;
  low = omega arith;
  long = refl;
  past = λ j l. refl;
  each = λ c p k. record { win = refl; total = omega arith };
}

module _ {g ms : List ℕ} {n : ℕ} {s : Settings} {w₀ w : List ℕ} {i expanded : ℕ} (l : Looking g ms n s w₀ w i expanded) (h : i < n) where
  pub looking_movable : Movable g 0 (slice_index ms i)
  looking_movable = let f = l.from.looks in (l.from.pos, f.holds, listed_legal _ ms n f.listed i h)

pub looking_none : {g ms : List ℕ} {n : ℕ} {s : Settings} {w₀ w : List ℕ} {i expanded : ℕ} → Looking g ms n s w₀ w i expanded → n ≤ i
    → Looked g ms n s w₀ w (record { winner = None; expanded = expanded })
unfolding look
looking_none {n = n} {i = i} l h = record {
  past = l.past;
  each = λ c p k.
      let all : i ≡ length (legal_moves p) = omega (arith, l.low, k.listed.count) in
      let nothing : drop i (legal_moves p) ≡ [] = rw (all, drop-length (legal_moves p)) in
      let t = rw nothing at (l.each c p k).total in
      record {
        wins = λ place q. absurd (none-some _ q);
        none = λ q. rw nothing at (l.each c p k).win;
        expanded = omega (arith, t);
      };
}

-- the legal moves, as they were written
no_default : (xs : List ℕ) (i d e : ℕ) → i < length xs → slice_index_or xs i d ≡ slice_index_or xs i e
no_default [] i d e h = absurd (omega arith)
no_default (x ∷ xs) zero d e h = refl
no_default (x ∷ xs) (suc i) d e h = no_default xs i d e (omega arith)

all_listed : (p : Position) → Listed p (legal_moves p) (length (legal_moves p))
all_listed p = record { count = refl; each = λ i h. no_default (legal_moves p) i 0 255 h }

pub listed : (p : Position) (out ms : List ℕ) (n : ℕ) → Written (legal_moves p) out ms n → Listed p (take n ms) (length (take n ms))
listed p out ms n w =
    let front_is : take n ms ≡ legal_moves p = rw (w.left, w.count) (take-append_seam (legal_moves p) (drop (length (legal_moves p)) out)) in
    rw front_is (all_listed p)

-- the moves are written and the settings chosen, for whichever position g holds
pub to_look : (c : Players) (g out ms : List ℕ) (n side : ℕ) (s : Settings) → ((p : Position) → Holds p g 0 → Written (legal_moves p) out ms n)
    → side ≡ slice_index g (0 + 22) → s ≡ settings_for c (player_of side) → (p : Position) → Holds p g 0 → Accepted p → Looks c p g (take n ms) (length (take n ms)) s
to_look c g out ms n side s wrote es et p h a = record {
  holds = h;
  accepted = a;
  listed = listed p out ms n (wrote p h);
  settings_are = et ∙ ap (λ k. settings_for c (player_of k)) (es ∙ h.side) ∙ ap (settings_for c) (side_back p.side);
}

-- some move is legal
pub turnable_some : (p : Position) → Accepted p → game_state p ≡ 0 → (ms : List ℕ) (n : ℕ) → Listed p ms n → 0 < n
turnable_some p a e ms n l = omega (arith, l.count, some (legal_moves p) (unfinished_some p a e).1)

module _ (S : Searcher) (p : Position) (ms : List ℕ) (n state : ℕ) (r : Look) (l : Listed p ms n) (k : LookIs S p r) where
  pub turned_wins : (place : ℕ) → r.winner ≡ Some place → TurnIs (turn S p state) (slice_index ms place) state r.expanded
  unfolding turn move_or_draw
  turned_wins place e =
      let f = k.wins place e in
      rw f.1 (record { move = l.each place (omega (arith, f.0, l.count)); state_is = refl; total = k.expanded })

  pub turned_drawn : r.winner ≡ None → (next place : ℕ) → next ≡ next_state state → place ≡ drawn_place next n → place < n → TurnIs (turn S p state) (slice_index ms place) next r.expanded
  unfolding turn move_or_draw
  turned_drawn e next place en ep h =
      let there : place ≡ drawn_place (next_state state) (length (legal_moves p)) = rw (ep, en, l.count) in
      rw (k.none e) (record { move = l.each place h ∙ ap (λ i. get_or (legal_moves p) i 255) there; state_is = en; total = k.expanded })
