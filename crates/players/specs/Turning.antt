-- A turn as the code takes it: the legal moves in an array, looking through them one after the other, and the move played or drawn. Rests on the laws of turns, on Players and on what
-- pn's search asks for and comes to.
use Rattle.std.specs.Prelude.{◌≡◌, ℕ, zero, suc, ◌+◌, ◌*◌, ◌<◌, ◌≤◌, Bool, true, false, List, [], ◌∷◌, ◌++◌, length, get_or, drop, slice_index, slice_index_or, refl, Option, Some, None}
use Rattle.std.proofs.lemmas.Option.{none-some, same_Some}
use Rattle.std.proofs.Math.Path.{ap}
use Rattle.std.proofs.Common.{sym, subst, ◌∙◌, true≢false, add-one, arith, drop-cons}
use Rattle.std.proofs.lemmas.Bool.{false≢true}
use Rattle.std.proofs.Math.Seq.{drop-length}
use Rattle.rules.specs.Rules.{Player, Position, game_state, legal_moves, move_error, play}
use Rattle.rules.specs.Record.{Accepted, player_of}
use Rattle.rules.proofs.LegalMoves.{in_legal, unfinished_some, moves_few}
use Rattle.rules.proofs.Plays.{keeps_accepted}
use Rattle.rules.proofs.Roundtrip.{side_back}
use Rattle.game.specs.Words.{Holds}
use Rattle.game.specs.Moves.{Movable}
use Rattle.machine.specs.Machine as machine
use Rattle.machine.specs.Machine.{Result}
use Rattle.machine.proofs.Reached.{PoolInRange, ends_spent}
use Rattle.matches.specs.Matches as matches
use Rattle.matches.specs.Matches.{Searcher, is_false_verdict, WinsBy, NoWin, look, next_state, drawn_place, move_or_draw, turn}
use Rattle.matches.proofs.Looking.{member, some, look_wins, look_on, look_most}
use Rattle.plain.specs.Plain.{game_of, policy_of, search_of}
use Rattle.plain.proofs.Laws.{lawful, policy_sane}
use Rattle.prove.specs.Numbers.{verdict}
use Rattle.words.specs.Words.{Beyond}
use Rattle.words.proofs.Words.{beyond_trans}
use Rattle.stay.specs.Margin.{StayInRange}
use Rattle.pn.specs.Results.{machine_settings, result_of}
use Rattle.pn.specs.Going.{settings_long}
use Rattle.pn.specs.Searches.{Searchable, Searched}
use Rattle.pn.specs.declared.Settings.{Settings}
use Rattle.pn.specs.declared.SearchResult.{SearchResult}
use Rattle.calls.specs.Writing.{Written}
use Rattle.searches.specs.Searches.{pool_least, pool_most, interval_least, budget_most, nodes, settings}
use Rattle.players.specs.Players as players
use Rattle.players.specs.Players.{budget_of, with_budget, searcher}
use Rattle.players.specs.Answers.{players_of, settings_for}
use Rattle.players.specs.declared.Players.{Players}
use Rattle.players.specs.declared.Look.{Look}
use Rattle.players.specs.declared.Turn.{Turn}

-- a pool of so many words and settings within their ranges
pub record InRange (words : ℕ) (C : players.Players) : Type 0 where
  pub some : pool_least ≤ nodes words
  pub most : nodes words ≤ pool_most
  pub interval_some : interval_least ≤ C.interval
  pub budgets_most : (side : Player) → budget_of C side ≤ budget_most
  pub stay_is_in_range : StayInRange C.stay

pub same_range : (words words' : ℕ) (C : players.Players) → words' ≡ words → InRange words C → InRange words' C
same_range words words' C e r = subst (λ n. InRange n C) (sym e) r

-- no search expands more than its budget, so none more than the largest
pub searcher_within : (words : ℕ) (C : players.Players) → InRange words C → (side : Player) (q : Position) → (searcher words C side q).expanded ≤ budget_of C side
unfolding searcher search_of
searcher_within words C r side q =
    let S = settings words (with_budget C (budget_of C side)) in
    let range : PoolInRange S = record { some = r.some; most = r.most } in
    (ends_spent (game_of 2 q) (lawful 2 q.side) (policy_of 2 q.side S.stay) (policy_sane 2 q.side S.stay) S range q).0

pub searcher_most : (words : ℕ) (C : players.Players) → InRange words C → (side : Player) (q : Position) → (searcher words C side q).expanded ≤ budget_most
searcher_most words C r side q = omega (arith, searcher_within words C r side q, r.budgets_most side)

-- a search of an accepted position, with the settings of a side
pub searchable : (c : Players) (side : Player) (g w : List ℕ) (q : Position) → InRange (length w) (players_of c) → Holds q g 0 → Accepted q → Searchable g w (settings_for c side)
searchable c side g w q r h a = record {
  startable = record { pos = q; holds = h; accepted = a; some = omega (arith, r.some); few = omega (arith, r.most) };
  ranges = record {
    some = omega (arith, r.some);
    few = omega (arith, r.most);
    interval_some = omega (arith, r.interval_some);
    countable = omega (arith, r.budgets_most side);
    rule_few = omega arith;
    stay_is_in_range = r.stay_is_in_range;
  };
}

-- the n legal moves of p stand at the front of an array
pub record Listed (p : Position) (ms : List ℕ) (n : ℕ) : Type 0 where
  pub count : n ≡ length (legal_moves p)
  pub each : (i : ℕ) → i < n → slice_index ms i ≡ slice_index_or (legal_moves p) i 255

pub listed_legal : (p : Position) (ms : List ℕ) (n : ℕ) → Listed p ms n → (i : ℕ) → i < n → move_error p (slice_index ms i) ≡ 0
listed_legal p ms n l i h =
    rw (l.each i h) (in_legal p (slice_index_or (legal_moves p) i 255) (member (legal_moves p) i 255 (omega (arith, l.count))))

-- what looking asks for: an accepted position whose moves are listed, and the settings of its side
pub record Looks (c : Players) (p : Position) (g ms : List ℕ) (n : ℕ) (s : Settings) : Type 0 where
  pub holds : Holds p g 0
  pub accepted : Accepted p
  pub listed : Listed p ms n
  pub settings_are : s ≡ settings_for c p.side

pub record Lookable (g ms : List ℕ) (n : ℕ) (w : List ℕ) (s : Settings) : Type 0 where
  pub players : Players
  pub pos : Position
  pub looks : Looks players pos g ms n s
  pub range : InRange (length w) (players_of players)

-- what it comes to
pub record LookIs (S : Searcher) (p : Position) (r : Look) : Type 0 where
  pub wins : (place : ℕ) → r.winner ≡ Some place → (place < length (legal_moves p)) × ((look S p (legal_moves p)).win ≡ WinsBy (slice_index_or (legal_moves p) place 255))
  pub none : r.winner ≡ None → (look S p (legal_moves p)).win ≡ NoWin
  pub expanded : r.expanded ≡ (look S p (legal_moves p)).expanded

pub record Looked (g ms : List ℕ) (n : ℕ) (s : Settings) (w v : List ℕ) (r : Look) : Type 0 where
  pub past : Beyond w v
  pub each : (c : Players) (p : Position) → Looks c p g ms n s → LookIs (searcher (length w) (players_of c)) p r

-- the first i moves are passed over: what is left leads to the same
pub record Passing (S : Searcher) (p : Position) (i expanded : ℕ) : Type 0 where
  pub win : (look S p (legal_moves p)).win ≡ (look S p (drop i (legal_moves p))).win
  pub total : (look S p (legal_moves p)).expanded ≡ expanded + (look S p (drop i (legal_moves p))).expanded

pub record Looking (g ms : List ℕ) (n : ℕ) (s : Settings) (w₀ w : List ℕ) (i expanded : ℕ) : Type 0 where
  pub from : Lookable g ms n w₀ s
  pub low : i ≤ n
  pub long : length w ≡ length w₀
  pub past : Beyond w₀ w
  pub each : (c : Players) (p : Position) → Looks c p g ms n s → Passing (searcher (length w₀) (players_of c)) p i expanded

module _ {g ms : List ℕ} {n : ℕ} {s : Settings} {w₀ w : List ℕ} {i expanded : ℕ} (l : Looking g ms n s w₀ w i expanded) (h : i < n) where
  abbrev m : ℕ
  m = slice_index ms i

  module _ (next : List ℕ) (made : (p : Position) → Holds p g 0 → move_error p m ≡ 0 → Holds (play p m) next 0) where
    reached : (c : Players) (p : Position) → Looks c p g ms n s → Holds (play p m) next 0 × Accepted (play p m)
    reached c p k = let e = listed_legal p ms n k.listed i h in (made p k.holds e, keeps_accepted p m e k.accepted)

    pub looking_searchable : Searchable next w s
    looking_searchable =
        let f = l.from in
        let r = reached f.players f.pos f.looks in
        rw f.looks.settings_are (searchable f.players f.pos.side next w (play f.pos m) (same_range _ _ _ l.long f.range) r.0 r.1)

    module _ (v : List ℕ) (r : SearchResult) (found : (q : Position) → Holds q next 0 → Accepted q → Searched q s w v r) where
      -- its result, of the move as the list of legal moves has it
      module _ (c : Players) (p : Position) (k : Looks c p g ms n s) where
        abbrev S : Searcher
        S = searcher (length w₀) (players_of c)

        abbrev here : ℕ
        here = slice_index_or (legal_moves p) i 255

        abbrev rest : List ℕ
        rest = drop (suc i) (legal_moves p)

        result_is : result_of r ≡ S p.side (play p here)
        unfolding searcher
        result_is =
            let q = reached c p k in
            (found (play p m) q.0 q.1).result_is
            ∙ ap (λ (t : Settings). search_of t.rule (machine_settings w t) (play p m)) k.settings_are
            ∙ ap (λ (T : machine.Settings). search_of 2 T (play p m)) (settings_long w₀ w (settings_for c p.side) l.long)
            ∙ ap (λ y. search_of 2 (machine_settings w₀ (settings_for c p.side)) (play p y)) (k.listed.each i h)

        left_from : drop i (legal_moves p) ≡ here ∷ rest
        left_from = drop-cons (legal_moves p) i 255 (omega (arith, k.listed.count))

        look_false : is_false_verdict (verdict r.verdict) ≡ true → look S p (drop i (legal_moves p)) ≡ record { win = WinsBy here; expanded = r.expanded }
        look_false e =
            let back = sym result_is in
            rw left_from (look_wins S p here rest (ap (λ (x : Result). is_false_verdict x.verdict) back ∙ e) ∙ (λ j. record { win = WinsBy here; expanded = (back j).expanded }))

        look_other : is_false_verdict (verdict r.verdict) ≡ false
            → look S p (drop i (legal_moves p)) ≡ record { win = (look S p rest).win; expanded = r.expanded + (look S p rest).expanded }
        look_other e =
            let back = sym result_is in
            rw left_from (
            look_on S p here rest (ap (λ (x : Result). is_false_verdict x.verdict) back ∙ e)
            ∙ (λ j. record { win = (look S p rest).win; expanded = (back j).expanded + (look S p rest).expanded })
            )

        -- what is expanded so far is no more than what is expanded in all
        within : expanded + r.expanded ≤ (look S p (legal_moves p)).expanded
        within = go (is_false_verdict (verdict r.verdict)) refl
          where
            go : (b : Bool) → is_false_verdict (verdict r.verdict) ≡ b → expanded + r.expanded ≤ (look S p (legal_moves p)).expanded
            go true e = omega (arith, (l.each c p k).total, ap (λ (x : matches.Look). x.expanded) (look_false e))
            go false e = omega (arith, (l.each c p k).total, ap (λ (x : matches.Look). x.expanded) (look_other e))

      pub looking_fits : expanded + r.expanded ≤ 81 * budget_most
      looking_fits =
          let f = l.from in
          let S = searcher (length w₀) (players_of f.players) in
          omega (
            arith,
            within f.players f.pos f.looks,
            look_most S budget_most (searcher_most (length w₀) (players_of f.players) f.range) f.pos (legal_moves f.pos),
            moves_few f.pos,
          )

      past_all : Beyond w₀ v
      past_all = let f = l.from in let q = reached f.players f.pos f.looks in beyond_trans w₀ w v l.long l.past (found (play f.pos m) q.0 q.1).past

      pub looking_wins : is_false_verdict (verdict r.verdict) ≡ true → Looked g ms n s w₀ v (record { winner = Some i; expanded = expanded + r.expanded })
      looking_wins e = record {
        past = past_all;
        each = λ c p k. record {
          wins = λ place q.
              subst (λ (j : ℕ). (j < length (legal_moves p)) × ((look (searcher (length w₀) (players_of c)) p (legal_moves p)).win ≡ WinsBy (slice_index_or (legal_moves p) j 255)))
              (same_Some _ _ q) (omega (arith, h, k.listed.count), (l.each c p k).win ∙ ap (λ (x : matches.Look). x.win) (look_false c p k e));
          none = λ q. absurd (none-some _ (sym q));
          expanded = sym ((l.each c p k).total ∙ ap (λ (x : matches.Look). expanded + x.expanded) (look_false c p k e));
        };
      }

      pub looking_next : length v ≡ length w → is_false_verdict (verdict r.verdict) ≡ false → Looking g ms n s w₀ v (i + 1) (expanded + r.expanded)
      looking_next long e = record {
        from = l.from;
        low = omega arith;
        long = long ∙ l.long;
        past = past_all;
        each = λ c p k. record {
          win = rw add-one ((l.each c p k).win ∙ ap (λ (x : matches.Look). x.win) (look_other c p k e));
          total = rw add-one (omega (arith, (l.each c p k).total, ap (λ (x : matches.Look). x.expanded) (look_other c p k e)));
        };
      }

-- what a turn asks for: an accepted position in play, and a pool and settings within their ranges
pub record Ready (g w : List ℕ) (c : Players) : Type 0 where
  pub pos : Position
  pub holds : Holds pos g 0
  pub accepted : Accepted pos
  pub range : InRange (length w) (players_of c)

abbrev pub Turnable : (g w : List ℕ) (c : Players) → Type 0
Turnable g w c = (r : Ready g w c) × (game_state r.pos ≡ 0)

-- what it comes to: the move, the state and what was expanded
pub record TurnIs (t : matches.Turn) (m state expanded : ℕ) : Type 0 where
  pub move : m ≡ t.move
  pub state_is : state ≡ t.state
  pub total : expanded ≡ t.expanded

pub record Turned (g : List ℕ) (c : Players) (state : ℕ) (w v : List ℕ) (r : Turn) : Type 0 where
  pub past : Beyond w v
  pub each : (p : Position) → Holds p g 0 → Accepted p → game_state p ≡ 0 → TurnIs (turn (searcher (length w) (players_of c)) p state) r.m.0 r.state r.expanded
