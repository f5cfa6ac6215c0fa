-- The call keeps what PlayersStatement promises. Rests on the laws of two players' games, on Calling, and on the third condition's laws.
use Rattle.std.specs.Prelude.{◌≡◌, ℕ, zero, suc, ◌*◌, ◌^◌, ◌<◌, ◌≤◌, max, Bool, true, false, not, ◌⊎◌, List, [], ◌∷◌, length, ◌≢◌, nat_lt}
use Rattle.std.proofs.Math.Path.{refl, subst}
use Rattle.std.proofs.Common.{ap, sym, ◌∙◌, true≢false, mul-le-mul_right, arith}
use Rattle.std.proofs.lemmas.Bool.{false≢true}
use Rattle.std.proofs.Math.Logic.{inl, inr}
use Rattle.std.proofs.Math.Nat.{mod-lt}
use borrow.Author.Tests.{eqb-false, ltb-true, ltb-false, lt-ltb, le-ltb}
use Rattle.rules.specs.Rules.{Player, Position, game_state, legal_moves, move_error, play}
use Rattle.rules.specs.Record.{position_of, refusal, Accepted, record_of}
use Rattle.rules.specs.Refusals.{refuses, first_refusal}
use Rattle.rules.proofs.RefusalLaws.{same_first, nested, rest_refuses}
use Rattle.rules.proofs.LegalMoves.{legal_in, unfinished_some}
use Rattle.rules.proofs.Plays.{keeps_accepted}
use Rattle.rules.proofs.Roundtrip.{stored_loads}
use Rattle.machine.specs.Game.{value}
use Rattle.machine.specs.Machine.{Settings, Result, False}
use Rattle.plain.specs.Plain.{game, value_of, search_of}
use Rattle.matches.specs.Matches as matches
use Rattle.matches.specs.Matches.{Searcher, Win, WinsBy, NoWin, look, next_state, drawn_place, move_or_draw, turn, report, play_match}
use Rattle.matches.proofs.Looking.{some, look_found, look_none}
use Rattle.matches.proofs.Playing.{game_ends, game_state_fits, adds_up, finished_games, match_at_most}
use Rattle.matches.proofs.Wins.{move_wins}
use Rattle.stay.specs.Margin.{stay_in_range, stay_of}
use Rattle.calls.specs.Calls.{answer_unless}
use Rattle.calls.proofs.Refusing.{by_number}
use Rattle.searches.specs.Searches.{pool_least, pool_most, interval_least, interval_most, budget_most, Limits, nodes, settings, search_refusal, Answered, search_call, Untouched}
use Rattle.searches.proofs.SearchAnswers.{search_answered}
use Rattle.searches.proofs.TwoSearches.{third_condition}
use Rattle.searches.specs.ThirdCondition.{ThirdCondition}
use Rattle.players.specs.Players.{Players, budget_of, with_budget, searcher, match_least, match_most, larger, simulate_refusal, PoolAfterSimulate, in_play}
use Rattle.players.specs.Players.{SimulateOutcome, simulate_outcome, simulate_call}
use Rattle.players.specs.PlayersStatement.{PlaysFalse, DrawsMove, PlayersStatement}
use Rattle.players.proofs.Calling.{Passed, passed, budget_at_most, in_range, accepted}
use Rattle.players.specs.Turning.{searcher_within, searcher_most}

-- A TURN, by what looking finds
module _ (S : Searcher) (p : Position) (a : Accepted p) (e : game_state p ≡ 0) (state : ℕ) where
  pub turn_cases : PlaysFalse S p state ⊎ DrawsMove S p state
  unfolding turn move_or_draw next_state drawn_place
  turn_cases = go (look S p (legal_moves p)).win refl
    where
      go : (w : Win) → (look S p (legal_moves p)).win ≡ w → PlaysFalse S p state ⊎ DrawsMove S p state
      go (WinsBy m) q =
          let f = look_found S p (legal_moves p) m q in
          inl (record {
            place = f.place;
            legal = f.within;
            answered = subst (λ y. (S p.side (play p y)).verdict ≡ False) (sym f.is) f.answered;
            first = f.passed.not_false;
            turn_is = rw (q, f.is, ← f.searched);
          })
      go NoWin q =
          let f = look_none S p (legal_moves p) q in
          inr (record {
            none = f.passed.not_false;
            within = mod-lt _ (some (legal_moves p) (unfinished_some p a e).1);
            turn_is = rw (q, ← f.searched);
          })

-- THE CHECKS, one by one: the larger budget is out of the range if one of the two is, and rule 2 is none that check 10 refuses
two_budgets : (b x o : ℕ) (ns : List ℕ) → first_refusal (refuses 10 (nat_lt b (max x o)) ∷ ns) ≡ first_refusal (refuses 10 (nat_lt b x) ∷ refuses 10 (nat_lt b o) ∷ ns)
unfolding first_refusal
two_budgets b x o ns = go (nat_lt b x) (nat_lt b o) refl refl
  where
    go : (u v : Bool) → nat_lt b x ≡ u → nat_lt b o ≡ v → first_refusal (refuses 10 (nat_lt b (max x o)) ∷ ns) ≡ first_refusal (refuses 10 u ∷ refuses 10 v ∷ ns)
    go true v e f = rw (lt-ltb b (max x o) (omega (arith, ltb-true b x e)))
    go false true e f = rw (lt-ltb b (max x o) (omega (arith, ltb-true b o f)))
    go false false e f = rw (le-ltb b (max x o) (omega (arith, ltb-false b x e, ltb-false b o f)))

module _ (bytes : List ℕ) (capacity : ℕ) (C : Players) (games : ℕ) where
  abbrev late : List ℕ
  late = refuses 21 (not (stay_in_range C.stay)) ∷ refuses 23 (nat_lt games match_least) ∷ refuses 23 (nat_lt match_most games) ∷ []

  pub all_checks : simulate_refusal bytes capacity C games
      ≡ first_refusal (
      refusal bytes
      ∷ refuses 8 (nat_lt capacity pool_least)
      ∷ refuses 9 (nat_lt pool_most capacity)
      ∷ refuses 10 (nat_lt C.interval interval_least)
      ∷ refuses 10 (nat_lt interval_most C.interval)
      ∷ refuses 10 (nat_lt budget_most C.x_budget)
      ∷ refuses 10 (nat_lt budget_most C.o_budget)
      ∷ late
      )
  unfolding simulate_refusal search_refusal
  all_checks =
      nested _ _
      ∙ same_first _ _ _ (same_first _ _ _ (same_first _ _ _ (
      rest_refuses 0 _ refl ∙ same_first _ _ _ (same_first _ _ _ (two_budgets budget_most C.x_budget C.o_budget late))
      )))

-- A PLAYER'S SEARCH is a call of search
module _ {bytes : List ℕ} {words : ℕ} {C : Players} {games : ℕ} (all : Passed bytes words C games) (p : Position) (a : Accepted p) (m : ℕ) (legal : move_error p m ≡ 0) where
  abbrev after : List ℕ
  after = record_of (play p m)

  abbrev S : Limits
  S = with_budget C (budget_of C p.side)

  fine : search_refusal after (nodes words) 2 S ≡ 0
  unfolding search_refusal first_refusal
  fine =
      let r = all.accepts in
      rw (
        (stored_loads (play p m) (keeps_accepted p m legal a)).1,
        le-ltb (nodes words) pool_least r.range.some,
        le-ltb pool_most (nodes words) r.range.most,
        le-ltb C.interval interval_least r.interval_at_least,
        le-ltb interval_most C.interval r.interval_at_most,
        le-ltb budget_most (budget_of C p.side) ((in_range all).budgets_most p.side),
        r.stay_is_in_range,
      )

  pub is_search : search_call after words 2 S ≡ Answered (searcher words C p.side (play p m))
  unfolding searcher
  is_search =
      search_answered after words 2 S fine _
      (ap (λ (q : Position). search_of 2 (settings words S) q) (stored_loads (play p m) (keeps_accepted p m legal a)).0)

  pub meets_third : (words' : ℕ) (T : Limits) (s : Result) → search_call after words' 2 T ≡ Answered s
      → let r = searcher words C p.side (play p m) in ThirdCondition after 2 S T words words' r s × ThirdCondition after 2 T S words' words s r
  meets_third words' T s e =
      let r = searcher words C p.side (play p m) in
      (third_condition after 2 S T words words' r s is_search e, third_condition after 2 T S words' words s r e is_search)

  pub false_wins : (searcher words C p.side (play p m)).verdict ≡ False → (value_of 2 (play p m) ≡ false) × (value (game 1 p.side) (play p m) ≡ true)
  false_wins e =
      let r = searcher words C p.side (play p m) in
      let lost : value_of 2 (play p m) ≡ false =
      subst (λ (q : Position). value_of 2 q ≡ false) (stored_loads (play p m) (keeps_accepted p m legal a)).0 ((third_condition after 2 S S words words r r is_search is_search).first_false e) in
      (lost, move_wins p a m (legal_in p m legal) lost)

-- THE POOL IN NODES is all that an answer takes of the pool
same_nodes : (bytes : List ℕ) (words words' : ℕ) (C : Players) (seed games : ℕ) → nodes words' ≡ nodes words → simulate_call bytes words' C seed games ≡ simulate_call bytes words C seed games
unfolding simulate_call searcher
same_nodes bytes words words' C seed games e =
    let settings_in : (nodes budget : ℕ) → Settings = λ k b. record { pool = k; limit = C.limit; budget = b; interval = C.interval; stay = stay_of C.stay } in
    ap (λ k. answer_unless (simulate_refusal bytes k C games) (λ n. simulate_outcome n 0 (report 0 0 0 0))
    (simulate_outcome 0 0 (play_match (λ side q. search_of 2 (settings_in k (budget_of C side)) q) games (position_of bytes) seed))) e

-- ALL CLAUSES, of an answer that is the call's and of a pool that is left as the call leaves it
module _ (bytes : List ℕ) (C : Players) (seed games : ℕ) (w v : List ℕ) (o : SimulateOutcome) (is : o ≡ simulate_call bytes (length w) C seed games)
    (pool : PoolAfterSimulate o.number (in_play bytes) w v) where
  by_answer : (P : SimulateOutcome → Type 0) → ((m : ℕ) → simulate_refusal bytes (nodes (length w)) C games ≡ suc m → P (simulate_outcome (suc m) 0 (report 0 0 0 0)))
      → (simulate_refusal bytes (nodes (length w)) C games ≡ 0 → P (simulate_outcome 0 0 (play_match (searcher (length w) C) games (position_of bytes) seed))) → P o
  unfolding simulate_call
  by_answer P refused answered = subst P (sym is) (by_number P (simulate_refusal bytes (nodes (length w)) C games) (λ n. simulate_outcome n 0 (report 0 0 0 0)) _ refused answered)

  number_is : o.number ≡ simulate_refusal bytes (nodes (length w)) C games
  number_is = by_answer (λ x. x.number ≡ simulate_refusal bytes (nodes (length w)) C games) (λ m e. sym e) (λ e. sym e)

  all_passed : o.number ≡ 0 → Passed bytes (length w) C games
  all_passed z = passed bytes (length w) C games (sym number_is ∙ z)

  report_is : o.number ≡ 0 → o.report ≡ play_match (searcher (length w) C) games (position_of bytes) seed
  report_is = by_answer (λ x. x.number ≡ 0 → x.report ≡ play_match (searcher (length w) C) games (position_of bytes) seed) (λ m e z. absurd (omega (arith, z))) (λ e z. refl)

  no_report : (o.number ≢ 0) → o.report ≡ report 0 0 0 0
  no_report = by_answer (λ x. (x.number ≢ 0) → x.report ≡ report 0 0 0 0) (λ m e z. refl) (λ e z. absurd (z refl))

  index_is : o.index ≡ 0
  index_is = by_answer (λ x. x.index ≡ 0) (λ m e. refl) (λ e. refl)

  most_is : o.number ≡ 0 → o.report.expanded ≤ games * (81 * (81 * larger C))
  most_is z =
      let p = all_passed z in
      let each : (s : Player) (q : Position) → (searcher (length w) C s q).expanded ≤ larger C = λ s q.
      omega (arith, searcher_within (length w) C (in_range p) s q, budget_at_most C s) in
      rw (report_is z) (match_at_most (searcher (length w) C) (larger C) each games (position_of bytes) seed (accepted p))

  fits_is : o.report.expanded < 2 ^ 64
  fits_is = go o.number refl
    where
      go : (n : ℕ) → o.number ≡ n → o.report.expanded < 2 ^ 64
      go zero z =
          let p = all_passed z in
          let within = match_at_most (searcher (length w) C) budget_most (searcher_most (length w) C (in_range p)) games (position_of bytes) seed (accepted p) in
          rw (report_is z) (omega (arith, within, mul-le-mul_right (81 * (81 * budget_most)) p.games_at_most))
      go (suc n) z = rw (no_report (λ q. omega (arith, q, z))) (omega arith)

  pool_refused : (n : ℕ) (b : Bool) → PoolAfterSimulate n b w v → (n ≢ 0) → v ≡ w
  pool_refused zero b h z = absurd (z refl)
  pool_refused (suc n) b h z = h

  pool_over : (n : ℕ) (b : Bool) → PoolAfterSimulate n b w v → b ≡ false → v ≡ w
  pool_over zero true h e = absurd (true≢false e)
  pool_over zero false h e = h
  pool_over (suc n) b h e = h

  pool_past : (n : ℕ) (b : Bool) → PoolAfterSimulate n b w v → b ≡ true → Untouched w v
  pool_past zero true h e = h
  pool_past zero false h e = absurd (false≢true e)
  pool_past (suc n) b h e = rw h (refl, refl)

  pub keeps : PlayersStatement bytes C seed games w v o
  keeps = record {
    searches = λ z p a m l. is_search (all_passed z) p a m l;
    third = λ z p a m l. meets_third (all_passed z) p a m l;
    finished = λ z e. report_is z ∙ finished_games (searcher (length w) C) games (position_of bytes) seed (eqb-false (game_state (position_of bytes)) 0 e);
    turns = λ z p a e s. turn_cases (searcher (length w) C) p a e s;
    wins = λ z p a m l. false_wins (all_passed z) p a m l;
    state_fits = λ z s l. game_state_fits (searcher (length w) C) (position_of bytes) s (accepted (all_passed z)) l;
    ends = λ z s. (game_ends (searcher (length w) C) (position_of bytes) s (accepted (all_passed z))).over;
    number_of_games = λ z. ((all_passed z).games_at_least, (all_passed z).games_at_most);
    exactly = report_is;
    adds_up = λ z. rw (report_is z) (adds_up (searcher (length w) C) games (position_of bytes) seed (accepted (all_passed z)));
    most = most_is;
    fits = fits_is;
    same = λ words e. same_nodes bytes (length w) words C seed games e ∙ sym is;
    checks = number_is ∙ all_checks bytes (nodes (length w)) C games;
    index_0 = index_is;
    refused = λ z. (pool_refused o.number (in_play bytes) pool z, no_report z);
    over = pool_over o.number (in_play bytes) pool;
    past = pool_past o.number (in_play bytes) pool;
  }
