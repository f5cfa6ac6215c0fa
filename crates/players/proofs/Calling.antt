-- The whole call: what a list of checks that refuses nothing tells, and the answer by the check that refuses. Rests on Players, on the laws of checks, and on Matching.
use Rattle.std.specs.Prelude.{◌≡◌, ℕ, zero, suc, ◌≤◌, Bool, true, false, List, [], ◌∷◌, length, ◌≢◌, nat_lt, refl}
use Rattle.std.proofs.Common.{sym, subst, ◌∙◌, arith}
use Rattle.std.proofs.lemmas.Bool.{eqb-false}
use Rattle.rules.specs.Rules.{Player, game_state}
use Rattle.rules.specs.Rules.Player.{X, O}
use Rattle.rules.specs.Record.{position_of, Accepted}
use Rattle.rules.proofs.Checks.{loads, loads_accepted}
use Rattle.rules.specs.Refusals.{refuses, first_refusal}
use Rattle.rules.proofs.RefusalLaws.{none_refuses, first_refuses, rest_refuses}
use Rattle.game.specs.Words.{Holds}
use Rattle.matches.specs.Matches.{report, play_match}
use Rattle.calls.proofs.Refusing.{passes_test, refused_by}
use Rattle.searches.specs.Searches.{nodes, search_refusal}
use Rattle.searches.specs.Accepting.{Accepts}
use Rattle.searches.proofs.Accepting.{accepts}
use Rattle.searches.proofs.Pools.{untouched}
use Rattle.players.specs.Players as players
use Rattle.players.specs.Players.{budget_of, with_budget, searcher, match_least, match_most, larger, simulate_refusal, simulate_outcome, simulate_call, PoolAfterSimulate, in_play}
use Rattle.players.specs.Answers.{players_of, report_of}
use Rattle.players.specs.Turning.{InRange, Ready}
use Rattle.players.specs.Matching.{MatchPlayed}
use Rattle.players.specs.declared.Players.{Players}
use Rattle.players.specs.declared.Report.{Report}

-- search's checks, and 23 after them
module _ (bytes : List ℕ) (capacity : ℕ) (C : players.Players) (games : ℕ) {budget : ℕ} (is : budget ≡ larger C) where
  pub accept_search : (n : ℕ) → n ≡ search_refusal bytes capacity 2 (with_budget C budget) → (n ≡ 0 → ⊥) → n ≡ simulate_refusal bytes capacity C games
  unfolding simulate_refusal
  accept_search n e z = rw (← is, ← e) (sym (first_refuses n _ z))

  pub accept_games : search_refusal bytes capacity 2 (with_budget C budget) ≡ 0 → (n : ℕ)
      → n ≡ first_refusal (refuses 23 (nat_lt games match_least) ∷ refuses 23 (nat_lt match_most games) ∷ []) → n ≡ simulate_refusal bytes capacity C games
  unfolding simulate_refusal
  accept_games passed n e = rw (← is) (e ∙ sym (rest_refuses _ _ passed))

-- a call that passes its checks
pub record Passed (bytes : List ℕ) (words : ℕ) (C : players.Players) (games : ℕ) : Type 0 where
  pub accepts : Accepts bytes words 2 (with_budget C (larger C))
  pub games_at_least : match_least ≤ games
  pub games_at_most : games ≤ match_most

pub passed : (bytes : List ℕ) (words : ℕ) (C : players.Players) (games : ℕ) → simulate_refusal bytes (nodes words) C games ≡ 0 → Passed bytes words C games
unfolding simulate_refusal
passed bytes words C games e =
    let search = none_refuses _ _ e in
    let least = passes_test 22 _ _ _ search.1 in
    let most = passes_test 22 _ _ _ least.1 in
    record { accepts = accepts bytes words 2 (with_budget C (larger C)) search.0; games_at_least = least.0; games_at_most = most.0 }

-- each budget is no more than the larger
pub budget_at_most : (C : players.Players) (side : Player) → budget_of C side ≤ larger C
budget_at_most C X = omega arith
budget_at_most C O = omega arith

module _ {bytes : List ℕ} {words : ℕ} {C : players.Players} {games : ℕ} (p : Passed bytes words C games) where
  pub in_range : InRange words C
  in_range =
      let a = p.accepts in
      record {
        some = a.range.some;
        most = a.range.most;
        interval_some = a.interval_at_least;
        budgets_most = λ side. omega (arith, budget_at_most C side, a.budget_at_most);
        stay_is_in_range = a.stay_is_in_range;
      }

  pub accepted : Accepted (position_of bytes)
  accepted = loads_accepted bytes (loads bytes p.accepts.loads)

-- THE ANSWER, by the check that refuses
module _ (bytes : List ℕ) (words : ℕ) (C : players.Players) (seed games : ℕ) where
  pub call_refused : (n : ℕ) → n ≡ simulate_refusal bytes (nodes words) C games → (n ≢ 0) → simulate_outcome n 0 (report 0 0 0 0) ≡ simulate_call bytes words C seed games
  unfolding simulate_call
  call_refused n e z = refused_by (λ n. simulate_outcome n 0 (report 0 0 0 0)) _ n _ e z

  pub call_played : simulate_refusal bytes (nodes words) C games ≡ 0
      → simulate_outcome 0 0 (play_match (searcher words C) games (position_of bytes) seed) ≡ simulate_call bytes words C seed games
  unfolding simulate_call
  call_played e = rw e

-- a refusal leaves the pool as it was
pub pool_refused : (n : ℕ) (playing : Bool) (w : List ℕ) → (n ≢ 0) → PoolAfterSimulate n playing w w
pool_refused zero playing w z = absurd (z refl)
pool_refused (suc n) playing w z = refl

-- ALL CHECKS PASSED
module _ (bytes w : List ℕ) (c : Players) (seed games capacity : ℕ) (counted : capacity ≡ nodes (length w)) (code : ℕ) (is : code ≡ simulate_refusal bytes capacity (players_of c) games)
    (none : code ≡ 0) (g : List ℕ) (holds : Holds (position_of bytes) g 0) where
  fine : simulate_refusal bytes (nodes (length w)) (players_of c) games ≡ 0
  fine = subst (λ k. simulate_refusal bytes k (players_of c) games ≡ 0) counted (sym is ∙ none)

  all : Passed bytes (length w) (players_of c) games
  all = passed bytes (length w) (players_of c) games fine

  pub to_play : Ready g w c × (games ≤ match_most)
  to_play = (record { pos = position_of bytes; holds = holds; accepted = accepted all; range = in_range all }, all.games_at_most)

  module _ (v : List ℕ) (r : Report) (long : length v ≡ length w) (played : MatchPlayed g c seed games w v r) where
    pub played_answer : simulate_outcome 0 0 (report_of r) ≡ simulate_call bytes (length w) (players_of c) seed games
    played_answer = rw (played.each (position_of bytes) holds (accepted all)) (call_played bytes (length w) (players_of c) seed games fine)

    pub played_pool : PoolAfterSimulate 0 (in_play bytes) w v
    played_pool = go (in_play bytes) refl
      where
        go : (b : Bool) → in_play bytes ≡ b → PoolAfterSimulate 0 b w v
        go true e = untouched w v long played.past
        go false e = played.over (position_of bytes) holds (accepted all) (eqb-false (game_state (position_of bytes)) 0 e)
