-- What is promised of simulated players (MANUAL, Simulated players), a clause for each sentence: one record, of an answer o and of the pool's words before and after the call. Rests on
-- Players, on the games of two players, on search's call and on the third condition.
use Rattle.std.specs.Prelude.{◌≡◌, ℕ, suc, ◌+◌, ◌*◌, ◌/◌, ◌%◌, ◌^◌, ◌<◌, ◌≤◌, true, false, not, ◌⊎◌, List, [], ◌∷◌, map, length, take, ◌==◌, ◌≢◌, nat_lt, slice_index_or}
use Rattle.rules.specs.Rules.{Position, game_state, legal_moves, move_error, play}
use Rattle.rules.specs.Record.{position_of, refusal, Accepted, record_of}
use Rattle.rules.specs.Refusals.{refuses, first_refusal}
use Rattle.machine.specs.Game.{value}
use Rattle.machine.specs.Machine.{Result, False}
use Rattle.plain.specs.Plain.{game, value_of}
use Rattle.passes.specs.Passes.{total}
use Rattle.matches.specs.Matches.{Searcher, turn, play_game, report, one, play_match}
use Rattle.stay.specs.Margin.{stay_in_range}
use Rattle.searches.specs.Searches.{pool_least, pool_most, interval_least, interval_most, budget_most, Limits, nodes, Answered, search_call, Untouched}
use Rattle.searches.specs.ThirdCondition.{ThirdCondition}
use Rattle.players.specs.Players.{Players, budget_of, with_budget, searcher, match_least, match_most, larger, SimulateOutcome, simulate_call, in_play}

-- The i-th legal move of a position, and what the mover's search after it answers.
abbrev pub move_at : Position → (i : ℕ) → ℕ
move_at p i = slice_index_or (legal_moves p) i 255

abbrev pub answer_at : Searcher → Position → (i : ℕ) → Result
answer_at S p i = S p.side (play p (move_at p i))

-- What the searches after some moves expand, together.
abbrev pub expanded_by : Searcher → Position → (moves : List ℕ) → ℕ
expanded_by S p ms = total (map (λ m. (S p.side (play p m)).expanded) ms)

-- A turn in which a legal move is answered False: the first such in move order is played. It is searched, those before it are, and no later one; the state does not move.
pub record PlaysFalse (S : Searcher) (p : Position) (state : ℕ) : Type 0 where
  pub place : ℕ
  pub legal : place < length (legal_moves p)
  pub answered : (answer_at S p place).verdict ≡ False
  pub first : (i : ℕ) → i < place → (answer_at S p i).verdict ≢ False
  pub turn_is : turn S p state ≡ record { move = move_at p place; state = state; expanded = expanded_by S p (take (suc place) (legal_moves p)) }

-- A turn in which none is: the constant is added to the state with wrap-around, and the upper 32 bits of the sum modulo the number of legal moves are the place of the move played.
abbrev pub stepped : ℕ → ℕ
stepped state = (state + 0x9E3779B97F4A7C15) % 2 ^ 64

pub record DrawsMove (S : Searcher) (p : Position) (state : ℕ) : Type 0 where
  pub none : (i : ℕ) → i < length (legal_moves p) → (answer_at S p i).verdict ≢ False
  pub within : stepped state / 2 ^ 32 % length (legal_moves p) < length (legal_moves p)
  pub turn_is : turn S p state
      ≡ record { move = move_at p (stepped state / 2 ^ 32 % length (legal_moves p)); state = stepped state; expanded = expanded_by S p (legal_moves p) }

pub record PlayersStatement (bytes : List ℕ) (C : Players) (seed games : ℕ) (before after : List ℕ) (o : SimulateOutcome) : Type 0 where
  -- X and O have each its own budget for every search. A player's search after a move is a call of search: of the record after the move, under rule 2, with the mover's budget and the
  -- common pool, limit, interval and setting, whatever words the pool holds;
  pub searches : o.number ≡ 0 → (p : Position) → Accepted p → (m : ℕ) → move_error p m ≡ 0
      → search_call (record_of (play p m)) (length before) 2 (with_budget C (budget_of C p.side)) ≡ Answered (searcher (length before) C p.side (play p m))
  -- so it meets the third condition, as the first and as the second, with any accepted search of that record under rule 2.
  pub third : o.number ≡ 0 → (p : Position) → Accepted p → (m : ℕ) → move_error p m ≡ 0 → (words : ℕ) (T : Limits) (s : Result) → search_call (record_of (play p m)) words 2 T ≡ Answered s
      → let S = with_budget C (budget_of C p.side) in
      let r = searcher (length before) C p.side (play p m) in
      ThirdCondition (record_of (play p m)) 2 S T (length before) words r s × ThirdCondition (record_of (play p m)) 2 T S words (length before) s r
  -- They play from the given record; a finished one is scored as it is, for each of the games, with no expansion.
  pub finished : o.number ≡ 0 → in_play bytes ≡ false
      → let g = game_state (position_of bytes) in o.report ≡ report (games * one (g == 1)) (games * one (g == 2)) (games * one (g == 3)) 0
  -- At a turn the first move answered False is played; with none a move is drawn.
  pub turns : o.number ≡ 0 → (p : Position) → Accepted p → game_state p ≡ 0 → (state : ℕ)
      → let S = searcher (length before) C in PlaysFalse S p state ⊎ DrawsMove S p state
  -- A move that is played on a False wins for its mover: the other side has not even a draw, and the mover can force a win from there.
  pub wins : o.number ≡ 0 → (p : Position) → Accepted p → (m : ℕ) → move_error p m ≡ 0 → (searcher (length before) C p.side (play p m)).verdict ≡ False
      → (value_of 2 (play p m) ≡ false) × (value (game 1 p.side) (play p m) ≡ true)
  -- The draw's state has 64 bits: at first the seed, and after a game no more.
  pub state_fits : o.number ≡ 0 → (state : ℕ) → state < 2 ^ 64 → (play_game (searcher (length before) C) (position_of bytes) state).state < 2 ^ 64
  -- Every game ends, whatever its state at the start.
  pub ends : o.number ≡ 0 → (state : ℕ) → game_state (play_game (searcher (length before) C) (position_of bytes) state).last ≢ 0
  -- From 1 to 1,000 games are run, the state carrying on, and the report has exactly what they come to;
  pub number_of_games : o.number ≡ 0 → (1 ≤ games) × (games ≤ 1000)
  pub exactly : o.number ≡ 0 → o.report ≡ play_match (searcher (length before) C) games (position_of bytes) seed
  -- its first three numbers add up to the games,
  pub adds_up : o.number ≡ 0 → o.report.x_wins_here + o.report.o_wins + o.report.draws ≡ games
  -- and the fourth fits its number: a game has at most 81 turns, a turn at most 81 searches, and a search expands no more than its budget.
  pub most : o.number ≡ 0 → o.report.expanded ≤ games * (81 * (81 * larger C))
  pub fits : o.report.expanded < 2 ^ 64
  -- Same record, seed, settings, pool in nodes and number of games: same report, whatever words the pool holds.
  pub same : (words : ℕ) → nodes words ≡ nodes (length before) → simulate_call bytes words C seed games ≡ o
  -- The checks: those of the record; 8 and 9 of the pool; 10 of the interval and of both budgets; 21 of the margin; 23 of the number of games. The index is 0 always.
  pub checks : o.number
      ≡ first_refusal (
      refusal bytes
      ∷ refuses 8 (nat_lt (nodes (length before)) pool_least)
      ∷ refuses 9 (nat_lt pool_most (nodes (length before)))
      ∷ refuses 10 (nat_lt C.interval interval_least)
      ∷ refuses 10 (nat_lt interval_most C.interval)
      ∷ refuses 10 (nat_lt budget_most C.x_budget)
      ∷ refuses 10 (nat_lt budget_most C.o_budget)
      ∷ refuses 21 (not (stay_in_range C.stay))
      ∷ refuses 23 (nat_lt games match_least)
      ∷ refuses 23 (nat_lt match_most games)
      ∷ []
      )
  pub index_0 : o.index ≡ 0
  -- A refusal writes nothing and reports nothing. Nor is anything written where the record's game is over; otherwise no word past the pool's capacity is.
  pub refused : (o.number ≢ 0) → (after ≡ before) × (o.report ≡ report 0 0 0 0)
  pub over : in_play bytes ≡ false → after ≡ before
  pub past : in_play bytes ≡ true → Untouched before after
