-- Simulated players (MANUAL, Simulated players): a turn, a game, and the report of some games, in this order. What a player learns by a search is taken as given here. Rests on the
-- rules and on the machine's results.
use Rattle.std.specs.Prelude.{Bool, true, false, cond, List, [], ◌∷◌, ℕ, zero, suc, ◌+◌, ◌/◌, ◌%◌, ◌^◌, eqb, length, get_or}
use Rattle.rules.specs.Rules.{Player, Position, count, game_state, legal_moves, play}
use Rattle.machine.specs.Machine.{Result, Verdict, True, False, Unknown}

-- The result of a player's search of a position: of X's searches, or of O's.
abbrev pub Searcher : Type 0
Searcher = Player → Position → Result

-- A search that is answered False. Unknown is not False.
abbrev pub is_false_verdict : Verdict → Bool
is_false_verdict True = false
is_false_verdict False = true
is_false_verdict Unknown = false

-- Looking for a win among some moves: the positions after them are searched in the moves' order, up to the first that is answered False; that move wins. And what all these searches
-- expanded, that one's too.
pub data Win : Type 0 where
  WinsBy : ℕ → Win
  NoWin : Win

pub record Look : Type 0 where
  pub win : Win
  pub expanded : ℕ

unfoldable pub look : Searcher → Position → (moves : List ℕ) → Look
look search p [] = record { win = NoWin; expanded = 0 }
look search p (m ∷ ms) =
    let r = search p.side (play p m) in
    elim (is_false_verdict r.verdict) [
      | true ↦ record { win = WinsBy m; expanded = r.expanded }
      | false ↦ record { win = (look search p ms).win; expanded = r.expanded + (look search p ms).expanded }
    ]

-- The draw: the constant is added to the state modulo two to the 64th, and the upper 32 bits of the sum, modulo the number of moves, are the place of the move drawn, counted from 0.
unfoldable pub next_state : ℕ → ℕ
next_state s = (s + 0x9E3779B97F4A7C15) % 2 ^ 64

unfoldable pub drawn_place : (state moves : ℕ) → ℕ
drawn_place s n = s / 2 ^ 32 % n

-- A turn: the move, the state afterwards, and what was expanded. A move that wins is played; otherwise one of the legal moves is drawn, and only then the state moves.
pub record Turn : Type 0 where
  pub move : ℕ
  pub state : ℕ
  pub expanded : ℕ

unfoldable pub move_or_draw : Win → (moves : List ℕ) (state expanded : ℕ) → Turn
move_or_draw (WinsBy m) ms s e = record { move = m; state = s; expanded = e }
move_or_draw NoWin ms s e = record { move = get_or ms (drawn_place (next_state s) (length ms)) 255; state = next_state s; expanded = e }

unfoldable pub turn : Searcher → Position → (state : ℕ) → Turn
turn search p s = let l = look search p (legal_moves p) in move_or_draw l.win (legal_moves p) s l.expanded

-- A game: turn after turn while it is in play, no more of them than there are empty cells. The last position, the state afterwards, and what was expanded.
pub record Played : Type 0 where
  pub last : Position
  pub state : ℕ
  pub expanded : ℕ

-- A turn, and then the rest of its game.
abbrev pub then_played : Turn → Played → Played
then_played t g = record { last = g.last; state = g.state; expanded = t.expanded + g.expanded }

unfoldable pub turns : Searcher → (most : ℕ) → Position → (state : ℕ) → Played
turns search zero p s = record { last = p; state = s; expanded = 0 }
turns search (suc k) p s =
    let t = turn search p s in
    elim (eqb (game_state p) 0) [
      | true ↦ then_played t (turns search k (play p t.move) t.state)
      | false ↦ record { last = p; state = s; expanded = 0 }
    ]

unfoldable pub play_game : Searcher → Position → (state : ℕ) → Played
play_game search p s = turns search (count 0 p.cells) p s

-- The report: X's wins, O's wins, draws, and what was expanded in all.
pub record Report : Type 0 where
  pub x_wins_here : ℕ
  pub o_wins : ℕ
  pub draws : ℕ
  pub expanded : ℕ

abbrev pub report : (x_wins_here o_wins draws expanded : ℕ) → Report
report x o d e = record { x_wins_here = x; o_wins = o; draws = d; expanded = e }

-- A game ahead of the others: it counts by the state of its last position.
abbrev pub one : Bool → ℕ
one b = cond b 1 0

unfoldable pub counted : Played → Report → Report
counted g r =
    let state : ℕ = game_state g.last in
    report (one (eqb state 1) + r.x_wins_here) (one (eqb state 2) + r.o_wins) (one (eqb state 3) + r.draws) (g.expanded + r.expanded)

-- So many games from one position, one after the other, the state carrying on.
unfoldable pub play_match : Searcher → (games : ℕ) → Position → (state : ℕ) → Report
play_match search zero p s = report 0 0 0 0
play_match search (suc n) p s = let g = play_game search p s in counted g (play_match search n p g.state)
