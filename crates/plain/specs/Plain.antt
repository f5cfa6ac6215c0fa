-- Ultimate Tic Tac Toe as a game that the plain machine searches, and what the third condition names of a record: its value, N and the
-- machine's result. MANUAL, Draw rules and value; The third condition. Rests on crates rules and machine.
use Rattle.std.specs.Prelude.{List, Bool, ℕ}
use Rattle.rules.specs.Rules.{Player, Position, legal_moves, play, same, count, final_value}
use Rattle.rules.specs.Record.{position_of}
use Rattle.machine.specs.Game.{Game, value, sequences}
use Rattle.machine.specs.Machine.{Stay, Settings, Result, Policy, standard, search}

-- The game under a draw rule (0, 1 or 2) and for a root's side. The rule comes in with the value of a finished position alone.
-- What falls at each move is the number of empty cells.
abbrev pub game : ℕ → Player → Game
game rule root = record {
  Pos = Position;
  moves = legal_moves;
  play = play;
  mine = λ p. same root p.side;
  final = final_value rule root;
  left = λ p. count 0 p.cells;
}

-- The game that a search of a position plays: the root's side is the position's side to move.
abbrev pub game_of : ℕ → Position → Game
game_of rule p = game rule p.side

-- The value of a position under a rule, for its side to move.
unfoldable pub value_of : ℕ → Position → Bool
value_of rule p = value (game_of rule p) p

-- N: the number of legal move sequences from a position, the empty one included. It is the same under every rule (Laws.antt), so any rule serves.
unfoldable pub sequences_of : Position → ℕ
sequences_of p = sequences (game_of 0 p) p

-- The choices of steps 2 and 3 in the game of a rule and a root's side, with a setting: the machine's standard ones. Laws.antt has all that is used of them.
unfoldable pub policy_of : (rule : ℕ) (root : Player) → Stay → Policy (game rule root)
policy_of rule root y = standard (game rule root) y

-- The plain machine's result for a position, with the choices of the search's setting.
unfoldable pub search_of : ℕ → Settings → Position → Result
search_of rule S p = search (game_of rule p) (policy_of rule p.side S.stay) S p

-- The same three of a record: of the position that its bytes say.
abbrev pub record_value : ℕ → List ℕ → Bool
record_value rule bytes = value_of rule (position_of bytes)

abbrev pub record_sequences : List ℕ → ℕ
record_sequences bytes = sequences_of (position_of bytes)

abbrev pub plain_search : ℕ → Settings → List ℕ → Result
plain_search rule S bytes = search_of rule S (position_of bytes)
