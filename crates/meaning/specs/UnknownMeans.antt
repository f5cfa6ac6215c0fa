-- What proof and disproof mean in an Unknown result of a search of a record. Definitions only. Rests on Meaning and Leaves, and on the game and the policy of a record (plain).
use Rattle.std.specs.Prelude.{◌≡◌, Bool, true, false, ℕ}
use mathlib.Core.List.{List, Memᴰ}
use Rattle.rules.specs.Rules.{Position}
use Rattle.rules.specs.Record.{position_of}
use Rattle.machine.specs.Game.{value}
use Rattle.machine.specs.Tree.{Children}
use Rattle.machine.specs.Machine.{Settings, Result, True, False, tree, ends}
use Rattle.plain.specs.Plain.{game_of, policy_of, record_value}
use Rattle.meaning.specs.Meaning.{Line, Settles, Meaning}
use Rattle.meaning.specs.Leaves.{position_after, LeavesNamed}

-- The machine's tree in its last state
unfoldable pub last_tree : ℕ → Settings → List ℕ → Children Position
last_tree rule S bytes = let p = position_of bytes in tree (ends (game_of rule p) (policy_of rule p.side S.stay) S p).0

-- The position at each leaf of a set has the value t, for the side to move in the record, whoever is to move there
abbrev pub TurnOut : (rule : ℕ) (bytes : List ℕ) → Bool → List Line → Type 0
TurnOut rule bytes t set = (l : Line) → Memᴰ l set → value (game_of rule (position_of bytes)) (position_after (game_of rule (position_of bytes)) (position_of bytes) l) ≡ t

pub record UnknownMeans (rule : ℕ) (S : Settings) (bytes : List ℕ) (r : Result) : Type 0 where
  -- Proof is the size of the smallest set of open leaves that, all taken as True and the rest left open, make the root True; disproof likewise with False. None has fewer
  pub numbers : Meaning (game_of rule (position_of bytes)) (last_tree rule S bytes) r.proof r.disproof
  -- The lines of the open leaves are legal move sequences from the record's position
  pub leaves : LeavesNamed (game_of rule (position_of bytes)) (last_tree rule S bytes) (position_of bytes)
  -- If the position at each leaf of such a set, smallest or not, turns out True, has that value, so has the record's; likewise False
  pub turns_out_true : (set : List Line) → Settles (game_of rule (position_of bytes)) True (last_tree rule S bytes) set → TurnOut rule bytes true set → record_value rule bytes ≡ true
  pub turns_out_false : (set : List Line) → Settles (game_of rule (position_of bytes)) False (last_tree rule S bytes) set → TurnOut rule bytes false set → record_value rule bytes ≡ false
