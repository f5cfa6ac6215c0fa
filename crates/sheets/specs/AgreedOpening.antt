-- What the call promises of two sheets and an output: one record, a clause for each thing that is asked of an agreed opening. That the part stands in the
-- first sheet's own place is said in the contract of `agreed_opening`, since no list has a place. Rests on Sheets.
use Rattle.std.specs.Prelude.{◌≡◌, List, [], ◌++◌, ◌⊎◌, ℕ, ◌≤◌, ◌<◌, length, drop}
use Rattle.rules.specs.Rules.{Position, replay}
use Rattle.rules.specs.Rules.Replayed.{Reached}
use Rattle.rules.specs.Record.{record_of}
use Rattle.calls.specs.Calls.{replay_outcome, replay_call}
use Rattle.sheets.specs.Sheets.{empty_game, SheetsOutcome, sheets_outcome}

-- A list begins with the moves ms.
abbrev pub Begins : (ms list : List ℕ) → Type 0
Begins ms list = (rest : List ℕ) × (list ≡ ms ++ rest)

-- Every move is legal, one after the other, from the empty game.
abbrev pub LegalFromEmpty : List ℕ → Type 0
LegalFromEmpty ms = (q : Position) × (replay empty_game ms 0 ≡ Reached q)

pub record AgreedOpening (first second out : List ℕ) (r : SheetsOutcome) : Type 0 where
  -- the part begins both sheets, and it is legal from the empty game
  pub begins_first : Begins r.part first
  pub begins_second : Begins r.part second
  pub legal : LegalFromEmpty r.part
  -- no other such beginning is longer
  pub longest : 21 ≤ length out → (ms : List ℕ) → Begins ms first → Begins ms second → LegalFromEmpty ms → length ms ≤ length r.part
  -- the record after the part is written to the first 21 bytes, and no other byte is: replay of the part from the empty game's record writes the same
  pub written : 21 ≤ length out → r.output ≡ record_of legal.0 ++ drop 21 out
  pub replayed : 21 ≤ length out → replay_call (record_of empty_game) r.part out ≡ replay_outcome 0 0 r.output
  -- a sheet without moves gives the empty part
  pub no_moves : (first ≡ []) ⊎ (second ≡ []) → r.part ≡ []
  -- the number is 0, or else the output is short: then it is 7, the part is empty and nothing is written
  pub answered : 21 ≤ length out → r.number ≡ 0
  pub short : length out < 21 → r ≡ sheets_outcome [] 7 out
