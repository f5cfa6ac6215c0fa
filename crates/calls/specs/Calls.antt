-- What each call answers and what it leaves in the lent bytes, as one function of what comes in. The checks stand in their order (MANUAL, Calls;
-- Turned back), and a refusal leaves every byte as it was. Rests on the rules, their record, the value of a record and check 16's count.
use Rattle.std.specs.Prelude.{cond, List, [], ◌∷◌, ◌++◌, ℕ, zero, suc, ltb, length, drop}
use Rattle.rules.specs.Rules.{Replayed, legal_moves, replay}
use Rattle.rules.specs.Rules.Replayed.{Reached, BadMove}
use Rattle.rules.specs.Record.{position_of, record_of, refusal}
use Rattle.rules.specs.Refusals.{refuses, first_refusal}
use Rattle.plain.specs.Plain.{record_value}
use Rattle.referee.specs.OpenCells.{open_cells}

-- The draw rules are 0, 1 and 2, for every call that has one; the referee takes at most nine empty cells in boards in play.
abbrev pub last_rule : ℕ
last_rule = 2

abbrev pub most_open : ℕ
most_open = 9

-- The answer of a call, from the number of the check that refuses it, or 0.
abbrev pub answer_unless : {A : Type 0} → ℕ → (ℕ → A) → A → A
answer_unless zero refused answer = answer
answer_unless (suc n) refused answer = refused (suc n)

-- Replay: 0 or the number of the refusal; the index of the bad move, 0 elsewhere; the output afterwards.
pub record ReplayOutcome : Type 0 where
  pub number : ℕ
  pub index : ℕ
  pub output : List ℕ

abbrev pub replay_outcome : ℕ → ℕ → List ℕ → ReplayOutcome
replay_outcome n i out = record { number = n; index = i; output = out }

-- Checks 11 to 15, and the record afterwards; output bytes past its 21 are untouched.
unfoldable pub after_moves : Replayed → List ℕ → ReplayOutcome
after_moves (Reached p) out = replay_outcome 0 0 (record_of p ++ drop 21 out)
after_moves (BadMove n i) out = replay_outcome n i out

-- Check 7 after those of the record: the output has not the bytes that are needed.
unfoldable pub output_refusal : (bytes : List ℕ) (room needed : ℕ) → ℕ
output_refusal bytes room needed = first_refusal (refusal bytes ∷ refuses 7 (ltb room needed) ∷ [])

unfoldable pub replay_call : (bytes moves out : List ℕ) → ReplayOutcome
replay_call bytes moves out = answer_unless (output_refusal bytes (length out) 21) (λ n. replay_outcome n 0 out) (after_moves (replay (position_of bytes) moves 0) out)

-- Legal moves: 0 or the number of the refusal; the index, 0 always; how many there are; the output afterwards, untouched past the last move.
pub record MovesOutcome : Type 0 where
  pub number : ℕ
  pub index : ℕ
  pub count : ℕ
  pub output : List ℕ

abbrev pub moves_outcome : ℕ → ℕ → ℕ → List ℕ → MovesOutcome
moves_outcome n i k out = record { number = n; index = i; count = k; output = out }

abbrev pub listed : List ℕ → List ℕ → MovesOutcome
listed moves out = moves_outcome 0 0 (length moves) (moves ++ drop (length moves) out)

unfoldable pub moves_call : (bytes out : List ℕ) → MovesOutcome
moves_call bytes out = answer_unless (output_refusal bytes (length out) 81) (λ n. moves_outcome n 0 0 out) (listed (legal_moves (position_of bytes)) out)

-- The number of a record's value under a rule: 1 True, 2 False.
abbrev pub value_number : (rule : ℕ) (bytes : List ℕ) → ℕ
value_number rule bytes = cond (record_value rule bytes) 1 2

-- Referee: 0 or the number of the refusal; the index, 0 always; the value for the side to move, 1 True, 2 False, and 0 with a refusal. Nothing is lent to be
-- written.
pub record RefereeOutcome : Type 0 where
  pub number : ℕ
  pub index : ℕ
  pub value : ℕ

abbrev pub referee_outcome : ℕ → ℕ → ℕ → RefereeOutcome
referee_outcome n i v = record { number = n; index = i; value = v }

-- Checks 10 and 16 after those of the record.
unfoldable pub referee_refusal : (bytes : List ℕ) (rule : ℕ) → ℕ
referee_refusal bytes rule = first_refusal (refusal bytes ∷ refuses 10 (ltb last_rule rule) ∷ refuses 16 (ltb most_open (open_cells (position_of bytes))) ∷ [])

unfoldable pub referee_call : (bytes : List ℕ) (rule : ℕ) → RefereeOutcome
referee_call bytes rule = answer_unless (referee_refusal bytes rule) (λ n. referee_outcome n 0 0) (referee_outcome 0 0 (value_number rule bytes))
