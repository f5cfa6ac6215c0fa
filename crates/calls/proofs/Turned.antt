-- The calls by the check that decides: refused by a check, or answered. Rests on Calls and Refusing.
use Rattle.std.specs.Prelude.{◌≡◌, refl, Bool, cond, List, [], ◌∷◌, ◌++◌, ltb, length, drop}
use Rattle.std.proofs.Common.{sym, ◌∙◌, arith, le-ltb, lt-ltb}
use Prim.Native.Nat.{ℕ, zero, suc, ◌≤◌, ◌<◌}
use Rattle.rules.specs.Rules.{Position, Replayed, replay, legal_moves}
use Rattle.rules.specs.Rules.Replayed.{Reached, BadMove}
use Rattle.rules.specs.Record.{position_of, record_of, refusal}
use Rattle.rules.specs.Refusals.{refuses, first_refusal}
use Rattle.rules.proofs.RefusalLaws.{none_refuses, first_refuses, rest_refuses}
use Rattle.plain.specs.Plain.{record_value}
use Rattle.referee.specs.OpenCells.{open_cells}
use Rattle.calls.specs.Calls.{last_rule, most_open, answer_unless, output_refusal, replay_outcome, after_moves, replay_call, moves_outcome, listed, moves_call}
use Rattle.calls.specs.Calls.{RefereeOutcome, referee_outcome, referee_refusal, referee_call}
use Rattle.calls.proofs.Refusing.{passes_test, refused_by, passed_all}

-- the record's checks, and 7 after them
module _ (bytes : List ℕ) (room needed : ℕ) where
  pub output_record : (n : ℕ) → n ≡ refusal bytes → (n ≡ 0 → ⊥) → n ≡ output_refusal bytes room needed
  unfolding output_refusal
  output_record n e z = rw (← e) (sym (first_refuses n _ z))

  pub output_short : refusal bytes ≡ 0 → room < needed → 7 ≡ output_refusal bytes room needed
  unfolding output_refusal first_refusal
  output_short e h = rw (e, lt-ltb room needed h)

  pub output_long : refusal bytes ≡ 0 → needed ≤ room → 0 ≡ output_refusal bytes room needed
  unfolding output_refusal first_refusal
  output_long e h = rw (e, le-ltb room needed h)

-- what passing them tells
pub output_passes : (bytes : List ℕ) (room needed : ℕ) → output_refusal bytes room needed ≡ 0 → (refusal bytes ≡ 0) × (needed ≤ room)
unfolding output_refusal
output_passes bytes room needed e = let a = none_refuses _ _ e in (a.0, (passes_test 6 room needed _ a.1).0)

module _ (bytes moves out : List ℕ) where
  pub replay_refused : (n : ℕ) → n ≡ output_refusal bytes (length out) 21 → (n ≡ 0 → ⊥) → replay_outcome n 0 out ≡ replay_call bytes moves out
  unfolding replay_call
  replay_refused n e z = refused_by (λ k. replay_outcome k 0 out) _ n _ e z

  pub replay_answered : output_refusal bytes (length out) 21 ≡ 0 → after_moves (replay (position_of bytes) moves 0) out ≡ replay_call bytes moves out
  unfolding replay_call
  replay_answered e = passed_all (λ k. replay_outcome k 0 out) _ _ e

module _ (bytes out : List ℕ) where
  pub moves_refused : (n : ℕ) → n ≡ output_refusal bytes (length out) 81 → (n ≡ 0 → ⊥) → moves_outcome n 0 0 out ≡ moves_call bytes out
  unfolding moves_call
  moves_refused n e z = refused_by (λ k. moves_outcome k 0 0 out) _ n _ e z

  pub moves_answered : output_refusal bytes (length out) 81 ≡ 0 → listed (legal_moves (position_of bytes)) out ≡ moves_call bytes out
  unfolding moves_call
  moves_answered e = passed_all (λ k. moves_outcome k 0 0 out) _ _ e

module _ (bytes : List ℕ) (rule : ℕ) where
  -- the record's checks, and the two that come after them
  pub referee_record : (n : ℕ) → n ≡ refusal bytes → (n ≡ 0 → ⊥) → n ≡ referee_refusal bytes rule
  unfolding referee_refusal
  referee_record n e z = rw (← e) (sym (first_refuses n _ z))

  pub referee_late : refusal bytes ≡ 0 → (n r : ℕ) → n ≡ open_cells (position_of bytes)
      → r ≡ first_refusal (refuses 10 (ltb last_rule rule) ∷ refuses 16 (ltb most_open n) ∷ []) → r ≡ referee_refusal bytes rule
  unfolding referee_refusal
  referee_late loaded n r eo er = er ∙ rw eo (sym (rest_refuses (refusal bytes) _ loaded))

  pub referee_refused : (n : ℕ) → n ≡ referee_refusal bytes rule → (n ≡ 0 → ⊥) → referee_outcome n 0 0 ≡ referee_call bytes rule
  unfolding referee_call
  referee_refused n e z = refused_by (λ k. referee_outcome k 0 0) _ n _ e z

  pub referee_answered : referee_refusal bytes rule ≡ 0 → (v : Bool) → v ≡ record_value rule bytes → referee_outcome 0 0 (cond v 1 2) ≡ referee_call bytes rule
  unfolding referee_call
  referee_answered e v q = rw (e, q)

  -- and back: an answer is the value
  pub referee_value : (referee_call bytes rule).number ≡ 0 → (referee_call bytes rule).value ≡ cond (record_value rule bytes) 1 2
  unfolding referee_call
  referee_value e = go (referee_refusal bytes rule) e
    where
      answer : ℕ → RefereeOutcome
      answer k = answer_unless k (λ n. referee_outcome n 0 0) (referee_outcome 0 0 (cond (record_value rule bytes) 1 2))

      go : (k : ℕ) → (answer k).number ≡ 0 → (answer k).value ≡ cond (record_value rule bytes) 1 2
      go zero h = refl
      go (suc k) h = absurd (omega arith)

-- what the moves come to
pub after_reached : (x : Replayed) (p : Position) (out out' : List ℕ) → x ≡ Reached p → out' ≡ record_of p ++ drop 21 out → replay_outcome 0 0 out' ≡ after_moves x out
unfolding after_moves
after_reached x p out out' e q = rw (e, q)

pub after_bad : (x : Replayed) (n i : ℕ) (out : List ℕ) → x ≡ BadMove n i → replay_outcome n i out ≡ after_moves x out
unfolding after_moves
after_bad x n i out e = rw e
