-- Two searches of one record by the plain machine: the third condition's mathematics, from the machine's theorem for any game. It asks for pools within the
-- range, and holds of every record, accepted or not. Rests on Laws.
use Rattle.std.specs.Prelude.{◌≡◌, true, false, List, ◌↔◌, ℕ, suc, ◌≤◌, ◌<◌}
use Rattle.std.proofs.Math.Path.{ap}
use Rattle.std.proofs.Common.{◌∙◌}
use Rattle.rules.specs.Record.{position_of}
use Rattle.machine.specs.Machine.{Stay, Settings, True, False, Unknown, search}
use Rattle.machine.proofs.Runs.{NoLess}
use Rattle.machine.proofs.Reached.{PoolInRange}
use Rattle.machine.proofs.Third.{Answers, Third, third, solved_live}
use Rattle.plain.specs.Plain.{game_of, policy_of, value_of, search_of, record_value, record_sequences, plain_search}
use Rattle.plain.proofs.Laws.{lawful, policy_sane, root_mine, sequences_same}

-- One search: a True or False is the value; Unknown exactly when neither proof nor disproof is 0; with pool, limit and budget at least N it is never Unknown.
pub record Answered (rule : ℕ) (bytes : List ℕ) (S : Settings) : Type 0 where
  pub true_value : (plain_search rule S bytes).verdict ≡ True → record_value rule bytes ≡ true
  pub false_value : (plain_search rule S bytes).verdict ≡ False → record_value rule bytes ≡ false
  pub unknown : ((plain_search rule S bytes).verdict ≡ Unknown) ↔ ((0 < (plain_search rule S bytes).proof) × (0 < (plain_search rule S bytes).disproof))
  pub decided : record_sequences bytes ≤ S.pool → record_sequences bytes ≤ S.limit → record_sequences bytes ≤ S.budget → (plain_search rule S bytes).verdict ≡ Unknown → ⊥

-- Two: if the first answers, and the second has the same interval and setting of staying on a line, with no less pool, limit and budget, they are alike in every field.
pub record TwoSearches (rule : ℕ) (bytes : List ℕ) (S T : Settings) : Type 0 where
  pub first : Answered rule bytes S
  pub second : Answered rule bytes T
  pub alike : NoLess S T → T.stay ≡ S.stay → ((plain_search rule S bytes).verdict ≡ Unknown → ⊥) → plain_search rule T bytes ≡ plain_search rule S bytes

module _ (rule : ℕ) (bytes : List ℕ) where
  answered : (S : Settings) → Answers (game_of rule (position_of bytes)) (policy_of rule (position_of bytes).side S.stay) (position_of bytes) S → Answered rule bytes S
  unfolding search_of value_of
  answered S a = record {
    true_value = a.true_value;
    false_value = a.false_value;
    unknown = a.unknown;
    decided = rw (sequences_same rule (position_of bytes).side (position_of bytes)) at a.decided;
  }

  pub two_searches : (S T : Settings) → PoolInRange S → PoolInRange T → TwoSearches rule bytes S T
  unfolding search_of
  two_searches S T f g =
      let p = position_of bytes in
      let h : (y : Stay) → Third (game_of rule p) (policy_of rule p.side y) p S T =
      λ y. third (game_of rule p) (lawful rule p.side) (policy_of rule p.side y) (policy_sane rule p.side y) p (root_mine rule p) S T f g in
      record {
        first = answered S (h S.stay).first;
        second = answered T (h T.stay).second;
        alike = λ n e v. ap (λ (y : Stay). search (game_of rule p) (policy_of rule p.side y) T p) e ∙ (h S.stay).alike n v;
      }

  -- A solved search has live 1.
  pub live_one : (S : Settings) → PoolInRange S → ((plain_search rule S bytes).verdict ≡ Unknown → ⊥) → (plain_search rule S bytes).allocated ≡ suc (plain_search rule S bytes).freed
  unfolding search_of
  live_one S f v =
      let p = position_of bytes in
      solved_live (game_of rule p) (lawful rule p.side) (policy_of rule p.side S.stay) (policy_sane rule p.side S.stay) p (root_mine rule p) S f v
