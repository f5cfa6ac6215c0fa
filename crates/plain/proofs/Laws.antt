-- The laws that the machine asks of a game and of its policy, for every rule and root side; what an accepted position adds; and what N counts.
-- Rests on Plain and the laws of rules.
use Rattle.std.specs.Prelude.{◌≡◌, true, not, ◌↔◌, ℕ, zero, suc, ◌+◌, ◌≤◌, ◌<◌, length}
use Rattle.std.proofs.Math.Path.{refl}
use Rattle.std.proofs.Common.{ap, ◌∙◌, subst, arith}
use mathlib.Core.List.Memᴰ
use mathlib.Core.List.{List, [], ◌∷◌, foldr, Memᴰ}
use Rattle.rules.specs.Rules.{Player, Position, other, same, game_state, legal_moves, play, count, replay, Reached}
use Rattle.rules.specs.Rules.Player.{X, O}
use Rattle.rules.specs.Record.{Accepted}
use Rattle.rules.proofs.LegalMoves.{Ascending, ascending, in_legal, legal_in, finished_none, unfinished_some}
use Rattle.rules.proofs.Plays.{turn_passes, one_less, count_length}
use Rattle.rules.proofs.Replays.{no_move, good_move, first_good}
use Rattle.machine.specs.Game.{backward, sequences}
use Rattle.machine.specs.Tree.{Node, Children, size}
use Rattle.machine.specs.Machine.{Stay, Settings, choice, children, standard}
use Rattle.machine.specs.Value.{Distinct}
use Rattle.machine.proofs.Value.{Lawful}
use Rattle.machine.proofs.Place.{Sane}
use Rattle.machine.proofs.Standard.{standard_sane}
use Rattle.machine.proofs.Causes.{one_of_four}
use Rattle.machine.specs.Needs.{AsksNoLess, asking_for_moves}
use Rattle.machine.proofs.NeedsNoMore.{no_more_than_moves}
use Rattle.machine.proofs.Sequences.{Legal, Enumerates, sequences_list, sequences_count}
use Rattle.plain.specs.Plain.{game, game_of, policy_of, search_of, sequences_of}

ascending_distinct : (l : List ℕ) → Ascending l → Distinct l
ascending_distinct [] a = tt
ascending_distinct (m ∷ l) a = (λ i. let h : m < m = a.0 m i in omega arith, ascending_distinct l a.1)

same_itself : (s : Player) → same s s ≡ true
same_itself X = refl
same_itself O = refl

same_other : (s t : Player) → same s (other t) ≡ not (same s t)
same_other X X = refl
same_other X O = refl
same_other O X = refl
same_other O O = refl

pub lawful : (rule : ℕ) (root : Player) → Lawful (game rule root)
lawful rule root = record {
  falls = λ p m i. omega (arith, one_less p m (in_legal p m i));
  turns = λ p m i. ap (same root) (turn_passes p m) ∙ same_other root p.side;
  distinct = λ p. ascending_distinct (legal_moves p) (ascending p);
}

-- The choices of steps 2 and 3 with a setting: they are sane, the child that step 2 takes, how many nodes step 3 asks for, and that it asks for no more than one a legal move. Other crates use
-- these four alone.
module _ (rule : ℕ) (root : Player) (y : Stay) where
  pub policy_sane : Sane (game rule root) (policy_of rule root y)
  unfolding policy_of
  policy_sane = standard_sane (game rule root) (lawful rule root) y

  pub policy_takes : (n : Node Position) (ks : Children Position) → (policy_of rule root y).select n ks ≡ choice y n ks
  unfolding policy_of standard
  policy_takes n ks = refl

  pub policy_needs : (p : Position) → (policy_of rule root y).need p ≡ size (children (game rule root) p)
  unfolding policy_of standard
  policy_needs p = refl

  pub policy_asks_no_more : AsksNoLess (game rule root) (asking_for_moves (game rule root) y) (policy_of rule root y)
  unfolding policy_of
  policy_asks_no_more = no_more_than_moves (game rule root) (lawful rule root) y

-- At the root it is the root's side that is to move.
pub root_mine : (rule : ℕ) (p : Position) → (game_of rule p).mine p ≡ true
root_mine rule p = same_itself p.side

-- A result's cause is one of the four.
pub cause_most : (rule : ℕ) (S : Settings) (p : Position) → (search_of rule S p).cause ≤ 3
unfolding search_of
cause_most rule S p = one_of_four (game_of rule p) (policy_of rule p.side S.stay) S p

-- An accepted position: at most 81 moves are left, and it has no legal move exactly if it is finished.
module _ (p : Position) (a : Accepted p) where
  pub left_most : count 0 p.cells ≤ 81
  left_most = omega (arith, count_length 0 p.cells, a.whole)

  pub none_finished : (legal_moves p ≡ []) ↔ (game_state p ≡ 0 → ⊥)
  none_finished = (λ e g. let r = unfinished_some p a g in Memᴰ.not-nil (subst (Memᴰ r.0) e r.1), finished_none p)

-- What is worked out from moves and play alone is the same for every rule and root side; so is N.
backward_same : {A : Type 0} (f : Position → List A → A) (rule rule' : ℕ) (root root' : Player) (k : ℕ) (p : Position)
    → backward (game rule root) f k p ≡ backward (game rule' root') f k p
unfolding backward
backward_same f rule rule' root root' zero p = refl
backward_same f rule rule' root root' (suc k) p = simp (backward_same f rule rule' root root' k)

pub sequences_same : (rule : ℕ) (root : Player) (p : Position) → sequences (game rule root) p ≡ sequences_of p
unfolding sequences sequences_of
sequences_same rule root p = backward_same (λ q ns. suc (foldr ◌+◌ 0 ns)) rule 0 root p.side (count 0 p.cells) p

-- N is what it says: a list of just the legal move sequences, none twice, has that length, and there is one.
pub sequences_length : (rule : ℕ) (root : Player) (p : Position) (l : List (List ℕ)) → Enumerates (game rule root) p l → length l ≡ sequences_of p
sequences_length rule root p l e = sequences_count (game rule root) (lawful rule root) p l e ∙ sequences_same rule root p

pub sequences_listed : (rule : ℕ) (root : Player) (p : Position) → (l : List (List ℕ)) × Enumerates (game rule root) p l
sequences_listed rule root p = sequences_list (game rule root) (lawful rule root) p

-- The sequences that N counts are the lists of moves that replay makes.
pub legal_replay : (rule : ℕ) (root : Player) (p : Position) (ms : List ℕ) (i : ℕ) → Legal (game rule root) p ms → (q : Position) × (replay p ms i ≡ Reached q)
legal_replay rule root p [] i h = (p, no_move p i)
legal_replay rule root p (m ∷ ms) i h =
    let r = legal_replay rule root (play p m) ms (suc i) h.1 in
    (r.0, good_move p m ms i (in_legal p m h.0) ∙ r.1)

pub replay_legal : (rule : ℕ) (root : Player) (p : Position) (ms : List ℕ) (i : ℕ) (q : Position) → replay p ms i ≡ Reached q → Legal (game rule root) p ms
replay_legal rule root p [] i q e = tt
replay_legal rule root p (m ∷ ms) i q e =
    let f = first_good p m ms i q e in
    (legal_in p m f.0, replay_legal rule root (play p m) ms (suc i) q f.1)
