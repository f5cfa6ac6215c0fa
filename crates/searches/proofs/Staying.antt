-- Staying on a line is as promised. Rests on StayStatement and on the laws of the setting, the machine, the packed word and two searches.
use Rattle.std.specs.Prelude.{◌≡◌, Bool, true, false, not, List, [], ◌∷◌, ℕ, zero, suc, ltb}
use Rattle.std.proofs.Math.Path.{refl}
use Rattle.std.proofs.Common.{ap, sym, ◌∙◌, true≢false, arith}
use Rattle.rules.specs.Rules.{Player, Position}
use Rattle.rules.specs.Record.{refusal}
use Rattle.rules.proofs.Legal.{legal}
use Rattle.rules.proofs.LegalMoves.{in_legal}
use Rattle.rules.specs.Refusals.{refuses, first_refusal}
use Rattle.rules.proofs.RefusalLaws.{last_check, others_first, passes_last}
use Rattle.machine.specs.Tree.{Node, Children, none, child, append, leaf}
use Rattle.machine.specs.Machine.{Counts, Ancestor, off, margin, first_with, holds_at, within_margin, choice, remember, into, down, opened, renumber}
use Rattle.machine.proofs.Standard.{within_both, choice_by}
use Rattle.plain.specs.Plain.{policy_of}
use Rattle.plain.proofs.Laws.{policy_takes}
use Rattle.words.specs.Packed.{packed}
use Rattle.words.proofs.Packed.{packed_read}
use Rattle.calls.specs.Calls.{last_rule}
use Rattle.stay.specs.Margin.{stay_in_range}
use Rattle.stay.proofs.Steps.{margin_at, at_margin}
use Rattle.stay.proofs.Exact.{exact, exact_product, one_more}
use Rattle.searches.specs.Searches.{Limits, pool_least, pool_most, interval_least, interval_most, budget_most, search_refusal}
use Rattle.searches.proofs.TwoSearches.{third_condition}
use Rattle.searches.specs.StayStatement.{StayStatement, without_stay, named}

-- step 2, by the test of the child that the remembered move names
by_test : (rule : ℕ) (root : Player) (k : ℕ) (n : Node Position) (ks : Children Position) (b : Bool) → holds_at (within_margin k n.phi) ks (named n ks) ≡ b
    → (policy_of rule root (margin k)).select n ks ≡ elim b [ true ↦ named n ks | false ↦ first_with n.phi ks ]
by_test rule root k n ks b e = policy_takes rule root (margin k) n ks ∙ choice_by k n ks b e

listed : (rule : ℕ) (root : Player) (n : Node Position) (ks : Children Position) → (policy_of rule root off).select n ks ≡ first_with n.phi ks
unfolding choice
listed rule root n ks = policy_takes rule root off n ks

-- the node that step 2 leaves remembers the move of the child that it comes to
into_remembers : (c : Counts) (up : List (Ancestor Position)) (n : Node Position) (a ks : Children Position) (i : ℕ) → holds_at (λ m. true) ks i ≡ true → let t = into c up n a ks i in
    (b : Ancestor Position) × (t.above ≡ b ∷ up) × (b.node ≡ remember n t.node.move)
unfolding into holds_at
into_remembers c up n a none i o = absurd (true≢false (sym o))
into_remembers c up n a (child m b ks) zero o = (record { node = remember n m.move; before = a; after = ks }, refl, refl)
into_remembers c up n a (child m b ks) (suc i) o = into_remembers c up n (append a (child m b none)) ks i o

-- search's checks before 21
module _ (bytes : List ℕ) (capacity rule : ℕ) (L : Limits) where
  abbrev others : List ℕ
  others =
      refusal bytes
      ∷ refuses 8 (ltb capacity pool_least)
      ∷ refuses 9 (ltb pool_most capacity)
      ∷ refuses 10 (ltb last_rule rule)
      ∷ refuses 10 (ltb L.interval interval_least)
      ∷ refuses 10 (ltb interval_most L.interval)
      ∷ refuses 10 (ltb budget_most L.budget)
      ∷ []

  without : search_refusal bytes capacity rule (without_stay L) ≡ first_refusal others
  unfolding search_refusal
  without = passes_last others

  check_21 : search_refusal bytes capacity rule (without_stay L) ≡ 0 → stay_in_range L.stay ≡ false → search_refusal bytes capacity rule L ≡ 21
  unfolding search_refusal
  check_21 e b = rw b (last_check others 21 (sym without ∙ e))

  check_earlier : (n : ℕ) → search_refusal bytes capacity rule (without_stay L) ≡ suc n → search_refusal bytes capacity rule L ≡ suc n
  unfolding search_refusal
  check_earlier n e = others_first others (refuses 21 (not (stay_in_range L.stay))) n (sym without ∙ e)

  check_passes : stay_in_range L.stay ≡ true → search_refusal bytes capacity rule L ≡ search_refusal bytes capacity rule (without_stay L)
  unfolding search_refusal
  check_passes b = rw b refl

-- THEOREM
pub staying : StayStatement
unfolding down leaf opened renumber packed
staying = record {
  setting_off = (refl, refl);
  setting = λ x. (λ e. let h = margin_at x e in (_, h.0, h.1), λ h. (at_margin x h.0 h.1 h.2).0);
  setting_is = λ x k l h. ap margin (at_margin x k l h).1;
  as_before = listed;
  within = within_both;
  again = λ rule root k n ks e. by_test rule root k n ks true e;
  otherwise = λ rule root k n ks e. by_test rule root k n ks false e ∙ sym (listed rule root n ks);
  product = λ x e phi l. let h = margin_at x e in exact_product phi _ _ l h.0 (one_more x _ h.0 h.1);
  exact = λ x e phi delta l m. let h = margin_at x e in exact phi delta _ _ l h.0 (omega arith) (one_more x _ h.0 h.1);
  none_yet = λ rule root p m. refl;
  kept = λ rule root n ks. (refl, refl);
  not_a_move = λ p m i e. let h = (legal p m (in_legal p m i)).board_in in omega (arith, e);
  remembers = λ rule root y s o. into_remembers s.counts s.above s.node none s.below _ o;
  bits = λ K n b. let h = packed_read K n b in (h.move_is, h.remembered_is, omega arith);
  third = third_condition;
  check = check_21;
  earlier = check_earlier;
  in_range = check_passes;
}
