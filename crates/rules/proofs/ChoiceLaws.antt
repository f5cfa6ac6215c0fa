-- Check 22 refuses exactly the choices that can't be, and no legal move leads to one. Rests on Choice, Record, Plays, Replays and Roundtrip.
use Rattle.std.specs.Prelude.{Bool, true, false, not, ◌&&◌, ◌≡◌, refl, List, [], ◌∷◌, ℕ, zero, suc, ◌<◌, length}
use Rattle.std.proofs.Common.{true≢false, ap, ◌∙◌, subst, suc-le-suc, arith}
use Rattle.std.proofs.Math.Path.{sym}
use borrow.Author.Tests.{eqb-true, eq-eqb, not-true}
use Rattle.std.proofs.Math.Dec.{eqb}
use Rattle.rules.specs.Rules.{Position, code, all, board_states, move_error, play, replay}
use Rattle.rules.specs.Rules.Replayed.{Reached}
use Rattle.rules.specs.Record.{position_of, refusal_to6, impossible_choice, refusal, Accepted}
use Rattle.rules.specs.Refusals.{refuses}
use Rattle.rules.proofs.RefusalLaws.{first_refuses, rest_refuses, last_refuses}
use Rattle.rules.proofs.Tests.{both_true, all_at, at_all}
use Rattle.rules.proofs.Boards.{length_states, code_states}
use Rattle.rules.proofs.Roundtrip.{load_whole}
use Rattle.rules.proofs.Plays.{length_played, possible_kept, keeps_accepted}
use Rattle.rules.proofs.Replays.{first_good, no_move}
use Rattle.rules.specs.Choice.{ChoiceThatCantBe}

-- a code that isn't 0, where not all are
some_taken : (cs : List ℕ) → all (eqb 0) cs ≡ false → (i : ℕ) × (i < length cs) × (code cs i ≡ 0 → ⊥)
some_taken [] e = absurd (true≢false e)
some_taken (zero ∷ cs) e = let r = some_taken cs e in (suc r.0, suc-le-suc r.1, r.2)
some_taken (suc c ∷ cs) e = (0, omega arith, λ q. omega (arith, q))

taken_some : (cs : List ℕ) (i : ℕ) → i < length cs → (code cs i ≡ 0 → ⊥) → all (eqb 0) cs ≡ false
taken_some cs i l n = go (all (eqb 0) cs) refl
  where
    go : (a : Bool) → all (eqb 0) cs ≡ a → a ≡ false
    go false q = refl
    go true q = absurd (n (sym (eqb-true 0 (code cs i) (all_at (eqb 0) cs i 3 q l))))

-- The test of check 22 is true exactly if the three conditions hold.
module _ (p : Position) (whole : length p.cells ≡ 81) where
  pub choice_test : impossible_choice p ≡ true → ChoiceThatCantBe p
  unfolding impossible_choice
  choice_test e =
      let a = both_true (all (eqb 0) (board_states p.cells) && eqb p.target 15) (not (all (eqb 0) p.cells)) e in
      let b = both_true (all (eqb 0) (board_states p.cells)) (eqb p.target 15) a.0 in
      let some = some_taken p.cells (not-true (all (eqb 0) p.cells) a.1) in
      record {
        taken = (some.0, omega (arith, some.1), some.2);
        none_done = λ k l. sym (code_states p.cells k l) ∙ sym (eqb-true 0 _ (all_at (eqb 0) (board_states p.cells) k 3 b.0 (rw (length_states p.cells) l)));
        free = eqb-true p.target 15 b.1;
      }

  pub test_choice : ChoiceThatCantBe p → impossible_choice p ≡ true
  unfolding impossible_choice
  test_choice h =
      let some = h.taken in
      rw (
        taken_some p.cells some.0 (omega (arith, some.1)) some.2,
        at_all (eqb 0) (board_states p.cells) 3 (λ k l. let j : k < 9 = omega (arith, length_states p.cells) in eq-eqb 0 _ (sym (code_states p.cells k j ∙ h.none_done k j))),
        eq-eqb p.target 15 h.free,
      )

-- an accepted position has no such choice, and no legal move leads to one
pub accepted_can_be : (p : Position) → Accepted p → ChoiceThatCantBe p → ⊥
accepted_can_be p a h = true≢false (sym (test_choice p a.whole h) ∙ a.possible)

pub no_move_leads : (p : Position) (m : ℕ) → length p.cells ≡ 81 → move_error p m ≡ 0 → ChoiceThatCantBe (play p m) → ⊥
no_move_leads p m n e h = true≢false (sym (test_choice (play p m) (length_played p m ∙ n) h) ∙ possible_kept p m e)

-- CHECK 22: what 1 to 6 refuse is refused by the same number; what they don't is refused by 22 if the three conditions hold, and otherwise not at all
module _ (bs : List ℕ) where
  pub to_6_first : (refusal_to6 bs ≡ 0 → ⊥) → refusal bs ≡ refusal_to6 bs
  unfolding refusal
  to_6_first n = first_refuses (refusal_to6 bs) _ n

  after_6 : refusal_to6 bs ≡ 0 → refusal bs ≡ refuses 22 (impossible_choice (position_of bs))
  unfolding refusal
  after_6 e = rest_refuses (refusal_to6 bs) _ e ∙ last_refuses _

  pub by_22 : refusal_to6 bs ≡ 0 → ChoiceThatCantBe (position_of bs) → refusal bs ≡ 22
  by_22 e h = after_6 e ∙ ap (refuses 22) (test_choice (position_of bs) (load_whole bs) h)

  pub others_pass : refusal_to6 bs ≡ 0 → (ChoiceThatCantBe (position_of bs) → ⊥) → refusal bs ≡ 0
  others_pass e n = after_6 e ∙ go (impossible_choice (position_of bs)) refl
    where
      go : (t : Bool) → impossible_choice (position_of bs) ≡ t → refuses 22 t ≡ 0
      go true q = absurd (n (choice_test (position_of bs) (load_whole bs) q))
      go false q = refl

-- Replay from an accepted position reaches accepted positions alone.
pub replay_accepted : (p : Position) (ms : List ℕ) (i : ℕ) (q : Position) → Accepted p → replay p ms i ≡ Reached q → Accepted q
replay_accepted p [] i q a e = let same : p ≡ q = cc (no_move p i, e) in subst Accepted same a
replay_accepted p (m ∷ ms) i q a e = let first = first_good p m ms i q e in replay_accepted (play p m) ms (suc i) q (keeps_accepted p m first.0 a) first.1
