-- What setting a mark changes: nothing for an arbiter; every caller finds the pair then, and every other pair as before. Rests on Entries, Buffers,
-- Finding and Placing.
use Rattle.std.specs.Prelude.{◌≡◌, Bool, ℕ, suc, ◌/◌, ◌%◌, ◌≤◌, ◌<◌, eqb}
use Rattle.std.proofs.Math.Path.{refl}
use Rattle.std.proofs.Common.{sym, ap, ◌∙◌, arith}
use Rattle.std.proofs.Math.Bool.{true, false, cond, and-false}
use mathlib.Core.List.{List, [], ◌∷◌}
use borrow.Author.Tests.{ltb-true, ltb-false, eq-eqb}
use Rattle.std.proofs.Math.Dec.{ltb}
use Rattle.std.proofs.Math.ListN.{length}
use Rattle.entries.specs.Entries.{Entry, rule_bits, verdict_bits, may_read, holds_rule, holds_pair, answers, first_verdict, find, place, with_mark}
use Rattle.entries.proofs.Buffers.{All}
use Rattle.entries.proofs.Finding.{entry_of_pair, pair_has_verdict}
use Rattle.entries.proofs.Placing.{marked, mark_first, none_picked, none_found}
use Rattle.entries.specs.declared.Caller.{Caller}
use Rattle.entries.specs.declared.Caller.TheVariants.{Arbiter, Trainer}

-- the mark is the last bit, and no other
module _ (last : ℕ) where
  pub mark_rule : rule_bits (with_mark last) ≡ rule_bits last
  mark_rule = omega arith

  pub mark_verdict : verdict_bits (with_mark last) ≡ verdict_bits last
  mark_verdict = let q : with_mark last / 16 ≡ last / 16 = omega arith in ap (λ n. n % 4) q

  mark_is_1 : eqb (with_mark last % 2) 1 ≡ true
  mark_is_1 = eq-eqb (with_mark last % 2) 1 (omega arith)

  mark_read : (who : Caller) → may_read who (with_mark last) ≡ true
  mark_read Arbiter = refl
  mark_read Trainer = search mark_is_1

module _ (P : Entry → Type 0) (s : Entry → Bool) (f : (e : Entry) → P e → P (marked e)) where
  pub all_marked : (es : List Entry) → All P es → All P (mark_first s es)
  all_marked [] h = tt
  all_marked (e ∷ es) h = go (s e) (all_marked es h.1)
    where
      go : (b : Bool) → All P (mark_first s es) → All P (cond b (marked e ∷ es) (e ∷ mark_first s es))
      go true r = (f e h.0, h.1)
      go false r = (h.0, r)

-- a test that the mark doesn't change, where it is set, picks the same entry
module _ (t s : Entry → Bool) (f : (e : Entry) → s e ≡ true → t (marked e) ≡ t e) where
  pub place_marked : (es : List Entry) → place t (mark_first s es) ≡ place t es
  place_marked [] = refl
  place_marked (e ∷ es) = go (s e) refl (place_marked es)
    where
      go : (b : Bool) → s e ≡ b → place t (mark_first s es) ≡ place t es → place t (cond b (marked e ∷ es) (e ∷ mark_first s es)) ≡ cond (t e) 0 (suc (place t es))
      go true p r = rw (f e p)
      go false p r = rw r

  first_marked : (es : List Entry) → first_verdict t (mark_first s es) ≡ first_verdict t es
  first_marked [] = refl
  first_marked (e ∷ es) = go (s e) refl (first_marked es)
    where
      go : (b : Bool) → s e ≡ b → first_verdict t (mark_first s es) ≡ first_verdict t es
          → first_verdict t (cond b (marked e ∷ es) (e ∷ mark_first s es)) ≡ cond (t e) (verdict_bits e.last) (first_verdict t es)
      go true p r = rw (f e p, mark_verdict e.last)
      go false p r = rw r

-- a pair
module _ (bytes : List ℕ) (rule : ℕ) where
  pub marked_holds : (e : Entry) → holds_pair bytes rule (marked e) ≡ holds_pair bytes rule e
  unfolding holds_pair holds_rule
  marked_holds e = rw (mark_rule e.last, mark_verdict e.last)

  -- it is held exactly if an entry that holds it is among them
  pub held_place : (es : List Entry) → (find Arbiter bytes rule es ≡ 0 → ⊥) → place (holds_pair bytes rule) es < length es
  unfolding find
  held_place es n = go (ltb (place (holds_pair bytes rule) es) (length es)) refl
    where
      go : (b : Bool) → ltb (place (holds_pair bytes rule) es) (length es) ≡ b → place (holds_pair bytes rule) es < length es
      go true h = ltb-true _ _ h
      go false h = absurd (n (none_picked (holds_pair bytes rule) es (ltb-false _ _ h)))

  pub missing_place : (es : List Entry) → find Arbiter bytes rule es ≡ 0 → length es ≤ place (holds_pair bytes rule) es
  unfolding find
  missing_place es z = none_found (holds_pair bytes rule) (pair_has_verdict bytes rule) es z

  -- an arbiter finds what was found
  pub find_marked : (s : Entry → Bool) (es : List Entry) → find Arbiter bytes rule (mark_first s es) ≡ find Arbiter bytes rule es
  unfolding find
  find_marked s es = first_marked (holds_pair bytes rule) s (λ e h. marked_holds e) es

  -- with the mark in the first entry that holds the pair, every caller finds what an arbiter found
  pub published_found : (who : Caller) (es : List Entry) → find who bytes rule (mark_first (holds_pair bytes rule) es) ≡ find Arbiter bytes rule es
  unfolding find
  published_found who [] = refl
  published_found who (e ∷ es) = go (holds_pair bytes rule e) refl (published_found who es)
    where
      go : (b : Bool) → holds_pair bytes rule e ≡ b → first_verdict (answers who bytes rule) (mark_first (holds_pair bytes rule) es) ≡ first_verdict (holds_pair bytes rule) es
          → first_verdict (answers who bytes rule) (cond b (marked e ∷ es) (e ∷ mark_first (holds_pair bytes rule) es)) ≡ cond b (verdict_bits e.last) (first_verdict (holds_pair bytes rule) es)
      go true p r = rw (mark_read e.last who, marked_holds e, p) (mark_verdict e.last)
      go false p r = rw (p, and-false (may_read who e.last)) r

  -- another pair
  module _ (asked : List ℕ) (under : ℕ) (n : asked ≡ bytes → under ≡ rule → ⊥) where
    other_pair : (e : Entry) → holds_pair bytes rule e ≡ true → holds_pair asked under e ≡ false
    other_pair e h = go (holds_pair asked under e) refl
      where
        go : (b : Bool) → holds_pair asked under e ≡ b → b ≡ false
        go true k =
            let p = entry_of_pair bytes rule e h in
            let q = entry_of_pair asked under e k in
            absurd (n (sym q.record_same ∙ p.record_same) (sym q.rule_same ∙ p.rule_same))
        go false k = refl

    other_marked : (e : Entry) → holds_pair bytes rule e ≡ true → holds_pair asked under (marked e) ≡ false
    other_marked e h = other_pair (marked e) (marked_holds e ∙ h)

    pub others_found : (who : Caller) (es : List Entry) → find who asked under (mark_first (holds_pair bytes rule) es) ≡ find who asked under es
    unfolding find
    others_found who es = first_marked (answers who asked under) (holds_pair bytes rule) same es
      where
        same : (e : Entry) → holds_pair bytes rule e ≡ true → answers who asked under (marked e) ≡ answers who asked under e
        same e h = rw (other_marked e h, other_pair e h, and-false (may_read who (with_mark e.last)), and-false (may_read who e.last))
