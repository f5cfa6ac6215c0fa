-- What a caller finds among entries: the entry that answers, and what storing one more changes. Rests on Entries and Buffers.
use Rattle.std.specs.Prelude.{◌≡◌, refl, Bool, false, cond, ◌||◌, List, [], ◌∷◌, ◌⊎◌, ℕ, ◌<◌}
use Rattle.std.proofs.Common.{◌∙◌, inl, inr, arith}
use Rattle.std.proofs.Math.Bool.{true}
use borrow.Author.Tests.{eqb-true, eq-eqb}
use Rattle.std.proofs.Math.Dec.{eqb}
use Rattle.rules.proofs.Tests.{both_true, one_true, same_equal, same_self}
use Rattle.entries.specs.Entries.{Entry, rule_bits, verdict_bits, may_read, same_bytes, has_verdict, holds_rule, holds_pair, answers, first_verdict, find, new_entry, storing}
use Rattle.entries.proofs.Buffers.{All}
use Rattle.entries.specs.declared.Caller.{Caller}
use Rattle.entries.specs.declared.Caller.TheVariants.{Arbiter}

-- a verdict: True or False
abbrev pub IsVerdict : ℕ → Type 0
IsVerdict v = (v ≡ 1) ⊎ (v ≡ 2)

verdict_some : (v : ℕ) → IsVerdict v → v ≡ 0 → ⊥
verdict_some v (inl p) z = omega arith
verdict_some v (inr p) z = omega arith

pub verdict_few : (v : ℕ) → IsVerdict v → v < 4
verdict_few v (inl p) = omega arith
verdict_few v (inr p) = omega arith

-- an entry that holds a pair has its record and rule, and a verdict
pub record EntryOfPair (bytes : List ℕ) (rule : ℕ) (e : Entry) : Type 0 where
  pub record_same : e.bytes ≡ bytes
  pub rule_same : rule_bits e.last ≡ rule
  pub verdict : IsVerdict (verdict_bits e.last)

pub entry_of_pair : (bytes : List ℕ) (rule : ℕ) (e : Entry) → holds_pair bytes rule e ≡ true → EntryOfPair bytes rule e
unfolding holds_pair holds_rule
entry_of_pair bytes rule e h =
    let p = both_true (same_bytes e.bytes bytes) _ h in
    let q = both_true (eqb (rule_bits e.last) rule) (has_verdict e.last) p.1 in
    record { record_same = same_equal e.bytes bytes p.0; rule_same = eqb-true (rule_bits e.last) rule q.0; verdict = go (one_true _ _ q.1) }
  where
    go : (eqb (verdict_bits e.last) 1 ≡ true) ⊎ (eqb (verdict_bits e.last) 2 ≡ true) → IsVerdict (verdict_bits e.last)
    go (inl p) = inl (eqb-true _ 1 p)
    go (inr p) = inr (eqb-true _ 2 p)

pub pair_has_verdict : (bytes : List ℕ) (rule : ℕ) (e : Entry) → holds_pair bytes rule e ≡ true → verdict_bits e.last ≡ 0 → ⊥
pair_has_verdict bytes rule e h = verdict_some (verdict_bits e.last) (entry_of_pair bytes rule e h).verdict

-- an entry that answers a caller holds the pair
answers_holds : (who : Caller) (bytes : List ℕ) (rule : ℕ) (e : Entry) → answers who bytes rule e ≡ true → holds_pair bytes rule e ≡ true
answers_holds who bytes rule e h = (both_true (may_read who e.last) (holds_pair bytes rule e) h).1

-- the first verdict, for any test
module _ (t : Entry → Bool) where
  -- the entry that it is of
  first_of : (P : Entry → Type 0) (es : List Entry) → All P es → (first_verdict t es ≡ 0 → ⊥) → (e : Entry) × (t e ≡ true) × (verdict_bits e.last ≡ first_verdict t es) × P e
  first_of P [] h n = absurd (n refl)
  first_of P (e ∷ es) h n = go (t e) refl n (first_of P es h.1)
    where
      go : (b : Bool) → t e ≡ b → (cond b (verdict_bits e.last) (first_verdict t es) ≡ 0 → ⊥)
          → ((first_verdict t es ≡ 0 → ⊥) → (e : Entry) × (t e ≡ true) × (verdict_bits e.last ≡ first_verdict t es) × P e)
          → (x : Entry) × (t x ≡ true) × (verdict_bits x.last ≡ cond b (verdict_bits e.last) (first_verdict t es)) × P x
      go true q n r = (e, q, refl, h.0)
      go false q n r = r n

  -- one entry more changes nothing if something is found
  first_still : ((e : Entry) → t e ≡ true → verdict_bits e.last ≡ 0 → ⊥) → (es : List Entry) (x : Entry) → (first_verdict t es ≡ 0 → ⊥) → first_verdict t (storing x es) ≡ first_verdict t es
  first_still p [] x n = absurd (n refl)
  first_still p (e ∷ es) x n = go (t e) n (first_still p es x)
    where
      go : (b : Bool) → (cond b (verdict_bits e.last) (first_verdict t es) ≡ 0 → ⊥) → ((first_verdict t es ≡ 0 → ⊥) → first_verdict t (storing x es) ≡ first_verdict t es)
          → cond b (verdict_bits e.last) (first_verdict t (storing x es)) ≡ cond b (verdict_bits e.last) (first_verdict t es)
      go true n r = refl
      go false n r = r n

  -- if nothing is found it is the one that is found
  first_new : ((e : Entry) → t e ≡ true → verdict_bits e.last ≡ 0 → ⊥) → (es : List Entry) (x : Entry) → t x ≡ true → first_verdict t es ≡ 0 → first_verdict t (storing x es) ≡ verdict_bits x.last
  first_new p [] x h z = rw h
  first_new p (e ∷ es) x h z = go (t e) refl z (first_new p es x h)
    where
      go : (b : Bool) → t e ≡ b → cond b (verdict_bits e.last) (first_verdict t es) ≡ 0 → (first_verdict t es ≡ 0 → first_verdict t (storing x es) ≡ verdict_bits x.last)
          → cond b (verdict_bits e.last) (first_verdict t (storing x es)) ≡ verdict_bits x.last
      go true q z r = absurd (p e q z)
      go false q z r = r z

-- what a new entry says
module _ (bytes : List ℕ) (rule v : ℕ) (h : v < 4) where
  pub new_rule : rule_bits (new_entry bytes rule v).last ≡ rule
  new_rule = omega arith

  pub new_verdict : verdict_bits (new_entry bytes rule v).last ≡ v
  new_verdict = omega arith

module _ (bytes : List ℕ) (rule : ℕ) where
  new_holds : (v : ℕ) → IsVerdict v → holds_pair bytes rule (new_entry bytes rule v) ≡ true
  unfolding holds_pair holds_rule
  new_holds v h = rw (same_self bytes, new_rule bytes rule v (verdict_few v h), new_verdict bytes rule v (verdict_few v h), eq-eqb rule rule refl) (go v h)
    where
      go : (v : ℕ) → IsVerdict v → (eqb v 1 || eqb v 2) ≡ true
      go v (inl p) = rw p
      go v (inr p) = rw p

  -- the entry that a verdict is found in
  pub find_of : (who : Caller) (P : Entry → Type 0) (es : List Entry) → All P es → (find who bytes rule es ≡ 0 → ⊥)
      → (e : Entry) × EntryOfPair bytes rule e × (verdict_bits e.last ≡ find who bytes rule es) × P e
  unfolding find
  find_of who P es h n =
      let f = first_of (answers who bytes rule) P es h n in
      (f.0, entry_of_pair bytes rule f.0 (answers_holds who bytes rule f.0 f.1), f.2, f.3)

  -- a pair that is held is found as before with one entry more
  pub find_still : (es : List Entry) (x : Entry) → (find Arbiter bytes rule es ≡ 0 → ⊥) → find Arbiter bytes rule (storing x es) ≡ find Arbiter bytes rule es
  unfolding find
  find_still es x n = first_still (holds_pair bytes rule) (pair_has_verdict bytes rule) es x n

  -- a pair that is not held is found with the verdict that is stored
  pub find_stored : (es : List Entry) (v : ℕ) → IsVerdict v → find Arbiter bytes rule es ≡ 0 → find Arbiter bytes rule (storing (new_entry bytes rule v) es) ≡ v
  unfolding find
  find_stored es v h z =
      first_new (holds_pair bytes rule) (pair_has_verdict bytes rule) es (new_entry bytes rule v) (new_holds v h) z ∙ new_verdict bytes rule v (verdict_few v h)
