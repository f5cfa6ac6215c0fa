-- The calls by the check that decides, as the code goes through them. Rests on Book and Passing.
use Rattle.std.specs.Prelude.{◌≡◌, refl, Bool, true, List, [], ◌∷◌, false, Some, ℕ, zero, suc, ◌+◌, ◌*◌, ◌/◌, ◌%◌, ◌≤◌, ◌<◌, ltb, length}
use Rattle.std.proofs.Common.{sym, subst, ◌∙◌, arith, add-one}
use borrow.Author.Tests.{ne_eqb, le-leb, lt-leb, le-ltb, lt-ltb}
use Rattle.rules.specs.Record.{position_of, refusal}
use Rattle.rules.proofs.Checks.{loads_length}
use Rattle.rules.specs.Refusals.{refuses, first_refusal}
use Rattle.rules.proofs.RefusalLaws.{first_refuses, rest_refuses, last_refuses}
use Rattle.game.specs.Words.{Holds}
use Rattle.machine.specs.Machine.{Verdict, True, False, Unknown}
use Rattle.prove.specs.Numbers.{verdict_number}
use Rattle.calls.specs.Calls.{last_rule}
use Rattle.calls.proofs.Refusing.{refused_by}
use Rattle.searches.specs.Searches.{Limits, nodes, search_refusal}
use Rattle.searches.specs.Accepting.{Passed}
use Rattle.entries.specs.Entries.{is_trainer, found_number, with_entries, holds_pair, find, place, new_entry, storing, marking}
use Rattle.entries.specs.declared.Caller.{Caller}
use Rattle.entries.specs.declared.Caller.TheVariants.{Arbiter}
use Rattle.book.specs.Book.{Book, book_of, BookOutcome, book_outcome, size, used, broken, refused}
use Rattle.book.specs.Book.{unsearched, searching, lookup_refusal, lookup_call, add_refusal, searched_verdict, after_search, add_call, PoolAfterAdd, publish_refusal, publish_call}
use Rattle.book.proofs.Passing.{Fits, lookup_passed, AddPassed, add_passed, publish_passed}

-- check 17
module _ (bytes : List ℕ) (count : ℕ) where
  pub bytes_over : (length bytes % 22 ≡ 0 → ⊥) → true ≡ broken (book_of bytes count)
  bytes_over n = rw (ne_eqb (length bytes % 22) 0 n)

  pub whole_entries : length bytes % 22 ≡ 0 → ltb (length bytes / 22) count ≡ broken (book_of bytes count)
  whole_entries e = rw e

-- what the scan asks for
abbrev ToFind : (bytes : List ℕ) → Book → Type 0
ToFind bytes B = (length bytes ≡ 21) × (B.count * 22 ≤ length B.bytes)

to_find : (bytes : List ℕ) (B : Book) → refusal bytes ≡ 0 → Fits B → ToFind bytes B
to_find bytes B e f = (loads_length bytes e, omega (arith, f.within))

-- a lookup
module _ (bytes : List ℕ) (rule : ℕ) (B : Book) where
  -- the record's checks, and the two after them
  pub lookup_by_record : (n : ℕ) → n ≡ refusal bytes → (n ≡ 0 → ⊥) → n ≡ lookup_refusal bytes rule B
  unfolding lookup_refusal
  lookup_by_record n e z = rw (← e) (sym (first_refuses n _ z))

  pub lookup_late : refusal bytes ≡ 0 → (n : ℕ) (b : Bool) → b ≡ broken B → n ≡ first_refusal (refuses 10 (ltb last_rule rule) ∷ refuses 17 b ∷ []) → n ≡ lookup_refusal bytes rule B
  unfolding lookup_refusal
  lookup_late loaded n b eb e = e ∙ rw eb (sym (rest_refuses (refusal bytes) _ loaded))

  pub lookup_turned : (who : Caller) {n : ℕ} → n ≡ lookup_refusal bytes rule B → (n ≡ 0 → ⊥) → refused B n ≡ lookup_call who bytes rule B
  unfolding lookup_call
  lookup_turned who e z = refused_by (refused B) _ _ _ e z

  pub lookup_scans : {n : ℕ} → n ≡ lookup_refusal bytes rule B → n ≡ 0 → ToFind bytes B
  lookup_scans e z = let p = lookup_passed bytes rule B (sym e ∙ z) in to_find bytes B p.loaded p.book_fits

  pub lookup_found : (who : Caller) {n v : ℕ} → n ≡ lookup_refusal bytes rule B → n ≡ 0 → v ≡ find who bytes rule (used B) → unsearched B v ≡ lookup_call who bytes rule B
  unfolding lookup_call
  lookup_found who e z f = rw (← e, z, f)

-- a search and what it stores
pub number_few : (v : Verdict) → verdict_number v < 4
number_few True = omega arith
number_few False = omega arith
number_few Unknown = omega arith

module _ (B : Book) (bytes : List ℕ) (rule : ℕ) where
  pub none_stored : {v n : ℕ} → v ≡ n → v ≡ 0 → searching B v ≡ after_search B bytes rule n
  none_stored e z = rw (← e, z)

  pub one_stored : {n : ℕ} (v : ℕ) → v ≡ n → (v ≡ 0 → ⊥) → {after : List ℕ} → after ≡ with_entries (storing (new_entry bytes rule v) (used B)) B.bytes
      → searching (book_of after (B.count + 1)) v ≡ after_search B bytes rule n
  one_stored zero e z w = absurd (z refl)
  one_stored (suc v) e z w = rw (← e, w, add-one)

-- a verdict that is found has a number
pub found_some : (v : Bool) → found_number (Some v) ≡ 0 → ⊥
found_some true e = omega arith
found_some false e = omega arith

-- an add
module _ (who : Caller) (bytes : List ℕ) (capacity rule : ℕ) (L : Limits) (B : Book) where
  pub add_by_caller : (n : ℕ) → n ≡ refuses 19 (is_trainer who) → (n ≡ 0 → ⊥) → n ≡ add_refusal who bytes capacity rule L B
  unfolding add_refusal
  add_by_caller n e z = rw (← e) (sym (first_refuses n _ z))

  module _ (w : refuses 19 (is_trainer who) ≡ 0) where
    pub add_by_search : (n : ℕ) → n ≡ search_refusal bytes capacity rule L → (n ≡ 0 → ⊥) → n ≡ add_refusal who bytes capacity rule L B
    unfolding add_refusal
    add_by_search n e z = rw (← e) (sym (first_refuses n _ z) ∙ sym (rest_refuses _ _ w))

    pub add_by_book : search_refusal bytes capacity rule L ≡ 0 → (n : ℕ) → n ≡ refuses 17 (broken B) → n ≡ add_refusal who bytes capacity rule L B
    unfolding add_refusal
    add_by_book a n e = rw (← e) (sym (last_refuses n) ∙ sym (rest_refuses _ _ a) ∙ sym (rest_refuses _ _ w))

module _ (who : Caller) (bytes : List ℕ) (words rule : ℕ) (L : Limits) (B : Book) {n capacity : ℕ} (a : n ≡ add_refusal who bytes capacity rule L B) (q : capacity ≡ nodes words) where
  its_code : n ≡ add_refusal who bytes (nodes words) rule L B
  its_code = rw (← q) a

  pub add_turned : (n ≡ 0 → ⊥) → refused B n ≡ add_call who bytes words rule L B
  unfolding add_call
  add_turned z = refused_by (refused B) _ _ _ its_code z

  module _ (z : n ≡ 0) where
    passed : AddPassed bytes words rule L B
    passed = add_passed who bytes words rule L B (sym its_code ∙ z)

    pub add_scans : ToFind bytes B
    add_scans = to_find bytes B passed.accepted.loads passed.book_fits

    pub add_accepted : {g : List ℕ} → Holds (position_of bytes) g 0 → Passed bytes g words rule L
    add_accepted h = record { holds = h; none = passed.none }

    module _ {v : ℕ} (f : v ≡ find Arbiter bytes rule (used B)) where
      pub add_held : (v ≡ 0 → ⊥) → unsearched B v ≡ add_call who bytes words rule L B
      unfolding add_call
      add_held y = rw (← its_code, z) (refused_by (unsearched B) _ v _ f y)

      module _ (y : v ≡ 0) where
        pub add_full : size B ≤ B.count → refused B 18 ≡ add_call who bytes words rule L B
        unfolding add_call
        add_full l = rw (← its_code, z, ← f, y, le-leb (size B) B.count l)

        pub add_searched : B.count < size B → {o : BookOutcome} → o ≡ after_search B bytes rule (searched_verdict bytes words rule L) → o ≡ add_call who bytes words rule L B
        unfolding add_call
        add_searched l s = rw (← its_code, z, ← f, y, lt-leb (size B) B.count l) s

-- a publish
module _ (who : Caller) (bytes : List ℕ) (rule : ℕ) (B : Book) where
  pub publish_by_caller : (n : ℕ) → n ≡ refuses 19 (is_trainer who) → (n ≡ 0 → ⊥) → n ≡ publish_refusal who bytes rule B
  unfolding publish_refusal
  publish_by_caller n e z = rw (← e) (sym (first_refuses n _ z))

  pub publish_late : refuses 19 (is_trainer who) ≡ 0 → (n : ℕ) → n ≡ lookup_refusal bytes rule B → n ≡ publish_refusal who bytes rule B
  unfolding publish_refusal
  publish_late w n e = rw (← e) (sym (last_refuses n) ∙ sym (rest_refuses _ _ w))

  module _ {n : ℕ} (e : n ≡ publish_refusal who bytes rule B) where
    pub publish_turned : (n ≡ 0 → ⊥) → refused B n ≡ publish_call who bytes rule B
    unfolding publish_call
    publish_turned z = refused_by (refused B) _ _ _ e z

    module _ (z : n ≡ 0) where
      pub publish_scans : ToFind bytes B
      publish_scans = let p = publish_passed who bytes rule B (sym e ∙ z) in to_find bytes B p.loaded p.book_fits

      module _ {i : ℕ} (f : i ≡ place (holds_pair bytes rule) (used B)) where
        pub publish_missing : i ≡ B.count → unsearched B 0 ≡ publish_call who bytes rule B
        unfolding publish_call
        publish_missing l = rw (← e, z, le-ltb (place (holds_pair bytes rule) (used B)) B.count (omega arith))

        pub publish_marks : i < B.count → {at : ℕ} → at ≡ i * 22 → {after : List ℕ} → after ≡ marking at B.bytes → unsearched (book_of after B.count) 1 ≡ publish_call who bytes rule B
        unfolding publish_call
        publish_marks l q w = rw (← e, z, lt-ltb (place (holds_pair bytes rule) (used B)) B.count (omega arith), w, q, f)

-- an outcome whose numbers and book are known is the outcome; and the pool after it
module _ {x o : BookOutcome} (e : x ≡ o) where
  pub by_numbers : book_outcome x.number x.index x.answer o.searched x.left ≡ o
  by_numbers = subst (λ (y : BookOutcome). book_outcome x.number x.index x.answer y.searched x.left ≡ y) e refl

  pub pool_after : (before after : List ℕ) → PoolAfterAdd x.searched before after → PoolAfterAdd o.searched before after
  pool_after before after p = subst (λ (y : BookOutcome). PoolAfterAdd y.searched before after) e p
