-- What a call that passes its checks has passed, and what storing and marking make of a book that passes check 17. Rests on Book and on the laws of the entries and of
-- checks.
use Rattle.std.specs.Prelude.{◌≡◌, false, not, List, [], ◌∷◌, ℕ, suc, ◌+◌, ◌*◌, ◌%◌, ◌≤◌, ◌<◌, eqb, ltb, drop, get_or}
use Rattle.std.proofs.Common.{sym, ◌∙◌, arith, length-set}
use Rattle.std.proofs.Math.Path.{ap}
use borrow.Author.Tests.{eqb-true, ltb-false, le-ltb, not-false}
use Rattle.std.proofs.Math.ListN.{length, length-append}
use Rattle.rules.specs.Record.{refusal}
use Rattle.rules.specs.Refusals.{first_refusal}
use Rattle.rules.proofs.RefusalLaws.{none_refuses, passes_check}
use Rattle.rules.proofs.Tests.{both_false}
use Rattle.calls.specs.Calls.{last_rule}
use Rattle.calls.proofs.Refusing.{passes_test}
use Rattle.searches.specs.Searches.{Limits, nodes, search_refusal}
use Rattle.searches.specs.Accepting.{Accepts}
use Rattle.searches.proofs.Accepting.{accepts}
use Rattle.entries.specs.Entries.{Entry, entries, with_entries, find, new_entry, storing, with_mark, marking}
use Rattle.entries.specs.declared.Caller.{Caller}
use Rattle.entries.proofs.Buffers.{All, Whole, all_storing, read_back, length_with_entries, length_entries, entries_whole}
use Rattle.book.specs.Book.{Book, book_of, size, used, broken, unsearched, lookup_refusal, lookup_call, add_refusal, stored_in, publish_refusal}

-- check 17 is passed
pub record Fits (B : Book) : Type 0 where
  pub whole : length B.bytes % 22 ≡ 0
  pub within : B.count ≤ size B

pub fits : (B : Book) → broken B ≡ false → Fits B
fits B h =
    let p = both_false (not (eqb (length B.bytes % 22) 0)) (ltb (size B) B.count) h in
    record { whole = eqb-true _ 0 (not-false _ p.0); within = ltb-false (size B) B.count p.1 }

pub fits_unbroken : (B : Book) → Fits B → broken B ≡ false
fits_unbroken B f = rw (f.whole, le-ltb (size B) B.count f.within)

-- a lookup that passes, an add and a publish
pub record LookupPassed (bytes : List ℕ) (rule : ℕ) (B : Book) : Type 0 where
  pub loaded : refusal bytes ≡ 0
  pub rule_most : rule ≤ last_rule
  pub book_fits : Fits B

module _ (bytes : List ℕ) (rule : ℕ) (B : Book) where
  pub lookup_passed : lookup_refusal bytes rule B ≡ 0 → LookupPassed bytes rule B
  unfolding lookup_refusal
  lookup_passed e =
      let r = none_refuses _ _ e in
      let m = passes_test 9 last_rule rule _ r.1 in
      record { loaded = r.0; rule_most = m.0; book_fits = fits B (passes_check 16 (broken B) (none_refuses _ _ m.1).0) }

  pub passes_lookup : LookupPassed bytes rule B → lookup_refusal bytes rule B ≡ 0
  unfolding lookup_refusal first_refusal
  passes_lookup p = rw (p.loaded, le-ltb last_rule rule p.rule_most, fits_unbroken B p.book_fits)

-- a lookup that passes its checks
pub looked_up : (who : Caller) (bytes : List ℕ) (rule : ℕ) (B : Book) → LookupPassed bytes rule B → lookup_call who bytes rule B ≡ unsearched B (find who bytes rule (used B))
unfolding lookup_call
looked_up who bytes rule B p = rw (passes_lookup bytes rule B p)

pub record AddPassed (bytes : List ℕ) (words rule : ℕ) (L : Limits) (B : Book) : Type 0 where
  pub none : search_refusal bytes (nodes words) rule L ≡ 0
  pub accepted : Accepts bytes words rule L
  pub book_fits : Fits B

pub add_passed : (who : Caller) (bytes : List ℕ) (words rule : ℕ) (L : Limits) (B : Book) → add_refusal who bytes (nodes words) rule L B ≡ 0 → AddPassed bytes words rule L B
unfolding add_refusal
add_passed who bytes words rule L B e =
    let s = none_refuses _ _ (none_refuses _ _ e).1 in
    record { none = s.0; accepted = accepts bytes words rule L s.0; book_fits = fits B (passes_check 16 (broken B) (none_refuses _ _ s.1).0) }

pub publish_passed : (who : Caller) (bytes : List ℕ) (rule : ℕ) (B : Book) → publish_refusal who bytes rule B ≡ 0 → LookupPassed bytes rule B
unfolding publish_refusal
publish_passed who bytes rule B e = lookup_passed bytes rule B (none_refuses _ _ (none_refuses _ _ e).1).0

-- a verdict stored in a book that fits and isn't full: its used entries, and it fits still
module _ (B : Book) (f : Fits B) (bytes : List ℕ) (rule v : ℕ) (w : length bytes ≡ 21) where
  new_entries : List Entry
  new_entries = storing (new_entry bytes rule (suc v)) (used B)

  new_whole : All Whole new_entries
  unfolding new_entries
  new_whole = all_storing Whole (used B) (new_entry bytes rule (suc v)) (entries_whole B.count B.bytes (omega (arith, f.within))) w

  new_count : length new_entries ≡ suc B.count
  unfolding new_entries
  new_count = omega (arith, length-append (used B) (new_entry bytes rule (suc v) ∷ []), length_entries B.count B.bytes)

  pub used_stored : used (stored_in B bytes rule (suc v)) ≡ storing (new_entry bytes rule (suc v)) (used B)
  unfolding new_entries
  used_stored = ap (λ n. entries n (with_entries new_entries B.bytes)) (sym new_count) ∙ read_back new_entries (drop (length new_entries * 22) B.bytes) new_whole

  pub fits_stored : B.count < size B → Fits (stored_in B bytes rule (suc v))
  unfolding new_entries
  fits_stored r =
      let e : length (with_entries new_entries B.bytes) ≡ length B.bytes = length_with_entries new_entries B.bytes new_whole (omega (arith, new_count)) in
      record { whole = rw e f.whole; within = rw e (omega arith) }

-- a mark set in a book that fits: it fits still
pub fits_marked : (B : Book) → Fits B → (i : ℕ) → Fits (book_of (marking (i * 22) B.bytes) B.count)
fits_marked B f i = let e = length-set B.bytes (i * 22 + 21) (with_mark (get_or B.bytes (i * 22 + 21) 0)) in record { whole = rw e f.whole; within = rw e f.within }
