-- What lookup, add and publish of a book of verdicts answer and what they leave in the book, as functions of what comes in, who is calling among it. The checks
-- stand in their order (MANUAL, Calls; Turned back), and a refusal leaves every byte and the count as they were. Rests on the entries, on the record's and
-- search's checks, and on the plain machine's result and a verdict's number.
use Rattle.std.specs.Prelude.{◌≡◌, Bool, true, false, cond, not, ◌||◌, List, [], ◌∷◌, ℕ, zero, suc, ◌*◌, ◌/◌, ◌%◌, eqb, leb, ltb, length}
use Rattle.rules.specs.Record.{refusal}
use Rattle.rules.specs.Refusals.{refuses, first_refusal}
use Rattle.prove.specs.Numbers.{verdict_number}
use Rattle.plain.specs.Plain.{plain_search}
use Rattle.calls.specs.Calls.{last_rule, answer_unless}
use Rattle.searches.specs.Searches.{Limits, nodes, settings, search_refusal, Untouched}
use Rattle.entries.specs.Entries.{Entry, is_trainer, entries, with_entries, holds_pair, find, place, new_entry, storing, marking}
use Rattle.entries.specs.declared.Caller.{Caller}
use Rattle.entries.specs.declared.Caller.TheVariants.{Arbiter}

-- A book: the lent buffer, and the count of its used entries.
pub record Book : Type 0 where
  pub bytes : List ℕ
  pub count : ℕ

abbrev pub book_of : (bytes : List ℕ) (count : ℕ) → Book
book_of bytes count = record { bytes = bytes; count = count }

-- How many entries the buffer has, and the used ones.
abbrev pub size : Book → ℕ
size B = length B.bytes / 22

abbrev pub used : Book → List Entry
used B = entries B.count B.bytes

-- Check 17: the buffer is no whole number of entries, or the count is above them.
abbrev pub broken : Book → Bool
broken B = not (eqb (length B.bytes % 22) 0) || ltb (size B) B.count

-- What a call answers and leaves: 0 or the number of the refusal; the index, 0 always; the answer, which is a verdict, 1 True, 2 False, 0 where there is none, or
-- publish's 1, published, and 0, not held; whether it searched; the book afterwards.
pub record BookOutcome : Type 0 where
  pub number : ℕ
  pub index : ℕ
  pub answer : ℕ
  pub searched : Bool
  pub left : Book

abbrev pub book_outcome : (number index answer : ℕ) (searched : Bool) → Book → BookOutcome
book_outcome n i a s B = record { number = n; index = i; answer = a; searched = s; left = B }

-- Refused; an answer without a search; and with one.
abbrev pub refused : Book → ℕ → BookOutcome
refused B n = book_outcome n 0 0 false B

abbrev pub unsearched : Book → ℕ → BookOutcome
unsearched B a = book_outcome 0 0 a false B

abbrev pub searching : Book → ℕ → BookOutcome
searching B a = book_outcome 0 0 a true B

-- Lookup: the checks of the record, 10 of the rule, and 17. The verdict that the caller finds, or 0: not held.
unfoldable pub lookup_refusal : (bytes : List ℕ) (rule : ℕ) → Book → ℕ
lookup_refusal bytes rule B = first_refusal (refusal bytes ∷ refuses 10 (ltb last_rule rule) ∷ refuses 17 (broken B) ∷ [])

unfoldable pub lookup_call : Caller → (bytes : List ℕ) (rule : ℕ) → Book → BookOutcome
lookup_call who bytes rule B = answer_unless (lookup_refusal bytes rule B) (refused B) (unsearched B (find who bytes rule (used B)))

-- Add: check 19, a trainer adds; search's checks; and 17.
unfoldable pub add_refusal : Caller → (bytes : List ℕ) (capacity rule : ℕ) → Limits → Book → ℕ
add_refusal who bytes capacity rule L B = first_refusal (refuses 19 (is_trainer who) ∷ search_refusal bytes capacity rule L ∷ refuses 17 (broken B) ∷ [])

-- The verdict of the search; a book with a verdict stored, as the entry at its count; an Unknown, 0, is not stored.
abbrev pub searched_verdict : (bytes : List ℕ) (words rule : ℕ) → Limits → ℕ
searched_verdict bytes words rule L = verdict_number (plain_search rule (settings words L) bytes).verdict

abbrev pub stored_in : Book → (bytes : List ℕ) (rule verdict : ℕ) → Book
stored_in B bytes rule zero = B
stored_in B bytes rule (suc v) = book_of (with_entries (storing (new_entry bytes rule (suc v)) (used B)) B.bytes) (suc B.count)

abbrev pub after_search : Book → (bytes : List ℕ) (rule verdict : ℕ) → BookOutcome
after_search B bytes rule v = searching (stored_in B bytes rule v) v

-- A pair that is held, as an arbiter finds it, is answered by its verdict; otherwise comes check 18, the book is full; and then the search.
unfoldable pub add_call : Caller → (bytes : List ℕ) (words rule : ℕ) → Limits → Book → BookOutcome
add_call who bytes words rule L B =
    answer_unless (add_refusal who bytes (nodes words) rule L B) (refused B)
    (answer_unless (find Arbiter bytes rule (used B)) (unsearched B)
    (answer_unless (refuses 18 (leb (size B) B.count)) (refused B) (after_search B bytes rule (searched_verdict bytes words rule L))))

-- The pool's words after an add: as they were, unless it searched; then those past the capacity are.
abbrev pub PoolAfterAdd : (searched : Bool) (before after : List ℕ) → Type 0
PoolAfterAdd false before after = after ≡ before
PoolAfterAdd true before after = Untouched before after

-- Publish: check 19, a trainer publishes; and then lookup's. The mark is set in the first used entry that holds the pair, and the answer is 1; if none does it
-- is 0, and nothing is written.
unfoldable pub publish_refusal : Caller → (bytes : List ℕ) (rule : ℕ) → Book → ℕ
publish_refusal who bytes rule B = first_refusal (refuses 19 (is_trainer who) ∷ lookup_refusal bytes rule B ∷ [])

abbrev pub after_place : Book → (i : ℕ) → BookOutcome
after_place B i = cond (ltb i B.count) (unsearched (book_of (marking (i * 22) B.bytes) B.count) 1) (unsearched B 0)

unfoldable pub publish_call : Caller → (bytes : List ℕ) (rule : ℕ) → Book → BookOutcome
publish_call who bytes rule B = answer_unless (publish_refusal who bytes rule B) (refused B) (after_place B (place (holds_pair bytes rule) (used B)))
