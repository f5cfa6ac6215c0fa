-- What is promised of every list of calls from an empty book: one record, a clause for each thing that is asked. A call of a list comes after the calls
-- before it, so each clause is about one that follows any list of them. And what is promised of an add to any book, one record. Rests on Lists, on the
-- value of a record and on search.
use Rattle.std.specs.Prelude.{◌≡◌, true, false, List, ◌∷◌, ◌++◌, ℕ, suc, ◌*◌, ◌<◌, length, take, drop}
use Rattle.machine.specs.Machine.{Result}
use Rattle.prove.specs.Numbers.{verdict_number}
use Rattle.calls.specs.Calls.{value_number}
use Rattle.searches.specs.Searches.{Limits, nodes, Answered, search_call}
use Rattle.entries.specs.Entries.{find, new_entry}
use Rattle.entries.specs.declared.Caller.{Caller}
use Rattle.entries.specs.declared.Caller.TheVariants.{Arbiter}
use Rattle.book.specs.Book.{Book, book_of, size, used, unsearched, lookup_call, add_refusal, add_call}
use Rattle.book.specs.Lists.{BookCall, outcome_of, after_calls, empty_book}

-- With B the book that the calls leave, from any buffer with count 0 on:
pub record BookStatement (buffer : List ℕ) (calls : List BookCall) : Type 0 where
  -- a verdict that a lookup finds, an arbiter's or a trainer's, is the position's value under that rule;
  pub found : (who : Caller) (bytes : List ℕ) (rule : ℕ) → let B = after_calls calls (empty_book buffer) in
      ((lookup_call who bytes rule B).answer ≡ 0 → ⊥) → (lookup_call who bytes rule B).answer ≡ value_number rule bytes
  -- so is a verdict that an add hands out, held or searched for;
  pub handed_out : (who : Caller) (bytes : List ℕ) (words rule : ℕ) (L : Limits) → let B = after_calls calls (empty_book buffer) in
      ((add_call who bytes words rule L B).answer ≡ 0 → ⊥) → (add_call who bytes words rule L B).answer ≡ value_number rule bytes
  -- and that verdict is what every later lookup of the pair by an arbiter finds, published or not, whatever calls come between;
  pub kept : (who : Caller) (bytes : List ℕ) (words rule : ℕ) (L : Limits) (later : List BookCall) → let a = add_call who bytes words rule L (after_calls calls (empty_book buffer)) in
      (a.answer ≡ 0 → ⊥) → let C = after_calls later a.left in lookup_call Arbiter bytes rule C ≡ unsearched C a.answer
  -- a call that is refused changes nothing.
  pub refused_as_it_was : (c : BookCall) → let B = after_calls calls (empty_book buffer) in ((outcome_of c B).number ≡ 0 → ⊥) → (outcome_of c B).left ≡ B

-- A book with one entry written at its count, and the count one more: every byte but those 22 is as it was.
abbrev pub one_written : Book → (bytes : List ℕ) (rule verdict : ℕ) → Book
one_written B bytes rule v = book_of (take (B.count * 22) B.bytes ++ (bytes ++ ((new_entry bytes rule v).last ∷ drop (suc B.count * 22) B.bytes))) (suc B.count)

-- What is promised of an add to any book B, whatever it holds: with a the outcome,
pub record AddStatement (who : Caller) (bytes : List ℕ) (words rule : ℕ) (L : Limits) (B : Book) : Type 0 where
  -- if it is not refused and the pair is held, it is answered with its verdict, without a search;
  pub held : add_refusal who bytes (nodes words) rule L B ≡ 0 → (find Arbiter bytes rule (used B) ≡ 0 → ⊥) → add_call who bytes words rule L B ≡ unsearched B (find Arbiter bytes rule (used B))
  -- an add that searches has the verdict that search has with the same record, pool, rule and settings;
  pub as_search : let a = add_call who bytes words rule L B in a.searched ≡ true → (r : Result) → search_call bytes words rule L ≡ Answered r → a.answer ≡ verdict_number r.verdict
  -- a True or False of a search is stored in a book with room: a 21-byte record's entry at the count is written, and nothing else;
  pub stores : let a = add_call who bytes words rule L B in a.searched ≡ true → (a.answer ≡ 0 → ⊥)
      → (length bytes ≡ 21) × (B.count < size B) × (a.left ≡ one_written B bytes rule a.answer)
  -- with an Unknown or a refusal, and without a search, the book stays as it was.
  pub none_stored : let a = add_call who bytes words rule L B in a.answer ≡ 0 → a.left ≡ B
  pub unsearched_as_it_was : let a = add_call who bytes words rule L B in a.searched ≡ false → a.left ≡ B
