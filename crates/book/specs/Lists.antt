-- Lists of calls, each given the book and the count as the one before left them. Rests on Book and on the code's enum of callers.
use Rattle.std.specs.Prelude.{List, [], ◌∷◌, ℕ}
use Rattle.searches.specs.Searches.{Limits}
use Rattle.entries.specs.declared.Caller.{Caller}
use Rattle.book.specs.Book.{Book, book_of, BookOutcome, lookup_call, add_call, publish_call}

-- A call with all that comes in beside the book; an add's pool by its length in words.
pub data BookCall : Type 0 where
  Lookup : Caller → (bytes : List ℕ) (rule : ℕ) → BookCall
  Add : Caller → (bytes : List ℕ) (words rule : ℕ) → Limits → BookCall
  Publish : Caller → (bytes : List ℕ) (rule : ℕ) → BookCall

abbrev pub outcome_of : BookCall → Book → BookOutcome
outcome_of (Lookup who bytes rule) B = lookup_call who bytes rule B
outcome_of (Add who bytes words rule L) B = add_call who bytes words rule L B
outcome_of (Publish who bytes rule) B = publish_call who bytes rule B

-- The book after a list of calls.
abbrev pub after_calls : List BookCall → Book → Book
after_calls [] B = B
after_calls (c ∷ cs) B = after_calls cs (outcome_of c B).left

-- An empty book: no entry is used, whatever the buffer's bytes.
abbrev pub empty_book : (buffer : List ℕ) → Book
empty_book buffer = book_of buffer 0
