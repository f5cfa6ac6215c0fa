-- What the answers of lookup, add and publish say, by their cases. Rests on Book, on the numbers of the refusals, of a found verdict and of a search's.
use Rattle.std.specs.Prelude.{Bool, true, false, List, ℕ, Option, Some, Result, Ok, Err}
use Rattle.refusals.specs.Numbers.{number}
use Rattle.refusals.specs.declared.Refusal.{Refusal}
use Rattle.prove.specs.Numbers as prove
use Rattle.entries.specs.Entries.{found_number}
use Rattle.book.specs.Book.{Book, book_of, BookOutcome, refused, unsearched, searching}
use Rattle.book.specs.declared.Added.{Added}
use Rattle.book.specs.declared.Added.TheVariants.{Held, Searched}

-- A lookup's answer; the book is only read.
abbrev pub looked : Result (Option Bool) Refusal → Book → BookOutcome
looked (Ok v) B = unsearched B (found_number v)
looked (Err e) B = refused B (number e)

-- An add's answer, with the buffer's bytes afterwards and the count that came in.
abbrev pub added_of : Added → (bytes : List ℕ) (count : ℕ) → BookOutcome
added_of (Held v) bytes count = unsearched (book_of bytes count) (found_number (Some v))
added_of (Searched v after) bytes count = searching (book_of bytes after) (prove.number v)

abbrev pub added : Result Added Refusal → (bytes : List ℕ) (count : ℕ) → BookOutcome
added (Ok a) bytes count = added_of a bytes count
added (Err e) bytes count = refused (book_of bytes count) (number e)

-- A publish's answer, with the buffer's bytes afterwards and the count.
abbrev pub published : Result Bool Refusal → (bytes : List ℕ) (count : ℕ) → BookOutcome
published (Ok true) bytes count = unsearched (book_of bytes count) 1
published (Ok false) bytes count = unsearched (book_of bytes count) 0
published (Err e) bytes count = refused (book_of bytes count) (number e)
