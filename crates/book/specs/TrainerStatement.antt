-- What is promised of a book that arbiters and trainers share: of trainers and of publishing, with any book, a clause for each thing that is asked, and of lists of
-- calls; one record of all. Rests on Book, on the entries that are published and on BookStatement.
use Rattle.std.specs.Prelude.{◌≡◌, false, List, ◌⊎◌, ℕ, suc, ◌*◌, ◌%◌, ◌<◌, length, get_or, set}
use Rattle.searches.specs.Searches.{Limits}
use Rattle.entries.specs.Entries.{holds_pair, find, place, marking}
use Rattle.entries.specs.Published.{published_pairs, verdict_among}
use Rattle.entries.specs.declared.Caller.{Caller}
use Rattle.entries.specs.declared.Caller.TheVariants.{Arbiter, Trainer}
use Rattle.book.specs.Book.{Book, book_of, BookOutcome, book_outcome, used, broken, refused, unsearched, lookup_refusal, lookup_call, add_call}
use Rattle.book.specs.Book.{publish_refusal, publish_call}
use Rattle.book.specs.Lists.{BookCall}
use Rattle.book.specs.BookStatement.{BookStatement}

-- An outcome with another book left: all else that a call tells is the same.
abbrev pub leaving : Book → BookOutcome → BookOutcome
leaving C o = book_outcome o.number o.index o.answer o.searched C

-- Of trainers, with any two books B and C:
pub record TrainerStatement (B C : Book) : Type 0 where
  -- a trainer's add and publish are refused by 19, whatever else comes in, and leave the book as it was;
  pub adds_nothing : (bytes : List ℕ) (words rule : ℕ) (L : Limits) → add_call Trainer bytes words rule L B ≡ refused B 19
  pub publishes_nothing : (bytes : List ℕ) (rule : ℕ) → publish_call Trainer bytes rule B ≡ refused B 19
  -- a trainer's lookup that is not refused gives the verdict of the first published entry that holds the pair, or 0;
  pub reads_published : (bytes : List ℕ) (rule : ℕ) → lookup_refusal bytes rule B ≡ 0
      → lookup_call Trainer bytes rule B ≡ unsearched B (verdict_among bytes rule (published_pairs (used B)))
  -- if both books pass check 17 and have the same published pairs and verdicts in the same order, every lookup by a trainer, refused ones too, answers alike;
  pub alike : broken B ≡ false → broken C ≡ false → published_pairs (used B) ≡ published_pairs (used C)
      → (bytes : List ℕ) (rule : ℕ) → lookup_call Trainer bytes rule C ≡ leaving C (lookup_call Trainer bytes rule B)
  -- an add, by an arbiter or a trainer and whatever it stores, changes no answer of a trainer's lookup.
  pub add_unseen : (who : Caller) (bytes : List ℕ) (words rule : ℕ) (L : Limits) → let A = (add_call who bytes words rule L B).left in
      (asked : List ℕ) (under : ℕ) → lookup_call Trainer asked under A ≡ leaving A (lookup_call Trainer asked under B)

-- One bit of a book's bytes is changed: the last one of a byte, from 0 to 1.
pub record OneBit (B C : Book) : Type 0 where
  pub at : ℕ
  pub within : at < length B.bytes
  pub was_0 : get_or B.bytes at 0 % 2 ≡ 0
  pub is_1 : C ≡ book_of (set B.bytes at (suc (get_or B.bytes at 0))) B.count

-- Of publishing a pair in any book B, with i the number of used entries before the first that holds the pair:
pub record PublishStatement (who : Caller) (bytes : List ℕ) (rule : ℕ) (B : Book) : Type 0 where
  -- if it is not refused and the pair is held, the mark is set in that entry, which is a used one, no other byte is written, and the answer is 1;
  pub held : publish_refusal who bytes rule B ≡ 0 → (find Arbiter bytes rule (used B) ≡ 0 → ⊥)
      → let i = place (holds_pair bytes rule) (used B) in (i < B.count) × (publish_call who bytes rule B ≡ unsearched (book_of (marking (i * 22) B.bytes) B.count) 1)
  -- one bit of the book changes, or none;
  pub one_bit : let C = (publish_call who bytes rule B).left in (C ≡ B) ⊎ OneBit B C
  -- if it is not refused and the pair is not held, the answer is 0, and nothing is written;
  pub not_held : publish_refusal who bytes rule B ≡ 0 → find Arbiter bytes rule (used B) ≡ 0 → publish_call who bytes rule B ≡ unsearched B 0
  -- beside 19 its checks are a lookup's, and a refusal writes nothing;
  pub checks : publish_refusal Arbiter bytes rule B ≡ lookup_refusal bytes rule B
  pub refused_as_it_was : ((publish_call who bytes rule B).number ≡ 0 → ⊥) → (publish_call who bytes rule B).left ≡ B
  -- published a second time, the pair is answered with 1 again, and nothing changes;
  pub again : (publish_call who bytes rule B).answer ≡ 1 → let C = (publish_call who bytes rule B).left in publish_call who bytes rule C ≡ unsearched C 1
  -- a trainer's lookup of the pair then answers with the verdict that an arbiter found before;
  pub seen : (publish_call who bytes rule B).answer ≡ 1 → let C = (publish_call who bytes rule B).left in lookup_call Trainer bytes rule C ≡ unsearched C (find Arbiter bytes rule (used B))
  -- every lookup by an arbiter answers as before, and so does one by a trainer of another pair.
  pub as_before : let C = (publish_call who bytes rule B).left in (asked : List ℕ) (under : ℕ) → lookup_call Arbiter asked under C ≡ leaving C (lookup_call Arbiter asked under B)
  pub others_as_before : let C = (publish_call who bytes rule B).left in
      (asked : List ℕ) (under : ℕ) → (asked ≡ bytes → under ≡ rule → ⊥) → lookup_call Trainer asked under C ≡ leaving C (lookup_call Trainer asked under B)

-- All of it: of trainers with any two books, of every publish in any book, and of every list of calls, publishes among them, from an empty book.
pub record SharedBookStatement : Type 0 where
  pub trainers : (B C : Book) → TrainerStatement B C
  pub publishing : (who : Caller) (bytes : List ℕ) (rule : ℕ) (B : Book) → PublishStatement who bytes rule B
  pub lists : (buffer : List ℕ) (calls : List BookCall) → BookStatement buffer calls
