-- Trainers and publishing: the traps of MANUAL, Positions to try, and ours, computed from the definitions. Rests on Lists and on the book's Cases for its buffers.
use Rattle.std.specs.Prelude.{◌≡◌, refl, List, [], ◌∷◌, ◌++◌, ℕ}
use Rattle.std.proofs.Common.{ap}
use Rattle.rules.specs.Rules.{has_line, state, board, board_states}
use Rattle.rules.specs.Record.{bit_at, position_of, position_refusal, refusal_to6, impossible_choice, refusal}
use Rattle.rules.specs.Refusals.{first_refusal}
use Rattle.plain.proofs.Cases.{W, D}
use Rattle.searches.specs.StepThree.{pool}
use Rattle.entries.specs.Entries.{holds_rule, holds_pair, find}
use Rattle.entries.specs.Published.{published_pairs}
use Rattle.entries.specs.declared.Caller.{Caller}
use Rattle.entries.specs.declared.Caller.TheVariants.{Arbiter, Trainer}
use Rattle.book.specs.Book.{Book, book_of, BookOutcome, used, refused, unsearched, lookup_refusal, lookup_call, add_refusal, add_call, publish_refusal, publish_call}
use Rattle.book.specs.Lists.{Lookup, Add, Publish, after_calls}
use Rattle.book.proofs.Cases.{blank, entry, judge, none, one, book_cases}

-- What a caller finds for D under rule 1 in a buffer with a count.
abbrev pub FindsFor : Caller → (buffer : List ℕ) (count verdict : ℕ) → Type 0
FindsFor who buffer count v = lookup_call who D 1 (book_of buffer count) ≡ unsearched (book_of buffer count) v

-- What publishing D under rule 1 answers, and the buffer that it leaves.
abbrev pub Leaves : (buffer : List ℕ) (count answer : ℕ) (after : List ℕ) → Type 0
Leaves buffer count a after = publish_call Arbiter D 1 (book_of buffer count) ≡ unsearched (book_of after count) a

-- D published as False, in two books: after W, unpublished; and, with other low bits, after D as True, unpublished, and W, published with verdict bits 3.
abbrev pub short : Book
short = book_of (entry W 0x50 ++ entry D 0x61) 2

abbrev pub long : Book
long = book_of (entry D 0x50 ++ (entry W 0x71 ++ entry D 0x6F)) 3

-- Each field is a case.
pub record TrainerCases : Type 0 where
  -- an entry that was stored is unpublished, and published it is found
  pub unpublished : lookup_call Trainer D 1 one ≡ unsearched one 0
  pub published : Leaves (entry D 0x60 ++ blank 22) 1 1 (entry D 0x61 ++ blank 22)
  pub then_found : FindsFor Trainer (entry D 0x61 ++ blank 22) 1 2
  pub still_found : FindsFor Arbiter (entry D 0x61 ++ blank 22) 1 2
  pub under_rule_2 : lookup_call Trainer D 2 (book_of (entry D 0x61) 1) ≡ unsearched (book_of (entry D 0x61) 1) 0
  -- published twice
  pub twice : Leaves (entry D 0x61 ++ blank 22) 1 1 (entry D 0x61 ++ blank 22)
  -- the same published pairs and verdicts, and otherwise other entries
  pub same_published : published_pairs (used short) ≡ published_pairs (used long)
  pub D_in_short : lookup_call Trainer D 1 short ≡ unsearched short 2
  pub D_in_long : lookup_call Trainer D 1 long ≡ unsearched long 2
  pub W_in_short : lookup_call Trainer W 1 short ≡ unsearched short 0
  pub W_in_long : lookup_call Trainer W 1 long ≡ unsearched long 0
  pub arbiters_in_long : lookup_call Arbiter D 1 long ≡ unsearched long 1
  -- an unpublished entry of the pair with the other verdict before the published one: publishing shows the first
  pub arbiter_first : FindsFor Arbiter (entry D 0x50 ++ entry D 0x61) 2 1
  pub trainer_second : FindsFor Trainer (entry D 0x50 ++ entry D 0x61) 2 2
  pub first_published : Leaves (entry D 0x50 ++ entry D 0x61) 2 1 (entry D 0x51 ++ entry D 0x61)
  pub trainer_first : FindsFor Trainer (entry D 0x51 ++ entry D 0x61) 2 1
  -- published, but verdict bits 0 or 3
  pub bits_0 : FindsFor Trainer (entry D 0x41) 1 0
  pub bits_3 : FindsFor Trainer (entry D 0x71) 1 0
  pub after_bits_3 : FindsFor Trainer (entry D 0x71 ++ entry D 0x61) 2 2
  pub bits_3_not_held : Leaves (entry D 0x70) 1 0 (entry D 0x70)
  pub bits_3_passed_over : Leaves (entry D 0x70 ++ entry D 0x60) 2 1 (entry D 0x70 ++ entry D 0x61)
  -- the three bits before the mark are not looked at and stay
  pub other_low_bits : FindsFor Trainer (entry D 0x6E) 1 0
  pub all_low_bits : FindsFor Trainer (entry D 0x6F) 1 2
  pub low_bits_stay : Leaves (entry D 0x6E) 1 1 (entry D 0x6F)
  -- marks past the count are not looked at, and no mark is set there
  pub past_the_count : FindsFor Trainer (blank 22 ++ entry D 0x6F) 1 0
  pub not_marked_there : Leaves (blank 22 ++ entry D 0x60) 1 0 (blank 22 ++ entry D 0x60)
  pub no_entries : Leaves [] 0 0 []
  -- another rule's entry, and another record's
  pub other_rule : Leaves (entry D 0xA0) 1 0 (entry D 0xA0)
  pub other_record : Leaves (entry W 0x60) 1 0 (entry W 0x60)
  -- a trainer adds or publishes: ahead of the record, the pool, the rule and the book
  pub adds : add_call Trainer D (pool 3276) 1 judge one ≡ refused one 19
  pub adds_to_a_broken_book : add_call Trainer D (pool 3276) 1 judge (book_of (blank 23) 5) ≡ refused (book_of (blank 23) 5) 19
  pub adds_nothing_right : add_call Trainer [] 4 3 judge (book_of (blank 23) 5) ≡ refused (book_of (blank 23) 5) 19
  pub publishes : publish_call Trainer D 1 one ≡ refused one 19
  pub publishes_nothing_right : publish_call Trainer [] 3 (book_of (blank 23) 5) ≡ refused (book_of (blank 23) 5) 19
  -- a lookup's checks, whoever looks up; and publish's
  pub trainer_record : lookup_call Trainer [] 3 (book_of (blank 23) 5) ≡ refused (book_of (blank 23) 5) 1
  pub trainer_book : lookup_call Trainer D 1 (book_of (blank 23) 0) ≡ refused (book_of (blank 23) 0) 17
  pub publish_record : publish_call Arbiter [] 3 (book_of (blank 23) 5) ≡ refused (book_of (blank 23) 5) 1
  pub publish_rule : publish_call Arbiter D 3 (book_of (blank 23) 5) ≡ refused (book_of (blank 23) 5) 10
  pub publish_book : publish_call Arbiter D 1 (book_of (blank 23) 0) ≡ refused (book_of (blank 23) 0) 17
  -- a list of calls: added, published, published by a trainer in vain, looked up
  pub list : after_calls (Add Arbiter D (pool 3276) 1 judge ∷ Publish Arbiter D 1 ∷ Publish Trainer D 1 ∷ Lookup Trainer D 1 ∷ []) none ≡ book_of (entry D 0x61 ++ blank 22) 1

pub trainer_cases : TrainerCases
unfolding has_line state board board_states bit_at position_of position_refusal refusal_to6 impossible_choice refusal first_refusal holds_rule holds_pair find lookup_refusal
    lookup_call add_refusal add_call publish_refusal publish_call
trainer_cases = record {
  unpublished = refl;
  published = refl;
  then_found = refl;
  still_found = refl;
  under_rule_2 = refl;
  twice = refl;
  same_published = refl;
  D_in_short = refl;
  D_in_long = refl;
  W_in_short = refl;
  W_in_long = refl;
  arbiters_in_long = refl;
  arbiter_first = refl;
  trainer_second = refl;
  first_published = refl;
  trainer_first = refl;
  bits_0 = refl;
  bits_3 = refl;
  after_bits_3 = refl;
  bits_3_not_held = refl;
  bits_3_passed_over = refl;
  other_low_bits = refl;
  all_low_bits = refl;
  low_bits_stay = refl;
  past_the_count = refl;
  not_marked_there = refl;
  no_entries = refl;
  other_rule = refl;
  other_record = refl;
  adds = refl;
  adds_to_a_broken_book = refl;
  adds_nothing_right = refl;
  publishes = refl;
  publishes_nothing_right = refl;
  trainer_record = refl;
  trainer_book = refl;
  publish_record = refl;
  publish_rule = refl;
  publish_book = refl;
  list = ap (λ (o : BookOutcome). after_calls (Publish Arbiter D 1 ∷ Publish Trainer D 1 ∷ Lookup Trainer D 1 ∷ []) o.left) book_cases.D_1;
}
