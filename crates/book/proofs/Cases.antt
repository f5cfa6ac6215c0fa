-- Books of MANUAL, Positions to try, and ours, computed from the definitions. Rests on Lists, Changes, on plain's
-- Cases for the records E, W and D and their searches, and on StepThree for judge's settings.
use Rattle.std.specs.Prelude.{◌≡◌, refl, List, [], ◌∷◌, ◌++◌, ℕ, replicate}
use Rattle.std.proofs.Common.{ap, ◌∙◌}
use Rattle.rules.specs.Rules.{has_line, state, board, board_states, game_state}
use Rattle.rules.specs.Record.{bit_at, position_of, position_refusal, refusal_to6, impossible_choice, refusal}
use Rattle.rules.specs.Refusals.{first_refusal}
use Rattle.plain.proofs.Cases.{E, W, D, starred}
use Rattle.searches.specs.Searches.{Limits, search_refusal}
use Rattle.searches.proofs.StayCases.{by_bits, staying}
use Rattle.searches.specs.StepThree.{pool, judging}
use Rattle.entries.specs.Entries.{holds_rule, holds_pair, find}
use Rattle.entries.specs.declared.Caller.TheVariants.{Arbiter}
use Rattle.book.specs.Book.{Book, book_of, BookOutcome, refused, unsearched, searching, lookup_refusal, lookup_call, add_refusal, add_call}
use Rattle.book.specs.Lists.{Lookup, Add, after_calls}
use Rattle.book.proofs.Changes.{add_by_search}

-- So many bytes that are no entry; an entry's bytes.
abbrev pub blank : ℕ → List ℕ
blank n = replicate n 0xA5

abbrev pub entry : (bytes : List ℕ) (last : ℕ) → List ℕ
entry bytes last = bytes ++ (last ∷ [])

-- What an arbiter's lookup of D under rule 1 finds in a buffer with a count.
abbrev pub Finds : (buffer : List ℕ) (count verdict : ℕ) → Type 0
Finds buffer count v = lookup_call Arbiter D 1 (book_of buffer count) ≡ unsearched (book_of buffer count) v

abbrev pub Turns : (buffer : List ℕ) (count number : ℕ) → Type 0
Turns buffer count n = lookup_call Arbiter D 1 (book_of buffer count) ≡ refused (book_of buffer count) n

-- The program judge's settings.
abbrev pub judge : Limits
judge = judging 100000

-- D's verdicts: False under rule 1, 60, and True under rule 2, 90. A book of two entries with none used, with one and with both.
abbrev pub none : Book
none = book_of (blank 44) 0

abbrev pub one : Book
one = book_of (entry D 0x60 ++ blank 22) 1

abbrev pub both : Book
both = book_of (entry D 0x60 ++ entry D 0x90) 2

-- Each field is a case. D is drawn.
pub record BookCases : Type 0 where
  -- D is added under rule 1 and under rule 2: the same record under two rules
  pub D_1 : add_call Arbiter D (pool 3276) 1 judge none ≡ searching one 2
  pub D_2 : add_call Arbiter D (pool 3276) 2 judge one ≡ searching both 1
  pub D_found_1 : lookup_call Arbiter D 1 both ≡ unsearched both 2
  pub D_found_2 : lookup_call Arbiter D 2 both ≡ unsearched both 1
  pub D_not_held : lookup_call Arbiter D 0 both ≡ unsearched both 0
  -- added again: answered without a search, with another pool and no budget too, and in a full book
  pub D_again : add_call Arbiter D (pool 3276) 1 judge one ≡ unsearched one 2
  pub D_again_full : add_call Arbiter D (pool 1) 2 (judging 0) both ≡ unsearched both 1
  -- W, won with one move, and E, which is Unknown with no budget: nothing is stored
  pub W_1 : add_call Arbiter W (pool 2) 1 (judging 1) (book_of (blank 22) 0) ≡ searching (book_of (entry W 0x50) 1) 1
  pub W_short : add_call Arbiter W (pool 1) 1 (judging 1) none ≡ searching none 0
  pub E_spent : add_call Arbiter E (pool 3276) 2 (judging 0) one ≡ searching one 0
  -- a full book without the pair is refused by 18, also where the search would be Unknown
  pub W_full : add_call Arbiter W (pool 2) 1 (judging 1) both ≡ refused both 18
  pub E_full : add_call Arbiter E (pool 3276) 2 (judging 0) both ≡ refused both 18
  pub no_entries : add_call Arbiter D (pool 3276) 1 judge (book_of [] 0) ≡ refused (book_of [] 0) 18
  -- an entry past the count is not looked at
  pub past_the_count : Finds (entry D 0x60 ++ blank 22) 0 0
  pub past_the_first : Finds (blank 22 ++ entry D 0x60) 1 0
  -- entries that contradict each other: the first counts
  pub first_true : Finds (entry D 0x50 ++ entry D 0x60) 2 1
  pub first_false : Finds (entry D 0x60 ++ entry D 0x50) 2 2
  -- verdict bits 0 and 3 are no verdict, and the next entry of the pair counts; for an arbiter the four low bits make no difference
  pub bits_0 : Finds (entry D 0x40) 1 0
  pub after_bits_0 : Finds (entry D 0x40 ++ entry D 0x60) 2 2
  pub bits_3 : Finds (entry D 0x70) 1 0
  pub after_bits_3 : Finds (entry D 0x70 ++ entry D 0x60) 2 2
  pub low_bits : Finds (entry D 0x6F) 1 2
  -- buffers of no byte, 21, 22, 23, 43 and 44 bytes; a count one above the entries, and the largest
  pub bytes_0 : Finds [] 0 0
  pub bytes_21 : Turns (blank 21) 0 17
  pub bytes_22 : Finds (blank 22) 1 0
  pub bytes_23 : Turns (blank 23) 0 17
  pub bytes_43 : Turns (blank 43) 1 17
  pub bytes_44 : Finds (blank 44) 2 0
  pub count_above : Turns (blank 44) 3 17
  pub count_of_none : Turns [] 1 17
  pub largest_count : Turns (blank 44) 18446744073709551615 17
  -- the record, the pool and the rule are checked before the book
  pub record_first : lookup_call Arbiter [] 3 (book_of (blank 23) 5) ≡ refused (book_of (blank 23) 5) 1
  pub rule_first : lookup_call Arbiter D 3 (book_of (blank 23) 5) ≡ refused (book_of (blank 23) 5) 10
  pub pool_first : add_call Arbiter D 4 1 judge (book_of (blank 23) 5) ≡ refused (book_of (blank 23) 5) 8
  pub book_then : add_call Arbiter D (pool 1) 1 judge (book_of (blank 23) 0) ≡ refused (book_of (blank 23) 0) 17
  -- a margin that is none: before the book, and for a pair that is held too
  pub margin_first : add_call Arbiter D (pool 1) 1 (staying 0 (by_bits 0x3F60000000000000)) (book_of (blank 23) 0) ≡ refused (book_of (blank 23) 0) 21
  pub margin_held : add_call Arbiter D (pool 1) 1 (staying 0 (by_bits 0x3F60000000000000)) one ≡ refused one 21
  -- a list of calls, one of them refused
  pub list : after_calls (Add Arbiter D (pool 3276) 1 judge ∷ Lookup Arbiter D 1 ∷ Add Arbiter D 4 2 judge ∷ Add Arbiter D (pool 3276) 2 judge ∷ []) none ≡ both

pub book_cases : BookCases
unfolding has_line state board board_states game_state bit_at position_of position_refusal refusal_to6 impossible_choice refusal first_refusal search_refusal holds_rule holds_pair
    find lookup_refusal lookup_call add_refusal add_call by_bits
book_cases = record {
  D_1 = D_one;
  D_2 = D_two;
  D_found_1 = refl;
  D_found_2 = refl;
  D_not_held = refl;
  D_again = refl;
  D_again_full = refl;
  W_1 = add_by_search Arbiter W (pool 2) 1 (judging 1) (book_of (blank 22) 0) _ refl refl refl starred.W_two.1;
  W_short = add_by_search Arbiter W (pool 1) 1 (judging 1) none _ refl refl refl starred.W_short.1;
  E_spent = add_by_search Arbiter E (pool 3276) 2 (judging 0) one _ refl refl refl starred.E_spent.2;
  W_full = refl;
  E_full = refl;
  no_entries = refl;
  past_the_count = refl;
  past_the_first = refl;
  first_true = refl;
  first_false = refl;
  bits_0 = refl;
  after_bits_0 = refl;
  bits_3 = refl;
  after_bits_3 = refl;
  low_bits = refl;
  bytes_0 = refl;
  bytes_21 = refl;
  bytes_22 = refl;
  bytes_23 = refl;
  bytes_43 = refl;
  bytes_44 = refl;
  count_above = refl;
  count_of_none = refl;
  largest_count = refl;
  record_first = refl;
  rule_first = refl;
  pool_first = refl;
  book_then = refl;
  margin_first = refl;
  margin_held = refl;
  list = ap (λ (o : BookOutcome). after_calls (Lookup Arbiter D 1 ∷ Add Arbiter D 4 2 judge ∷ Add Arbiter D (pool 3276) 2 judge ∷ []) o.left) D_one ∙ ap (λ (o : BookOutcome). o.left) D_two;
}
  where
    D_one : add_call Arbiter D (pool 3276) 1 judge none ≡ searching one 2
    D_one = add_by_search Arbiter D (pool 3276) 1 judge none _ refl refl refl starred.D_rule1

    D_two : add_call Arbiter D (pool 3276) 2 judge one ≡ searching both 1
    D_two = add_by_search Arbiter D (pool 3276) 2 judge one _ refl refl refl starred.D_rule2
