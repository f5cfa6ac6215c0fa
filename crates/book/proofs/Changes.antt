-- What a call does to the used entries: it leaves them, or stores one more, of a pair that was not held, with its value, or marks one. That a refused call changes
-- nothing; and the promises of an add to any book. Rests on Lists, BookStatement, Passing and the machine's theorem.
use Rattle.std.specs.Prelude.{◌≡◌, refl, Bool, true, false, cond, List, ◌⊎◌, ℕ, zero, suc, ◌*◌, ◌≤◌, ◌<◌, leb, ltb, length}
use Rattle.std.proofs.Common.{sym, ap, ◌∙◌, true≢false, inl, inr, arith, leb-false, ltb-true, ltb-false}
use Rattle.std.proofs.lemmas.Bool.{false≢true}
use Rattle.rules.proofs.Checks.{loads_length}
use Rattle.rules.specs.Refusals.{refuses}
use Rattle.rules.proofs.RefusalLaws.{passes_check}
use Rattle.machine.specs.Machine.{Result, Verdict, True, False, Unknown}
use Rattle.prove.specs.Numbers.{verdict_number}
use Rattle.plain.specs.Plain.{record_value, plain_search}
use Rattle.plain.proofs.TwoSearches as plain-searches
use Rattle.calls.specs.Calls.{value_number}
use Rattle.calls.proofs.Refusing.{refused_by, by_number}
use Rattle.searches.specs.Searches.{Limits, nodes, settings, Answered, search_call}
use Rattle.searches.specs.Accepting.{Accepts}
use Rattle.searches.proofs.SearchAnswers.{answered}
use Rattle.entries.specs.Entries.{Entry, holds_pair, find, place, new_entry, storing, marking}
use Rattle.entries.proofs.Buffers.{stored_bytes}
use Rattle.entries.proofs.Placing.{mark_first, entries_marking}
use Rattle.entries.specs.declared.Caller.{Caller}
use Rattle.entries.specs.declared.Caller.TheVariants.{Arbiter}
use Rattle.book.specs.Book.{Book, book_of, BookOutcome, size, used, refused, unsearched, lookup_refusal, lookup_call, add_refusal, searched_verdict, stored_in, after_search, add_call}
use Rattle.book.specs.Book.{publish_refusal, publish_call}
use Rattle.book.specs.Lists.{BookCall, Lookup, Add, Publish, outcome_of}
use Rattle.book.specs.BookStatement.{one_written, AddStatement}
use Rattle.book.proofs.Passing.{Fits, AddPassed, add_passed, publish_passed, used_stored, fits_stored, fits_marked}

-- a search's verdict is the value
pub search_value : (bytes : List ℕ) (words rule : ℕ) (L : Limits) → Accepts bytes words rule L → let v = searched_verdict bytes words rule L in (v ≡ 0 → ⊥) → v ≡ value_number rule bytes
search_value bytes words rule L a =
    let s = (plain-searches.two_searches rule bytes (settings words L) (settings words L) a.range a.range).first in
    go (plain_search rule (settings words L) bytes).verdict s.true_value s.false_value
  where
    go : (v : Verdict) → (v ≡ True → record_value rule bytes ≡ true) → (v ≡ False → record_value rule bytes ≡ false) → (verdict_number v ≡ 0 → ⊥) → verdict_number v ≡ value_number rule bytes
    go True t f n = rw (t refl)
    go False t f n = rw (f refl)
    go Unknown t f n = absurd (n refl)

-- an add has passed every check, its pair was not held, and the book was not full: it searches
pub record AddSearches (bytes : List ℕ) (words rule : ℕ) (L : Limits) (B : Book) : Type 0 where
  pub passed : AddPassed bytes words rule L B
  pub not_held : find Arbiter bytes rule (used B) ≡ 0
  pub not_full : B.count < size B

-- any fact of an add's outcome, by the three ways that an add can go: refused, held, searched
pub add_ways : (P : BookOutcome → Type 0) (who : Caller) (bytes : List ℕ) (words rule : ℕ) (L : Limits) (B : Book)
    → ((n : ℕ) → P (refused B (suc n)))
    → ((v : ℕ) → AddPassed bytes words rule L B → find Arbiter bytes rule (used B) ≡ suc v → P (unsearched B (suc v)))
    → (AddSearches bytes words rule L B → P (after_search B bytes rule (searched_verdict bytes words rule L)))
    → P (add_call who bytes words rule L B)
unfolding add_call
add_ways P who bytes words rule L B turned held searched =
    by_number P (add_refusal who bytes (nodes words) rule L B) (refused B) _ (λ n e. turned n)
    (λ h. let p = add_passed who bytes words rule L B h in
    by_number P (find Arbiter bytes rule (used B)) (unsearched B) _ (λ v e. held v p e)
    (λ z. by_number P (refuses 18 (leb (size B) B.count)) (refused B) _ (λ n e. turned n)
    (λ q. searched (record { passed = p; not_held = z; not_full = leb-false (size B) B.count (passes_check 17 _ q) }))))

pub lookup_ways : (P : BookOutcome → Type 0) (who : Caller) (bytes : List ℕ) (rule : ℕ) (B : Book) → ((n : ℕ) → P (refused B (suc n)))
    → (lookup_refusal bytes rule B ≡ 0 → P (unsearched B (find who bytes rule (used B)))) → P (lookup_call who bytes rule B)
unfolding lookup_call
lookup_ways P who bytes rule B turned looked = by_number P (lookup_refusal bytes rule B) (refused B) _ (λ n e. turned n) looked

-- a publish: refused; of a pair that is not held; or of one that is, which marks its first entry
pub publish_ways : (P : BookOutcome → Type 0) (who : Caller) (bytes : List ℕ) (rule : ℕ) (B : Book) → let i = place (holds_pair bytes rule) (used B) in
    ((n : ℕ) → P (refused B (suc n)))
    → (publish_refusal who bytes rule B ≡ 0 → B.count ≤ i → P (unsearched B 0))
    → (publish_refusal who bytes rule B ≡ 0 → i < B.count → P (unsearched (book_of (marking (i * 22) B.bytes) B.count) 1))
    → P (publish_call who bytes rule B)
unfolding publish_call
publish_ways P who bytes rule B turned missing marks =
    by_number P (publish_refusal who bytes rule B) (refused B) _ (λ n e. turned n) (λ h. go h (ltb (place (holds_pair bytes rule) (used B)) B.count) refl)
  where
    go : publish_refusal who bytes rule B ≡ 0 → let i = place (holds_pair bytes rule) (used B) in (b : Bool) → ltb i B.count ≡ b
        → P (cond b (unsearched (book_of (marking (i * 22) B.bytes) B.count) 1) (unsearched B 0))
    go e true t = marks e (ltb-true _ _ t)
    go e false t = missing e (ltb-false _ _ t)

-- the used entries with the mark
pub used_marked : (bytes : List ℕ) (rule : ℕ) (B : Book) → Fits B → let i = place (holds_pair bytes rule) (used B) in i < B.count
    → used (book_of (marking (i * 22) B.bytes) B.count) ≡ mark_first (holds_pair bytes rule) (used B)
used_marked bytes rule B f h = entries_marking (holds_pair bytes rule) B.count B.bytes (omega (arith, f.within)) h

-- what a call may make of the used entries
pub record OneMore (bytes : List ℕ) (rule : ℕ) (es fs : List Entry) : Type 0 where
  pub not_held : find Arbiter bytes rule es ≡ 0
  pub is : fs ≡ storing (new_entry bytes rule (value_number rule bytes)) es

abbrev pub Change : BookCall → (es fs : List Entry) → Type 0
Change (Lookup who bytes rule) es fs = fs ≡ es
Change (Add who bytes words rule L) es fs = (fs ≡ es) ⊎ OneMore bytes rule es fs
Change (Publish who bytes rule) es fs = (fs ≡ es) ⊎ (fs ≡ mark_first (holds_pair bytes rule) es)

-- and it leaves a book that fits as one that fits
pub record Changed (c : BookCall) (B C : Book) : Type 0 where
  pub step : Change c (used B) (used C)
  pub fits_still : Fits B → Fits C

add_changed : (who : Caller) (bytes : List ℕ) (words rule : ℕ) (L : Limits) (B : Book) → Changed (Add who bytes words rule L) B (add_call who bytes words rule L B).left
add_changed who bytes words rule L B =
    add_ways (λ o. Changed (Add who bytes words rule L) B o.left) who bytes words rule L B (λ n. same) (λ v p e. same)
    (λ s. go s (searched_verdict bytes words rule L) (search_value bytes words rule L s.passed.accepted))
  where
    same : Changed (Add who bytes words rule L) B B
    same = record { step = inl refl; fits_still = λ f. f }

    go : AddSearches bytes words rule L B → (v : ℕ) → ((v ≡ 0 → ⊥) → v ≡ value_number rule bytes) → Changed (Add who bytes words rule L) B (stored_in B bytes rule v)
    go s zero h = same
    go s (suc v) h =
        let w = loads_length bytes s.passed.accepted.loads in
        let f = s.passed.book_fits in
        record {
          step = inr (record { not_held = s.not_held; is = used_stored B f bytes rule v w ∙ ap (λ x. storing (new_entry bytes rule x) (used B)) (h (λ q. omega arith)) });
          fits_still = λ g. fits_stored B f bytes rule v w s.not_full;
        }

publish_changed : (who : Caller) (bytes : List ℕ) (rule : ℕ) (B : Book) → Changed (Publish who bytes rule) B (publish_call who bytes rule B).left
publish_changed who bytes rule B =
    publish_ways (λ o. Changed (Publish who bytes rule) B o.left) who bytes rule B (λ n. same) (λ p h. same)
    (λ e h. record { step = inr (used_marked bytes rule B (publish_passed who bytes rule B e).book_fits h); fits_still = λ f. fits_marked B f (place (holds_pair bytes rule) (used B)) })
  where
    same : Changed (Publish who bytes rule) B B
    same = record { step = inl refl; fits_still = λ f. f }

pub changed : (c : BookCall) (B : Book) → Changed c B (outcome_of c B).left
changed (Lookup who bytes rule) B = lookup_ways (λ o. Changed (Lookup who bytes rule) B o.left) who bytes rule B (λ n. same) (λ h. same)
  where
    same : Changed (Lookup who bytes rule) B B
    same = record { step = refl; fits_still = λ f. f }
changed (Add who bytes words rule L) B = add_changed who bytes words rule L B
changed (Publish who bytes rule) B = publish_changed who bytes rule B

-- a refusal leaves the book as it was
pub as_it_was : (c : BookCall) (B : Book) → ((outcome_of c B).number ≡ 0 → ⊥) → (outcome_of c B).left ≡ B
as_it_was (Lookup who bytes rule) B = lookup_ways (λ o. (o.number ≡ 0 → ⊥) → o.left ≡ B) who bytes rule B (λ n z. refl) (λ h z. refl)
as_it_was (Add who bytes words rule L) B = add_ways (λ o. (o.number ≡ 0 → ⊥) → o.left ≡ B) who bytes words rule L B (λ n z. refl) (λ v p e z. refl) (λ s z. absurd (z refl))
as_it_was (Publish who bytes rule) B = publish_ways (λ o. (o.number ≡ 0 → ⊥) → o.left ≡ B) who bytes rule B (λ n z. refl) (λ p h z. refl) (λ p h z. absurd (z refl))

-- a pair that is held
held_answer : (who : Caller) (bytes : List ℕ) (words rule : ℕ) (L : Limits) (B : Book) → add_refusal who bytes (nodes words) rule L B ≡ 0 → (find Arbiter bytes rule (used B) ≡ 0 → ⊥)
    → add_call who bytes words rule L B ≡ unsearched B (find Arbiter bytes rule (used B))
unfolding add_call
held_answer who bytes words rule L B e n = rw e (sym (refused_by (unsearched B) _ _ _ refl n))

-- AN ADD, to any book
pub add_statement : (who : Caller) (bytes : List ℕ) (words rule : ℕ) (L : Limits) (B : Book) → AddStatement who bytes words rule L B
add_statement who bytes words rule L B = record {
  held = held_answer who bytes words rule L B;
  as_search = add_ways (λ o. o.searched ≡ true → (r : Result) → search_call bytes words rule L ≡ Answered r → o.answer ≡ verdict_number r.verdict) who bytes words rule L B
      (λ n h. absurd (false≢true h)) (λ v p e h. absurd (false≢true h)) (λ s h r q. ap (λ (x : Result). verdict_number x.verdict) (sym (answered bytes words rule L r q).1));
  stores = add_ways (λ o. o.searched ≡ true → (o.answer ≡ 0 → ⊥) → (length bytes ≡ 21) × (B.count < size B) × (o.left ≡ one_written B bytes rule o.answer)) who bytes words rule L B
      (λ n h. absurd (false≢true h)) (λ v p e h. absurd (false≢true h)) (λ s h. one s (searched_verdict bytes words rule L));
  none_stored = add_ways (λ o. o.answer ≡ 0 → o.left ≡ B) who bytes words rule L B (λ n z. refl) (λ v p e z. refl) (λ s. none (searched_verdict bytes words rule L));
  unsearched_as_it_was = add_ways (λ o. o.searched ≡ false → o.left ≡ B) who bytes words rule L B (λ n h. refl) (λ v p e h. refl) (λ s h. absurd (true≢false h));
}
  where
    one : AddSearches bytes words rule L B → (v : ℕ) → (v ≡ 0 → ⊥) → (length bytes ≡ 21) × (B.count < size B) × (stored_in B bytes rule v ≡ one_written B bytes rule v)
    one s zero n = absurd (n refl)
    one s (suc v) n =
        let written = stored_bytes (new_entry bytes rule (suc v)) B.count B.bytes (omega (arith, s.not_full)) in
        (loads_length bytes s.passed.accepted.loads, s.not_full, ap (λ x. book_of x (suc B.count)) written)

    none : (v : ℕ) → v ≡ 0 → stored_in B bytes rule v ≡ B
    none zero z = refl
    none (suc v) z = absurd (omega arith)

-- an add that searches, from the search's result
pub add_by_search : (who : Caller) (bytes : List ℕ) (words rule : ℕ) (L : Limits) (B : Book) (r : Result) → add_refusal who bytes (nodes words) rule L B ≡ 0 → find Arbiter bytes rule (used B) ≡ 0
    → leb (size B) B.count ≡ false → plain_search rule (settings words L) bytes ≡ r → add_call who bytes words rule L B ≡ after_search B bytes rule (verdict_number r.verdict)
unfolding add_call
add_by_search who bytes words rule L B r a f l e = rw (a, f, l, e)
