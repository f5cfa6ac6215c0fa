-- The promises of trainers and of publishing, and all of the shared book's. Rests on TrainerStatement, Passing, Changes, Kept and the entries' laws.
use Rattle.std.specs.Prelude.{◌≡◌, Bool, true, false, List, [], ◌∷◌, ◌⊎◌, eqb, ltb, get_or}
use Rattle.std.proofs.Math.Path.{refl, ap}
use Rattle.std.proofs.Common.{sym, ◌∙◌, inl, inr, arith, get_or-set_same}
use Prim.Native.Nat.{ℕ, zero, suc, ◌+◌, ◌*◌, ◌%◌, ◌≤◌, ◌<◌}
use borrow.Author.Tests.{eqb-true, eqb-false, lt-ltb, le-ltb}
use Rattle.std.proofs.Math.ListN.{set}
use Rattle.std.proofs.lemmas.List.{set-get_or}
use Rattle.std.proofs.Math.Seq.{set-set}
use Rattle.rules.proofs.Checks.{loads_length}
use Rattle.rules.specs.Record.{refusal}
use Rattle.rules.specs.Refusals.{refuses, first_refusal}
use Rattle.rules.proofs.RefusalLaws.{rest_refuses, last_refuses}
use Rattle.calls.specs.Calls.{last_rule, answer_unless}
use Rattle.searches.specs.Searches.{Limits}
use Rattle.entries.specs.Entries.{holds_pair, find, place, with_mark, marking}
use Rattle.entries.proofs.Buffers.{length_entries}
use Rattle.entries.specs.Published.{published_pairs}
use Rattle.entries.proofs.Placing.{mark_first}
use Rattle.entries.proofs.Marks.{marked_holds, place_marked, held_place, missing_place, find_marked, published_found, others_found}
use Rattle.entries.proofs.Trainers.{trainer_finds, trainer_alike, unpublished}
use Rattle.entries.specs.declared.Caller.{Caller}
use Rattle.entries.specs.declared.Caller.TheVariants.{Arbiter, Trainer}
use Rattle.book.specs.Book.{Book, book_of, BookOutcome, used, broken, refused, unsearched, lookup_refusal, lookup_call, add_refusal, searched_verdict, stored_in, add_call}
use Rattle.book.specs.Book.{publish_refusal, publish_call}
use Rattle.book.specs.Lists.{Publish}
use Rattle.book.specs.TrainerStatement.{leaving, TrainerStatement, OneBit, PublishStatement, SharedBookStatement}
use Rattle.book.proofs.Passing.{Fits, fits_unbroken, lookup_passed, looked_up, publish_passed, used_stored, fits_stored, fits_marked}
use Rattle.book.proofs.Kept.{book_statement}
use Rattle.book.proofs.Changes.{AddSearches, add_ways, publish_ways, used_marked, as_it_was}

-- two books that check 17 takes alike
module _ (B C : Book) (b : broken B ≡ broken C) where
  same_checks : (bytes : List ℕ) (rule : ℕ) → lookup_refusal bytes rule B ≡ lookup_refusal bytes rule C
  unfolding lookup_refusal
  same_checks bytes rule = ap (λ w. first_refusal (refusal bytes ∷ refuses 10 (ltb last_rule rule) ∷ refuses 17 w ∷ [])) b

  -- a lookup that finds the same answers alike
  lookup_alike : (who : Caller) (bytes : List ℕ) (rule : ℕ) → find who bytes rule (used B) ≡ find who bytes rule (used C) → lookup_call who bytes rule C ≡ leaving C (lookup_call who bytes rule B)
  unfolding lookup_call
  lookup_alike who bytes rule f = rw (same_checks bytes rule, f) (go (lookup_refusal bytes rule C) (find who bytes rule (used C)))
    where
      go : (n v : ℕ) → answer_unless n (refused C) (unsearched C v) ≡ leaving C (answer_unless n (refused B) (unsearched B v))
      go zero v = refl
      go (suc n) v = refl

both_fit : (B C : Book) → Fits B → Fits C → broken B ≡ broken C
both_fit B C f g = fits_unbroken B f ∙ sym (fits_unbroken C g)

-- a trainer's add and publish
trainer_adds : (bytes : List ℕ) (words rule : ℕ) (L : Limits) (B : Book) → add_call Trainer bytes words rule L B ≡ refused B 19
unfolding add_call add_refusal first_refusal
trainer_adds bytes words rule L B = refl

trainer_publishes : (bytes : List ℕ) (rule : ℕ) (B : Book) → publish_call Trainer bytes rule B ≡ refused B 19
unfolding publish_call publish_refusal first_refusal
trainer_publishes bytes rule B = refl

-- an arbiter's publish has a lookup's checks
arbiter_checks : (bytes : List ℕ) (rule : ℕ) (B : Book) → publish_refusal Arbiter bytes rule B ≡ lookup_refusal bytes rule B
unfolding publish_refusal
arbiter_checks bytes rule B = rest_refuses 0 (lookup_refusal bytes rule B ∷ []) refl ∙ last_refuses (lookup_refusal bytes rule B)

-- TRAINERS, with any two books
pub trainer_statement : (B C : Book) → TrainerStatement B C
trainer_statement B C = record {
  adds_nothing = λ bytes words rule L. trainer_adds bytes words rule L B;
  publishes_nothing = λ bytes rule. trainer_publishes bytes rule B;
  reads_published = λ bytes rule e. looked_up Trainer bytes rule B (lookup_passed bytes rule B e) ∙ ap (unsearched B) (trainer_finds bytes rule (used B));
  alike = λ b c h bytes rule. lookup_alike B C (b ∙ sym c) Trainer bytes rule (trainer_alike (used B) (used C) h bytes rule);
  add_unseen = λ who bytes words rule L.
      add_ways (λ o. (asked : List ℕ) (under : ℕ) → lookup_call Trainer asked under o.left ≡ leaving o.left (lookup_call Trainer asked under B)) who bytes words rule L B
      (λ n. same) (λ v p e. same) (λ s. stored bytes words rule L s (searched_verdict bytes words rule L));
}
  where
    same : (asked : List ℕ) (under : ℕ) → lookup_call Trainer asked under B ≡ leaving B (lookup_call Trainer asked under B)
    same asked under = lookup_alike B B refl Trainer asked under refl

    stored : (bytes : List ℕ) (words rule : ℕ) (L : Limits) → AddSearches bytes words rule L B → (v : ℕ) (asked : List ℕ) (under : ℕ)
        → let A = stored_in B bytes rule v in lookup_call Trainer asked under A ≡ leaving A (lookup_call Trainer asked under B)
    stored bytes words rule L s zero asked under = same asked under
    stored bytes words rule L s (suc v) asked under =
        let A = stored_in B bytes rule (suc v) in
        let w = loads_length bytes s.passed.accepted.loads in
        let f = s.passed.book_fits in
        let p = ap published_pairs (used_stored B f bytes rule v w) ∙ unpublished bytes rule (suc v) (used B) in
        lookup_alike B A (both_fit B A f (fits_stored B f bytes rule v w s.not_full)) Trainer asked under (trainer_alike (used B) (used A) (sym p) asked under)

-- a byte with the mark
mark_set : (b : ℕ) → b % 2 ≡ 0 → with_mark b ≡ suc b
mark_set b h = omega arith

mark_there : (b : ℕ) → (b % 2 ≡ 0 → ⊥) → with_mark b ≡ b
mark_there b h = let k : 0 < b % 2 = positive (b % 2) h in omega (arith, k)
  where
    positive : (n : ℕ) → (n ≡ 0 → ⊥) → 0 < n
    positive zero h = absurd (h refl)
    positive (suc n) h = omega arith

mark_again : (b : ℕ) → with_mark (with_mark b) ≡ with_mark b
mark_again b = omega arith

-- a pair that is held, and one that is not
module _ (who : Caller) (bytes : List ℕ) (rule : ℕ) (B : Book) (e : publish_refusal who bytes rule B ≡ 0) where
  publish_held : (find Arbiter bytes rule (used B) ≡ 0 → ⊥)
      → let i = place (holds_pair bytes rule) (used B) in (i < B.count) × (publish_call who bytes rule B ≡ unsearched (book_of (marking (i * 22) B.bytes) B.count) 1)
  unfolding publish_call
  publish_held n =
      let i = place (holds_pair bytes rule) (used B) in
      let h : i < B.count = omega (arith, held_place bytes rule (used B) n, length_entries B.count B.bytes) in
      (h, rw (e, lt-ltb i B.count h))

  publish_not_held : find Arbiter bytes rule (used B) ≡ 0 → publish_call who bytes rule B ≡ unsearched B 0
  unfolding publish_call
  publish_not_held z =
      let i = place (holds_pair bytes rule) (used B) in
      let h : B.count ≤ i = omega (arith, missing_place bytes rule (used B) z, length_entries B.count B.bytes) in
      rw (e, le-ltb i B.count h)

-- the book with a mark set: one bit was changed, or none
marked_bit : (B : Book) (i : ℕ) → Fits B → i < B.count → let C = book_of (marking (i * 22) B.bytes) B.count in (C ≡ B) ⊎ OneBit B C
marked_bit B i f h = go (eqb (get_or B.bytes (i * 22 + 21) 0 % 2) 0) refl
  where
    go : (t : Bool) → eqb (get_or B.bytes (i * 22 + 21) 0 % 2) 0 ≡ t → let C = book_of (marking (i * 22) B.bytes) B.count in (C ≡ B) ⊎ OneBit B C
    go true t =
        let e = eqb-true _ 0 t in
        inr (record { at = i * 22 + 21; within = omega (arith, f.within); was_0 = e; is_1 = ap (λ x. book_of (set B.bytes (i * 22 + 21) x) B.count) (mark_set _ e) })
    go false t = inl (ap (λ x. book_of x B.count) (ap (set B.bytes (i * 22 + 21)) (mark_there _ (eqb-false _ 0 t)) ∙ set-get_or B.bytes (i * 22 + 21) 0))

-- the book with the mark of a pair
module _ (who : Caller) (bytes : List ℕ) (rule : ℕ) (B : Book) (e : publish_refusal who bytes rule B ≡ 0) (h : place (holds_pair bytes rule) (used B) < B.count) where
  fitting : Fits B
  fitting = (publish_passed who bytes rule B e).book_fits

  marked_book : Book
  marked_book = book_of (marking (place (holds_pair bytes rule) (used B) * 22) B.bytes) B.count

  marked_fits : Fits marked_book
  unfolding marked_book
  marked_fits = fits_marked B fitting (place (holds_pair bytes rule) (used B))

  marked_used : used marked_book ≡ mark_first (holds_pair bytes rule) (used B)
  unfolding marked_book
  marked_used = used_marked bytes rule B fitting h

  marked_checks : publish_refusal who bytes rule marked_book ≡ 0
  unfolding publish_refusal
  marked_checks = rw (← same_checks B marked_book (both_fit B marked_book fitting marked_fits) bytes rule) e

  marked_again : publish_call who bytes rule marked_book ≡ unsearched marked_book 1
  unfolding publish_call marked_book
  marked_again =
      let i = place (holds_pair bytes rule) (used B) in
      let at = i * 22 + 21 in
      let p : place (holds_pair bytes rule) (used marked_book) ≡ i =
      ap (place (holds_pair bytes rule)) marked_used ∙ place_marked (holds_pair bytes rule) (holds_pair bytes rule) (λ x k. marked_holds bytes rule x) (used B) in
      let x = with_mark (get_or B.bytes at 0) in
      let w : marking (i * 22) (marking (i * 22) B.bytes) ≡ marking (i * 22) B.bytes =
      ap (λ y. set (marking (i * 22) B.bytes) at (with_mark y)) (get_or-set_same B.bytes at x 0 (omega (arith, fitting.within))) ∙ set-set B.bytes at x (with_mark x)
      ∙ ap (set B.bytes at) (mark_again (get_or B.bytes at 0)) in
      rw (marked_checks, p, lt-ltb i B.count h, w)

  marked_seen : lookup_call Trainer bytes rule marked_book ≡ unsearched marked_book (find Arbiter bytes rule (used B))
  marked_seen =
      let q = publish_passed who bytes rule B e in
      looked_up Trainer bytes rule marked_book (record { loaded = q.loaded; rule_most = q.rule_most; book_fits = marked_fits })
      ∙ ap (unsearched marked_book) (ap (find Trainer bytes rule) marked_used ∙ published_found bytes rule Trainer (used B))

  marked_alike : (asker : Caller) (asked : List ℕ) (under : ℕ) → find asker asked under (mark_first (holds_pair bytes rule) (used B)) ≡ find asker asked under (used B)
      → lookup_call asker asked under marked_book ≡ leaving marked_book (lookup_call asker asked under B)
  marked_alike asker asked under q =
      lookup_alike B marked_book (both_fit B marked_book fitting marked_fits) asker asked under (sym (ap (find asker asked under) marked_used ∙ q))

-- PUBLISHING, in any book
pub publish_statement : (who : Caller) (bytes : List ℕ) (rule : ℕ) (B : Book) → PublishStatement who bytes rule B
unfolding marked_book
publish_statement who bytes rule B = record {
  held = publish_held who bytes rule B;
  one_bit = ways (λ o. (o.left ≡ B) ⊎ OneBit B o.left) (λ n. inl refl) (inl refl) (λ e h. marked_bit B (place (holds_pair bytes rule) (used B)) (fitting who bytes rule B e h) h);
  not_held = publish_not_held who bytes rule B;
  checks = arbiter_checks bytes rule B;
  refused_as_it_was = as_it_was (Publish who bytes rule) B;
  again = ways (λ o. o.answer ≡ 1 → publish_call who bytes rule o.left ≡ unsearched o.left 1) (λ n z. absurd (omega arith)) (λ z. absurd (omega arith))
      (λ e h z. marked_again who bytes rule B e h);
  seen = ways (λ o. o.answer ≡ 1 → lookup_call Trainer bytes rule o.left ≡ unsearched o.left (find Arbiter bytes rule (used B))) (λ n z. absurd (omega arith)) (λ z. absurd (omega arith))
      (λ e h z. marked_seen who bytes rule B e h);
  as_before = ways (λ o. (asked : List ℕ) (under : ℕ) → lookup_call Arbiter asked under o.left ≡ leaving o.left (lookup_call Arbiter asked under B)) (λ n. same Arbiter) (same Arbiter)
      (λ e h asked under. marked_alike who bytes rule B e h Arbiter asked under (find_marked asked under (holds_pair bytes rule) (used B)));
  others_as_before =
      ways (λ o. (asked : List ℕ) (under : ℕ) → (asked ≡ bytes → under ≡ rule → ⊥) → lookup_call Trainer asked under o.left ≡ leaving o.left (lookup_call Trainer asked under B))
      (λ n asked under d. same Trainer asked under) (λ asked under d. same Trainer asked under)
      (λ e h asked under d. marked_alike who bytes rule B e h Trainer asked under (others_found bytes rule asked under d Trainer (used B)));
}
  where
    same : (asker : Caller) (asked : List ℕ) (under : ℕ) → lookup_call asker asked under B ≡ leaving B (lookup_call asker asked under B)
    same asker asked under = lookup_alike B B refl asker asked under refl

    ways : (P : BookOutcome → Type 0) → ((n : ℕ) → P (refused B (suc n))) → P (unsearched B 0)
        → (let i = place (holds_pair bytes rule) (used B) in publish_refusal who bytes rule B ≡ 0 → i < B.count → P (unsearched (book_of (marking (i * 22) B.bytes) B.count) 1))
        → P (publish_call who bytes rule B)
    ways P turned missing marks = publish_ways P who bytes rule B turned (λ e l. missing) marks

-- THE BOOK THAT ARBITERS AND TRAINERS SHARE
pub shared_book : SharedBookStatement
shared_book = record { trainers = trainer_statement; publishing = publish_statement; lists = book_statement }
