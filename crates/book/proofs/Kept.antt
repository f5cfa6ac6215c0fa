-- The book's statement, of every list of calls from an empty book: each call keeps every stored verdict the value and keeps what is found, so lists of calls do.
-- Rests on BookStatement, Passing, Changes and the entries' laws.
use Rattle.std.specs.Prelude.{◌≡◌, refl, Bool, true, false, cond, List, [], ◌∷◌, ◌++◌, map, ℕ, zero, suc}
use Rattle.std.proofs.Common.{sym, ap, ◌∙◌, subst, append-nil, append_assoc, inl, inr}
use Rattle.rules.proofs.Checks.{loads_length}
use Rattle.plain.specs.Plain.{record_value}
use Rattle.calls.specs.Calls.{value_number}
use Rattle.searches.specs.Searches.{Limits}
use Rattle.entries.specs.Entries.{Entry, rule_bits, verdict_bits, holds_pair, find, new_entry, storing}
use Rattle.entries.proofs.Buffers.{All, all_storing}
use Rattle.entries.proofs.Placing.{marked, mark_first}
use Rattle.entries.proofs.Marks.{mark_rule, mark_verdict, all_marked, find_marked}
use Rattle.entries.specs.declared.Caller.{Caller}
use Rattle.entries.specs.declared.Caller.TheVariants.{Arbiter}
use Rattle.entries.proofs.Finding.{IsVerdict, verdict_few, new_rule, new_verdict, find_of, find_still, find_stored}
use Rattle.book.specs.Book.{Book, BookOutcome, used, unsearched, searched_verdict, after_search, add_call}
use Rattle.book.specs.Lists.{BookCall, Lookup, Add, Publish, outcome_of, after_calls, empty_book}
use Rattle.book.specs.BookStatement.{BookStatement}
use Rattle.book.proofs.Passing.{Fits, LookupPassed, looked_up, used_stored, fits_stored}
use Rattle.book.proofs.Changes.{search_value, AddSearches, add_ways, lookup_ways, Change, changed, as_it_was}

value_verdict : (bytes : List ℕ) (rule : ℕ) → IsVerdict (value_number rule bytes)
value_verdict bytes rule = go (record_value rule bytes)
  where
    go : (b : Bool) → IsVerdict (cond {A = ℕ} b 1 2)
    go true = inl refl
    go false = inr refl

-- an entry with a verdict has the value of its record under its rule
Right : Entry → Type 0
Right e = IsVerdict (verdict_bits e.last) → verdict_bits e.last ≡ value_number (rule_bits e.last) e.bytes

right_new : (bytes : List ℕ) (rule : ℕ) → Right (new_entry bytes rule (value_number rule bytes))
unfolding Right
right_new bytes rule h =
    let v = value_number rule bytes in
    let few = verdict_few v (value_verdict bytes rule) in
    new_verdict bytes rule v few ∙ ap (λ r. value_number r bytes) (sym (new_rule bytes rule v few))

right_marked : (e : Entry) → Right e → Right (marked e)
unfolding Right
right_marked e r h = rw (mark_verdict e.last, mark_rule e.last) (r (subst IsVerdict (mark_verdict e.last) h))

-- every call keeps the stored verdicts right
right_still : (c : BookCall) (es fs : List Entry) → Change c es fs → All Right es → All Right fs
right_still (Lookup who bytes rule) es fs e r = subst (All Right) (sym e) r
right_still (Add who bytes words rule L) es fs (inl e) r = subst (All Right) (sym e) r
right_still (Add who bytes words rule L) es fs (inr s) r = subst (All Right) (sym s.is) (all_storing Right es _ r (right_new bytes rule))
right_still (Publish who bytes rule) es fs (inl e) r = subst (All Right) (sym e) r
right_still (Publish who bytes rule) es fs (inr e) r = subst (All Right) (sym e) (all_marked Right (holds_pair bytes rule) right_marked es r)

-- what is found among right verdicts is the value
found_value : (who : Caller) (bytes : List ℕ) (rule : ℕ) (es : List Entry) → All Right es → (find who bytes rule es ≡ 0 → ⊥) → find who bytes rule es ≡ value_number rule bytes
unfolding Right
found_value who bytes rule es r n =
    let f = find_of bytes rule who Right es r n in
    let h = f.1 in
    sym f.2 ∙ f.3 h.verdict ∙ ap (value_number (rule_bits f.0.last)) h.record_same ∙ ap (λ r. value_number r bytes) h.rule_same

-- every call keeps what an arbiter finds for a pair that is held
module _ (bytes : List ℕ) (rule : ℕ) where
  found_still : (c : BookCall) (es fs : List Entry) → Change c es fs → (find Arbiter bytes rule es ≡ 0 → ⊥) → find Arbiter bytes rule fs ≡ find Arbiter bytes rule es
  found_still (Lookup who b r) es fs e n = ap (find Arbiter bytes rule) e
  found_still (Add who b words r L) es fs (inl e) n = ap (find Arbiter bytes rule) e
  found_still (Add who b words r L) es fs (inr s) n = ap (find Arbiter bytes rule) s.is ∙ find_still bytes rule es _ n
  found_still (Publish who b r) es fs (inl e) n = ap (find Arbiter bytes rule) e
  found_still (Publish who b r) es fs (inr e) n = ap (find Arbiter bytes rule) e ∙ find_marked bytes rule (holds_pair b r) es

  -- and so along a list of calls
  found_after : (cs : List BookCall) (B : Book) → (find Arbiter bytes rule (used B) ≡ 0 → ⊥) → find Arbiter bytes rule (used (after_calls cs B)) ≡ find Arbiter bytes rule (used B)
  found_after [] B n = refl
  found_after (c ∷ cs) B n =
      let e = found_still c (used B) (used (outcome_of c B).left) (changed c B).step n in
      found_after cs (outcome_of c B).left (λ z. n (sym e ∙ z)) ∙ e

right_after : (cs : List BookCall) (B : Book) → All Right (used B) → All Right (used (after_calls cs B))
right_after [] B r = r
right_after (c ∷ cs) B r = right_after cs (outcome_of c B).left (right_still c (used B) (used (outcome_of c B).left) (changed c B).step r)

fits_after : (cs : List BookCall) (B : Book) → Fits B → Fits (after_calls cs B)
fits_after [] B f = f
fits_after (c ∷ cs) B f = fits_after cs (outcome_of c B).left ((changed c B).fits_still f)

-- after an add with a verdict: a lookup of the pair passes its checks and finds the verdict
record Findable (bytes : List ℕ) (rule : ℕ) (o : BookOutcome) : Type 0 where
  pub passes : LookupPassed bytes rule o.left
  pub is_found : find Arbiter bytes rule (used o.left) ≡ o.answer

findable : (who : Caller) (bytes : List ℕ) (words rule : ℕ) (L : Limits) (B : Book) → ((add_call who bytes words rule L B).answer ≡ 0 → ⊥)
    → Findable bytes rule (add_call who bytes words rule L B)
findable who bytes words rule L B =
    add_ways (λ o. (o.answer ≡ 0 → ⊥) → Findable bytes rule o) who bytes words rule L B
    (λ n z. absurd (z refl))
    (λ v p e z. record { passes = record { loaded = p.accepted.loads; rule_most = p.accepted.rule_most; book_fits = p.book_fits }; is_found = e })
    (λ s. go s (searched_verdict bytes words rule L) (search_value bytes words rule L s.passed.accepted))
  where
    go : AddSearches bytes words rule L B → (v : ℕ) → ((v ≡ 0 → ⊥) → v ≡ value_number rule bytes) → (v ≡ 0 → ⊥) → Findable bytes rule (after_search B bytes rule v)
    go s zero h n = absurd (n refl)
    go s (suc v) h n =
        let a = s.passed.accepted in
        let f = s.passed.book_fits in
        let w = loads_length bytes a.loads in
        record {
          passes = record { loaded = a.loads; rule_most = a.rule_most; book_fits = fits_stored B f bytes rule v w s.not_full };
          is_found = ap (find Arbiter bytes rule) (used_stored B f bytes rule v w) ∙ find_stored bytes rule (used B) (suc v) (subst IsVerdict (sym (h n)) (value_verdict bytes rule)) s.not_held;
        }

-- every bit of the used entries but their marks stays in its place, along a list of calls
module _ {A : Type 0} (f : Entry → A) (unmarked : (e : Entry) → f (marked e) ≡ f e) where
  map_marked : (t : Entry → Bool) (es : List Entry) → map f (mark_first t es) ≡ map f es
  map_marked t [] = refl
  map_marked t (e ∷ es) = go (t e) (map_marked t es)
    where
      go : (b : Bool) → map f (mark_first t es) ≡ map f es → map f (cond b (marked e ∷ es) (e ∷ mark_first t es)) ≡ f e ∷ map f es
      go true h = ap (λ x. x ∷ map f es) (unmarked e)
      go false h = ap (λ l. f e ∷ l) h

  map_stored : (es : List Entry) (e : Entry) → map f (storing e es) ≡ map f es ++ (f e ∷ [])
  map_stored [] e = refl
  map_stored (x ∷ es) e = ap (λ l. f x ∷ l) (map_stored es e)

  abbrev Begins : (es fs : List Entry) → Type 0
  Begins es fs = (later : List A) × (map f fs ≡ map f es ++ later)

  unchanged : (es fs : List Entry) → fs ≡ es → Begins es fs
  unchanged es fs e = ([], ap (map f) e ∙ sym (append-nil (map f es)))

  begins : (c : BookCall) (es fs : List Entry) → Change c es fs → Begins es fs
  begins (Lookup who bytes rule) es fs e = unchanged es fs e
  begins (Add who bytes words rule L) es fs (inl e) = unchanged es fs e
  begins (Add who bytes words rule L) es fs (inr s) = (_, ap (map f) s.is ∙ map_stored es _)
  begins (Publish who bytes rule) es fs (inl e) = unchanged es fs e
  begins (Publish who bytes rule) es fs (inr e) = ([], ap (map f) e ∙ map_marked (holds_pair bytes rule) es ∙ sym (append-nil (map f es)))

  pub stay_after : (cs : List BookCall) (B : Book) → Begins (used B) (used (after_calls cs B))
  stay_after [] B = unchanged (used B) (used B) refl
  stay_after (c ∷ cs) B =
      let C = (outcome_of c B).left in
      let one = begins c (used B) (used C) (changed c B).step in
      let more = stay_after cs C in
      (one.0 ++ more.0, more.1 ∙ ap (λ l. l ++ more.0) one.1 ∙ append_assoc (map f (used B)) one.0 more.0)

-- THE BOOK, of any buffer and any calls
pub book_statement : (buffer : List ℕ) (calls : List BookCall) → BookStatement buffer calls
book_statement buffer calls =
    let B = after_calls calls (empty_book buffer) in
    let r : All Right (used B) = right_after calls (empty_book buffer) tt in
    record {
      found = λ who bytes rule.
          lookup_ways (λ o. (o.answer ≡ 0 → ⊥) → o.answer ≡ value_number rule bytes) who bytes rule B (λ n z. absurd (z refl)) (λ h. found_value who bytes rule (used B) r);
      handed_out = λ who bytes words rule L n.
          let a = findable who bytes words rule L B n in
          let c = Add who bytes words rule L in
          let fs = used (outcome_of c B).left in
          let s : All Right fs = right_still c (used B) fs (changed c B).step r in
          sym a.is_found ∙ found_value Arbiter bytes rule fs s (λ z. n (sym a.is_found ∙ z));
      kept = λ who bytes words rule L later n.
          let a = findable who bytes words rule L B n in
          let o = add_call who bytes words rule L B in
          let C = after_calls later o.left in
          let p : LookupPassed bytes rule C = record { loaded = a.passes.loaded; rule_most = a.passes.rule_most; book_fits = fits_after later o.left a.passes.book_fits } in
          looked_up Arbiter bytes rule C p ∙ ap (unsearched C) (found_after bytes rule later o.left (λ z. n (sym a.is_found ∙ z)) ∙ a.is_found);
      refused_as_it_was = λ c. as_it_was c B;
    }
