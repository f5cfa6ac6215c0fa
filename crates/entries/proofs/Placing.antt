-- The first entry that a test picks, by its place: its verdict, and the entries of a buffer after its mark was set. Rests on Entries and Buffers.
use Rattle.std.specs.Prelude.{◌≡◌, refl, Bool, true, false, cond, List, [], ◌∷◌, ℕ, zero, suc, ◌+◌, ◌*◌, ◌≤◌, ◌<◌, length, drop, get_or}
use Rattle.std.proofs.Math.Path.{sym}
use Rattle.std.proofs.Common.{ap, ◌∙◌, arith, length-drop, get_or-drop, drop-set-lt, get_or-set_same, get_or-set_other}
use Rattle.std.proofs.lemmas.List.{take-set-le, drop-set-add}
use Rattle.entries.specs.Entries.{Entry, entry_of, entries, verdict_bits, answers, first_verdict, find, place, with_mark, marking}
use Rattle.entries.proofs.Buffers.{length_entries}
use Rattle.entries.specs.declared.Caller.{Caller}

-- an entry with the mark; entries with it in the first that a test picks
abbrev pub marked : Entry → Entry
marked e = record { bytes = e.bytes; last = with_mark e.last }

abbrev pub mark_first : (Entry → Bool) → List Entry → List Entry
mark_first t [] = []
mark_first t (e ∷ es) = cond (t e) (marked e ∷ es) (e ∷ mark_first t es)

module _ (t : Entry → Bool) where
  -- if none is picked no verdict is found
  pub none_picked : (es : List Entry) → length es ≤ place t es → first_verdict t es ≡ 0
  none_picked [] h = refl
  none_picked (e ∷ es) h = go (t e) h (none_picked es)
    where
      go : (b : Bool) → suc (length es) ≤ cond b 0 (suc (place t es)) → (length es ≤ place t es → first_verdict t es ≡ 0) → cond b (verdict_bits e.last) (first_verdict t es) ≡ 0
      go true h r = absurd (omega arith)
      go false h r = r (omega arith)

  -- and if none is found none is picked, where every entry that the test picks has one
  pub none_found : ((e : Entry) → t e ≡ true → verdict_bits e.last ≡ 0 → ⊥) → (es : List Entry) → first_verdict t es ≡ 0 → length es ≤ place t es
  none_found p [] z = omega arith
  none_found p (e ∷ es) z = go (t e) refl z (none_found p es)
    where
      go : (b : Bool) → t e ≡ b → cond b (verdict_bits e.last) (first_verdict t es) ≡ 0 → (first_verdict t es ≡ 0 → length es ≤ place t es) → suc (length es) ≤ cond b 0 (suc (place t es))
      go true q z r = absurd (p e q z)
      go false q z r = let l = r z in omega (arith, l)

  -- its verdict
  first_at : (n : ℕ) (book : List ℕ) → let i = place t (entries n book) in i < n → verdict_bits (get_or book (i * 22 + 21) 0) ≡ first_verdict t (entries n book)
  first_at zero book h = absurd (omega arith)
  first_at (suc n) book h = go (t (entry_of book)) (place t (entries n (drop 22 book))) h (first_at n (drop 22 book))
    where
      go : (b : Bool) (i : ℕ) → cond b 0 (suc i) < suc n → (i < n → verdict_bits (get_or (drop 22 book) (i * 22 + 21) 0) ≡ first_verdict t (entries n (drop 22 book)))
          → verdict_bits (get_or book (cond b 0 (suc i) * 22 + 21) 0) ≡ cond b (verdict_bits (get_or book 21 0)) (first_verdict t (entries n (drop 22 book)))
      go true i h r = refl
      go false i h r =
          let e : suc i * 22 + 21 ≡ 22 + (i * 22 + 21) = omega arith in
          ap (λ k. verdict_bits (get_or book k 0)) e ∙ ap verdict_bits (sym (get_or-drop 22 book (i * 22 + 21) 0)) ∙ r (omega arith)

  -- the entries after its mark was set
  pub entries_marking : (n : ℕ) (book : List ℕ) → n * 22 ≤ length book → let i = place t (entries n book) in i < n → entries n (marking (i * 22) book) ≡ mark_first t (entries n book)
  entries_marking zero book f h = absurd (omega arith)
  entries_marking (suc n) book f h =
      go (t (entry_of book)) (place t (entries n (drop 22 book))) h (entries_marking n (drop 22 book) (omega (arith, length-drop 22 book)))
    where
      go : (b : Bool) (i : ℕ) → cond b 0 (suc i) < suc n → (i < n → entries n (marking (i * 22) (drop 22 book)) ≡ mark_first t (entries n (drop 22 book)))
          → entries (suc n) (marking (cond b 0 (suc i) * 22) book) ≡ cond b (marked (entry_of book) ∷ entries n (drop 22 book)) (entry_of book ∷ mark_first t (entries n (drop 22 book)))
      go true i h r =
          let x = with_mark (get_or book 21 0) in
          rw (take-set-le 21 book 21 x (omega arith), get_or-set_same book 21 x 0 (omega arith), drop-set-lt 22 book 21 x (omega arith))
      go false i h r =
          let k = i * 22 + 21 in
          let e : suc i * 22 + 21 ≡ 22 + k = omega arith in
          let x = with_mark (get_or book (22 + k) 0) in
          rw (e, take-set-le 21 book (22 + k) x (omega arith), get_or-set_other book (22 + k) 21 x 0 (λ q. omega arith), drop-set-add 22 book k x, ← get_or-drop 22 book k 0)
          (ap (λ es. entry_of book ∷ es) (r (omega arith)))

-- what a caller finds, by where the first entry that answers begins
module _ (who : Caller) (bytes : List ℕ) (rule n : ℕ) (book : List ℕ) {at : ℕ} (e : at ≡ place (answers who bytes rule) (entries n book) * 22) where
  pub find_at : at < n * 22 → verdict_bits (get_or book (at + 21) 0) ≡ find who bytes rule (entries n book)
  unfolding find
  find_at h = rw e (first_at (answers who bytes rule) n book (omega arith))

  pub find_none : n * 22 ≤ at → 0 ≡ find who bytes rule (entries n book)
  unfolding find
  find_none h = sym (none_picked (answers who bytes rule) (entries n book) (omega (arith, length_entries n book)))
