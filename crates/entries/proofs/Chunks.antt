-- A book's entries as the code has them: the first so many arrays of 22 bytes; the first of them that a test picks; and its verdict. Rests on Entries, Finding and Placing.
use Rattle.std.specs.Prelude.{◌≡◌, refl, Bool, true, false, cond, not, ◌||◌, List, [], ◌∷◌, ◌⊎◌, Option, Some, None, MatchOption, ℕ, zero, suc, ◌+◌, ◌*◌, ◌/◌, ◌%◌, ◌≤◌, ◌<◌, eqb, ltb, length, take, drop}
use Rattle.std.proofs.Common.{sym, ap, ◌∙◌, inl, inr, arith, lt-ltb, le-ltb, get_or-take}
use Rattle.std.proofs.lemmas.List.{drop-take, take-take}
use Rattle.std.proofs.Math.Decide.{dec_lt, ℕ_discrete}
use Rattle.std.specs.Option.{is_some}
use Rattle.std.specs.List.{position_or_len}
use Rattle.std.specs.Simd.{first_chunks}
use Rattle.entries.specs.Entries.{Entry, entry_of, entries, verdict_bits, has_verdict, verdict_in, found_number, find, place}
use Rattle.entries.proofs.Buffers.{All, length_entries}
use Rattle.entries.proofs.Finding.{IsVerdict, find_of}
use Rattle.entries.specs.declared.Caller.{Caller}

pub length_first_chunks : (n : ℕ) (b : List ℕ) → length (first_chunks 22 n b) ≡ n
length_first_chunks zero b = refl
length_first_chunks (suc n) b = ap suc (length_first_chunks n (drop 22 b))

-- the chunks of so many bytes are those of the whole
pub first_chunks-take : (n : ℕ) (b : List ℕ) → first_chunks 22 n (take (n * 22) b) ≡ first_chunks 22 n b
first_chunks-take zero b = refl
first_chunks-take (suc n) b =
    let e : suc n * 22 ≡ 22 + n * 22 = omega arith in
    rw (e, take-take 22 (22 + n * 22) b (omega arith), drop-take 22 (n * 22) b, first_chunks-take n (drop 22 b))

-- the first chunk that a test picks is the first entry that it picks
pub chunks_place : (t : Entry → Bool) (n : ℕ) (b : List ℕ) → position_or_len (λ c. t (entry_of c)) (first_chunks 22 n b) ≡ place t (entries n b)
chunks_place t zero b = refl
chunks_place t (suc n) b = rw (take-take 21 22 b (omega arith), get_or-take 22 b 21 0 (omega arith), chunks_place t n (drop 22 b)) (go (t (entry_of b)))
  where
    go : (x : Bool) → cond (not x) (1 + place t (entries n (drop 22 b))) 0 ≡ cond x 0 (suc (place t (entries n (drop 22 b))))
    go true = refl
    go false = omega arith

place_most : (t : Entry → Bool) (es : List Entry) → place t es ≤ length es
place_most t [] = omega arith
place_most t (e ∷ es) = go (t e) (place_most t es)
  where
    go : (b : Bool) → place t es ≤ length es → cond b 0 (suc (place t es)) ≤ suc (length es)
    go true h = omega arith
    go false h = omega arith

-- where the code's search ends
pub first_placed : (t : Entry → Bool) (n : ℕ) (b : List ℕ) (r : Option ℕ)
    → (let cs = first_chunks 22 n b in let i = position_or_len (λ c. t (entry_of c)) cs in r ≡ cond (ltb i (length cs)) (Some i) None)
    → MatchOption r (place t (entries n b) ≡ n) (λ i. (i < n) × (i ≡ place t (entries n b)))
first_placed t n b r e = rw (e, chunks_place t n b, length_first_chunks n b) (go (dec_lt (place t (entries n b)) n))
  where
    go : Dec (place t (entries n b) < n)
        → MatchOption (cond (ltb (place t (entries n b)) n) (Some (place t (entries n b))) None) (place t (entries n b) ≡ n) (λ i. (i < n) × (i ≡ place t (entries n b)))
    go (yes l) = rw (lt-ltb (place t (entries n b)) n l) (l, refl)
    go (no m) = rw (le-ltb (place t (entries n b)) n (omega (arith, m))) (omega (arith, m, place_most t (entries n b), length_entries n b))

-- every entry has what is asked of none
any_entry : (es : List Entry) → All (λ e. Unit {0}) es
any_entry [] = tt
any_entry (e ∷ es) = (tt, any_entry es)

number_of : (last v : ℕ) → verdict_bits last ≡ v → (v ≡ 0) ⊎ IsVerdict v → found_number (verdict_in last) ≡ v
number_of last v e (inl z) = let q : last / 16 % 4 ≡ 0 = e ∙ z in rw q (sym z)
number_of last v e (inr (inl p)) = let q : last / 16 % 4 ≡ 1 = e ∙ p in rw q (sym p)
number_of last v e (inr (inr p)) = let q : last / 16 % 4 ≡ 2 = e ∙ p in rw q (sym p)

-- the verdict that a caller finds has the number that is found
pub verdict_found : (who : Caller) (bytes : List ℕ) (rule : ℕ) (es : List Entry) (last : ℕ) → verdict_bits last ≡ find who bytes rule es → found_number (verdict_in last) ≡ find who bytes rule es
verdict_found who bytes rule es last e = number_of last (find who bytes rule es) e (go (ℕ_discrete (find who bytes rule es) 0))
  where
    go : Dec (find who bytes rule es ≡ 0) → (find who bytes rule es ≡ 0) ⊎ IsVerdict (find who bytes rule es)
    go (yes z) = inl z
    go (no n) = let f = find_of bytes rule who (λ e. Unit {0}) es (any_entry es) n in inr (rw (← f.2) f.1.verdict)

-- the test of a last byte: its verdict is there
pub verdict_held : (last : ℕ) → is_some (verdict_in last) ≡ has_verdict last
verdict_held last = go (eqb (verdict_bits last) 1) (eqb (verdict_bits last) 2)
  where
    go : (a b : Bool) → is_some (cond a (Some true) (cond b (Some false) None)) ≡ (a || b)
    go true b = refl
    go false true = refl
    go false false = refl
