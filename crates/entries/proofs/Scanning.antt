-- Laws of specs/Scanning.antt. The scan of a book, as its loop goes: what the tests of an entry tell, and that the entries that are left decide which is the first. Rests on Entries.
use Rattle.std.specs.Prelude.{◌≡◌, refl, Bool, true, false, cond, ◌&&◌, ◌||◌, List, eqb, get_or}
use Rattle.std.proofs.Common.{sym, ◌∙◌, eq-eqb, ne_eqb}
use Rattle.std.proofs.Math.Path.{ap}
use Rattle.std.proofs.Math.Bool.{and-false}
use Prim.Native.Nat.{ℕ, zero, suc, ◌+◌, ◌*◌, ◌-◌, ◌≤◌, ◌<◌}
use native.Mathlib.Omega.{arith}
use Rattle.std.proofs.Math.ListN.{drop}
use Rattle.std.proofs.Math.Seq.{drop-drop, get_or-drop}
use Rattle.entries.specs.Entries.{Entry, entry_of, entries, rule_bits, verdict_bits, may_read, has_verdict, same_bytes, holds_rule, holds_pair, answers, place}
use Rattle.entries.specs.declared.Caller.{Caller}
use Rattle.entries.specs.Scanning.{record_at}

module _ (last : ℕ) where
  pub verdict_below_one : verdict_bits last < 1 → false ≡ has_verdict last
  verdict_below_one h = rw (ne_eqb (verdict_bits last) 1 (λ e. omega arith), ne_eqb (verdict_bits last) 2 (λ e. omega arith))

  pub verdict_above : 2 < verdict_bits last → false ≡ has_verdict last
  verdict_above h = rw (ne_eqb (verdict_bits last) 1 (λ e. omega arith), ne_eqb (verdict_bits last) 2 (λ e. omega arith))

  pub verdict_within : 1 ≤ verdict_bits last → verdict_bits last ≤ 2 → true ≡ has_verdict last
  verdict_within l m = go (verdict_bits last) l m
    where
      go : (v : ℕ) → 1 ≤ v → v ≤ 2 → true ≡ (eqb v 1 || eqb v 2)
      go zero l m = absurd (omega arith)
      go (suc zero) l m = refl
      go (suc (suc zero)) l m = refl
      go (suc (suc (suc v))) l m = absurd (omega arith)

module _ (rule last : ℕ) where
  pub other_rule : (rule_bits last ≡ rule → ⊥) → false ≡ holds_rule rule last
  unfolding holds_rule
  other_rule n = rw (ne_eqb (rule_bits last) rule n)

  pub own_rule : rule_bits last ≡ rule → (b : Bool) → b ≡ has_verdict last → b ≡ holds_rule rule last
  unfolding holds_rule
  own_rule e b h = rw (eq-eqb (rule_bits last) rule e) h

-- what the test of the caller tells, of a last byte that holds the rule and of one that doesn't
pub if_read : (b h : Bool) → true ≡ h → b ≡ (b && h)
if_read true h e = e
if_read false h e = refl

pub none_read : (b h : Bool) → false ≡ h → false ≡ (b && h)
none_read b h e = rw (← e, and-false b)

module _ (who : Caller) (book bytes : List ℕ) (at rule : ℕ) where
  pub other_record : false ≡ same_bytes (record_at book at) bytes → false ≡ answers who bytes rule (entry_of (drop at book))
  unfolding holds_pair
  other_record e = rw (← e, and-false (may_read who (get_or (drop at book) 21 0)))

  pub own_record : true ≡ same_bytes (record_at book at) bytes → (b : Bool) → (let last = get_or book (at + 21) 0 in b ≡ (may_read who last && holds_rule rule last))
      → b ≡ answers who bytes rule (entry_of (drop at book))
  unfolding holds_pair
  own_record e b h = rw (← e, get_or-drop at book 21 0) h

-- the first entry that a test picks lies after the first i, which end at a place
pub record Scanning (test : Entry → Bool) (book : List ℕ) (count at : ℕ) : Type 0 where
  pub i : ℕ
  pub at_is : at ≡ i * 22
  pub within : i ≤ count
  pub same : place test (entries count book) ≡ i + place test (entries (count - i) (drop (i * 22) book))

module _ (test : Entry → Bool) (book : List ℕ) (count : ℕ) where
  pub scanning_start : Scanning test book count 0
  scanning_start =
      let e : count - 0 ≡ count = omega arith in
      let p : place test (entries count book) ≡ place test (entries (count - 0) (drop (0 * 22) book)) = ap (λ k. place test (entries k book)) (sym e) in
      record { i = 0; at_is = omega arith; within = omega arith; same = omega (arith, p) }

  module _ (at : ℕ) (s : Scanning test book count at) where
    module _ (h : at < count * 22) where
      left : ℕ
      left = place test (entries (count - suc s.i) (drop (suc s.i * 22) book))

      below : s.i < count
      below = omega (arith, s.at_is, h)

      next_entry : place test (entries count book) ≡ s.i + cond (test (entry_of (drop at book))) 0 (suc left)
      unfolding left
      next_entry =
          let i = s.i in
          let e : count - i ≡ suc (count - suc i) = omega (arith, below) in
          let n : i * 22 + 22 ≡ suc i * 22 = omega arith in
          let d : drop 22 (drop (i * 22) book) ≡ drop (suc i * 22) book = drop-drop 22 (i * 22) book ∙ ap (λ k. drop k book) n in
          s.same ∙ rw (e, d, ← s.at_is)

      pub scanning_found : test (entry_of (drop at book)) ≡ true → at ≡ place test (entries count book) * 22
      scanning_found t = let e : place test (entries count book) ≡ s.i + 0 = next_entry ∙ rw t in omega (arith, e, s.at_is)

      pub scanning_next : test (entry_of (drop at book)) ≡ false → Scanning test book count (at + 22)
      unfolding left
      scanning_next t =
          let e : place test (entries count book) ≡ s.i + suc left = next_entry ∙ rw t in
          record { i = suc s.i; at_is = omega (arith, s.at_is); within = below; same = omega (arith, e) }

    pub scanning_end : count * 22 ≤ at → count * 22 ≡ place test (entries count book) * 22
    scanning_end h =
        let w = s.within in
        let c : s.i ≡ count = omega (arith, s.at_is, h, w) in
        let e : count - s.i ≡ 0 = omega (arith, c) in
        let p : place test (entries count book) ≡ s.i + 0 = s.same ∙ rw e in
        omega (arith, c, p)
