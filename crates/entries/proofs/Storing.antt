-- The loop that writes a new entry. Rests on Entries and Buffers.
use Rattle.std.specs.Prelude.{◌≡◌, refl, List, ◌∷◌, ◌++◌, ℕ, suc, ◌+◌, ◌*◌, ◌≤◌, ◌<◌, length, take, drop, get_or, set}
use Rattle.std.proofs.Common.{sym, ap, ◌∙◌, append_assoc, arith, add-one, length-set, drop-cons, take_all}
use Rattle.std.proofs.Math.Seq.{paste, paste-zero, paste-suc, length_paste_head}
use Rattle.std.proofs.lemmas.List.{set_at}
use Rattle.entries.specs.Entries.{entries, with_entries, new_entry, storing}
use Rattle.entries.proofs.Buffers.{stored_bytes}

-- the first j bytes of a record are copied to a place of the book
pub record Copying (before bytes : List ℕ) (at j : ℕ) (book : List ℕ) : Type 0 where
  pub within : j ≤ 21
  pub is : book ≡ paste before at bytes j
  pub long : length book ≡ length before

pub copying_start : (book bytes : List ℕ) (at : ℕ) → Copying book bytes at 0 book
copying_start book bytes at = record { within = omega arith; is = paste-zero book at bytes; long = refl }

module _ (before bytes book : List ℕ) (at j : ℕ) (w : length bytes ≡ 21) (f : at + 22 ≤ length before) (c : Copying before bytes at j book) where
  pub copying_next : j < 21 → Copying before bytes at (j + 1) (set book (at + j) (get_or bytes j 0))
  copying_next h = record {
    within = omega arith;
    is = rw add-one (ap (λ x. set x (at + j) (get_or bytes j 0)) c.is ∙ paste-suc before at bytes j 0 (omega arith) (omega arith));
    long = length-set book (at + j) (get_or bytes j 0) ∙ c.long;
  }

  -- all 21 are copied, and the last byte is stored
  copying_end : 21 ≤ j → (x : ℕ) → set book (at + 21) x ≡ take at before ++ (bytes ++ (x ∷ drop (suc (at + 21)) before))
  copying_end h x =
      let k : j ≡ 21 = omega (arith, c.within) in
      let rest = drop (suc (at + 21)) before in
      let p : List ℕ = take at before ++ take 21 bytes in
      ap (λ b. set b (at + 21) x) (c.is ∙ ap (paste before at bytes) k)
      ∙ ap (λ r. set (p ++ r) (at + 21) x) (drop-cons before (at + 21) 0 (omega arith))
      ∙ set_at p (get_or before (at + 21) 0) rest x (at + 21) (length_paste_head before at bytes 21 (omega arith) (omega arith))
      ∙ append_assoc (take at before) (take 21 bytes) (x ∷ rest)
      ∙ ap (λ b. take at before ++ (b ++ (x ∷ rest))) (take_all 21 bytes (omega arith))

pub stored_entry : (before bytes book : List ℕ) (count j rule v x : ℕ) → length bytes ≡ 21 → count * 22 + 22 ≤ length before → Copying before bytes (count * 22) j book → 21 ≤ j
    → x ≡ (new_entry bytes rule v).last → set book (count * 22 + 21) x ≡ with_entries (storing (new_entry bytes rule v) (entries count before)) before
stored_entry before bytes book count j rule v x w f c h e =
    let n : suc (count * 22 + 21) ≡ suc count * 22 = omega arith in
    copying_end before bytes book (count * 22) j w f c h x ∙ rw (n, e) (sym (stored_bytes (new_entry bytes rule v) count before (omega arith)))
