-- Laws of specs/SameWords.antt. Records compared by three words, from bytes 0, 8 and 13 on: they are the same exactly if the words are. Rests on Entries, Finding and Scanning.
use Rattle.std.specs.Prelude.{◌≡◌, refl, Bool, true, false, List, ℕ, zero, suc, ◌+◌, ◌*◌, ◌-◌, ◌^◌, ◌≤◌, ◌<◌, eqb, length, take, drop, get_or}
use Rattle.std.proofs.Common.{sym, ap, ap₂, ◌∙◌, zero-add, add-zero, add-one, add-suc, suc-add, arith, eq-eqb, eqb-true, length-drop, ext_get_or, get_or-take, get_or-drop, length-take-le}
use Rattle.std.proofs.lemmas.Bool.{false≢true}
use Rattle.std.proofs.Math.Nat.{pow-succ', pow-zero}
use Rattle.std.proofs.Math.Decide.{dec_lt}
use Rattle.std.specs.Int.{w64, from_le_bytes, sum_through, byte_worth}
use Rattle.entries.specs.Entries.{same_bytes}
use Rattle.rules.proofs.Tests.{same_equal, same_self}
use Rattle.entries.specs.Scanning.{record_at}
use Rattle.entries.specs.SameWords.{little_endian, Alike, SameWord}

abbrev pub Bytes : List ℕ → Type 0
Bytes bs = (i : ℕ) → get_or bs i 0 < 256

-- n bytes and j after them
pub little_endian_more : (bs : List ℕ) (k n j : ℕ) → little_endian bs k (n + j) ≡ little_endian bs k n + little_endian bs (k + n) j * 256 ^ n
little_endian_more bs k zero j = rw (zero-add j, add-zero k, pow-zero 256) (omega arith)
little_endian_more bs k (suc n) j = rw (suc-add n j, little_endian_more bs (suc k) n j, pow-succ' 256 n, add-suc k n, suc-add k n) (omega arith)

pub little_endian_two : (bs : List ℕ) (k : ℕ) → get_or bs k 0 + get_or bs (k + 1) 0 * 256 ≡ little_endian bs k 2
little_endian_two bs k = let e : k + 1 ≡ suc k = omega arith in rw e (omega arith)

-- the library's number of eight bytes is the word that begins at the first
pub library_word : (bs ys : List ℕ) (k : ℕ) → k + 8 ≤ length bs → ys ≡ take 8 (take (length bs - k) (drop k bs)) → from_le_bytes w64 ys ≡ little_endian bs k 8
library_word bs ys k h e = sums 7 (λ i l. same i l)
  where
    same : (i : ℕ) → i ≤ 7 → get_or ys i 0 ≡ get_or bs (k + i) 0
    same i l =
        let a : i < 8 = omega arith in
        let b : i < length bs - k = omega arith in
        rw (e, get_or-take 8 (take (length bs - k) (drop k bs)) i 0 a, get_or-take (length bs - k) (drop k bs) i 0 b, get_or-drop)

    sums : (n : ℕ) → ((i : ℕ) → i ≤ n → get_or ys i 0 ≡ get_or bs (k + i) 0) → sum_through (λ i. byte_worth i (get_or ys i 0)) n ≡ little_endian bs k (suc n)
    sums zero f = omega (arith, rw (add-zero k) at (f 0 (omega arith)))
    sums (suc n) f =
        let more : little_endian bs k (suc (suc n)) ≡ little_endian bs k (suc n) + get_or bs (k + suc n) 0 * 256 ^ suc n =
        ap (little_endian bs k) (sym (add-one (suc n))) ∙ little_endian_more bs k (suc n) 1 ∙ ap (λ b. little_endian bs k (suc n) + b * 256 ^ suc n) (add-zero (get_or bs (k + suc n) 0)) in
        ap₂ (λ a b. a + b * 256 ^ suc n) (sums n (λ i l. f i (omega arith))) (f (suc n) (omega arith)) ∙ sym more

module _ (bs cs : List ℕ) where
  -- alike bytes make the same number, and only they do
  pub alike_little_endian : (j k n : ℕ) → Alike bs cs j k n → little_endian bs j n ≡ little_endian cs k n
  alike_little_endian j k zero h = refl
  alike_little_endian j k (suc n) h =
      let a : get_or bs j 0 ≡ get_or cs k 0 = rw (← add-zero j, ← add-zero k) (h 0 (omega arith)) in
      let b : little_endian bs (suc j) n ≡ little_endian cs (suc k) n = alike_little_endian (suc j) (suc k) n (λ i l. rw (suc-add j i, suc-add k i, ← add-suc j i, ← add-suc k i) (h (suc i) (omega arith))) in
      rw (a, b)

  pub little_endian_alike : Bytes bs → Bytes cs → (j k n : ℕ) → little_endian bs j n ≡ little_endian cs k n → Alike bs cs j k n
  little_endian_alike p q j k zero e i l = absurd (omega arith)
  little_endian_alike p q j k (suc n) e zero l = rw (add-zero j, add-zero k) (omega (arith, p j, q k, e))
  little_endian_alike p q j k (suc n) e (suc i) l =
      let t : little_endian bs (suc j) n ≡ little_endian cs (suc k) n = omega (arith, p j, q k, e) in
      rw (add-suc j i, add-suc k i, ← suc-add j i, ← suc-add k i) (little_endian_alike p q (suc j) (suc k) n t i (omega arith))

module _ (book : List ℕ) (at : ℕ) (bytes : List ℕ) where
  pub words_differ : (k : ℕ) (b : Bool) → SameWord book at bytes k b → b ≡ false → false ≡ same_bytes (record_at book at) bytes
  words_differ k true s e = absurd (false≢true (sym e))
  words_differ k false s e = s

  pub words_same : (k : ℕ) (b : Bool) → SameWord book at bytes k b → b ≡ true → SameWord book at bytes k true
  words_same k true s e = s
  words_same k false s e = absurd (false≢true e)

  module _ (w : length bytes ≡ 21) (f : at + 22 ≤ length book) where
    its_byte : (i : ℕ) → i < 21 → get_or (record_at book at) i 0 ≡ get_or book (at + i) 0
    its_byte i h = get_or-take 21 (drop at book) i 0 h ∙ get_or-drop at book i 0

    differ : (k : ℕ) → k ≤ 13 → (little_endian book (at + k) 8 ≡ little_endian bytes k 8 → ⊥) → (b : Bool) → b ≡ same_bytes (record_at book at) bytes → false ≡ b
    differ k l n false e = refl
    differ k l n true e =
        absurd (n (word_same k (λ i h. sym (its_byte (k + i) (omega arith)) ∙ ap (λ l. get_or l (k + i) 0) (same_equal (record_at book at) bytes (sym e)))))
      where
        word_same : (k : ℕ) → ((i : ℕ) → i < 8 → get_or book (at + (k + i)) 0 ≡ get_or bytes (k + i) 0) → little_endian book (at + k) 8 ≡ little_endian bytes k 8
        word_same k g = alike_little_endian book bytes (at + k) k 8 (λ i h. let s : at + k + i ≡ at + (k + i) = omega arith in rw s (g i h))

    pub same_word : Bytes book → Bytes bytes → (k : ℕ) → k ≤ 13 → (b : Bool) → b ≡ eqb (little_endian book (at + k) 8) (little_endian bytes k 8) → SameWord book at bytes k b
    same_word p q k l true e = little_endian_alike book bytes p q (at + k) k 8 (eqb-true _ _ (sym e))
    same_word p q k l false e = differ k l (λ t. false≢true (e ∙ eq-eqb _ _ t)) _ refl

    pub three_words : (b : Bool) → SameWord book at bytes 0 true → SameWord book at bytes 13 true → SameWord book at bytes 8 b → b ≡ same_bytes (record_at book at) bytes
    three_words false x u v = v
    three_words true x u v =
        let same : record_at book at ≡ bytes =
        ext_get_or 0 (record_at book at) bytes (its_length ∙ sym w) (λ i h. its_byte i (omega (arith, its_length)) ∙ byte i (omega (arith, its_length)) (dec_lt i 8) (dec_lt i 16)) in
        rw same (sym (same_self bytes))
      where
        its_length : length (record_at book at) ≡ 21
        its_length = length-take-le 21 (drop at book) (omega (arith, length-drop at book))

        at_byte : (j k i : ℕ) → j ≡ at + i → k ≡ i → get_or book j 0 ≡ get_or bytes k 0 → get_or book (at + i) 0 ≡ get_or bytes i 0
        at_byte j k i s t e = ap (λ n. get_or book n 0) (sym s) ∙ e ∙ ap (λ n. get_or bytes n 0) t

        byte : (i : ℕ) → i < 21 → Dec (i < 8) → Dec (i < 16) → get_or book (at + i) 0 ≡ get_or bytes i 0
        byte i h (yes l) m = at_byte (at + 0 + i) (0 + i) i (omega arith) (omega arith) (x i l)
        byte i h (no n) (yes l) = at_byte (at + 8 + (i - 8)) (8 + (i - 8)) i (omega arith) (omega arith) (v (i - 8) (omega arith))
        byte i h (no n) (no m) = at_byte (at + 13 + (i - 13)) (13 + (i - 13)) i (omega arith) (omega arith) (u (i - 13) (omega arith))
