-- Laws of texts put together: what is left of the zeros, a number from its tenth and its last digit, and how long fields are. Rests on Printed and Decimals.
use Rattle.std.specs.Prelude.{◌≡◌, refl, List, [], ◌∷◌, ◌++◌, ℕ, ◌+◌, ◌-◌, ◌*◌, ◌/◌, ◌%◌, ◌^◌, ◌≤◌, ◌<◌, length, replicate, take, drop, get_or}
use Rattle.std.proofs.Common.{ap, sym, ◌∙◌, append_assoc, append-nil, add-one, arith, length-append, take-suc}
use Rattle.std.proofs.lemmas.List.{drop-drop, drop-replicate}
use Rattle.std.proofs.lemmas.Slice.{drop-put_mid}
use borrow.Rule.Slice.PartMut.{put_mid}
use Rattle.printed.specs.Printed.{byte, digit, decimal, field, fields}
use Rattle.printed.specs.Decimals.{decimal_one, decimal_more, decimal_few}

-- zeros follow the text, and still do once it goes up to e
pub zeros_left : (a e : ℕ) (xs ys : List ℕ) → a ≤ e → a ≤ length xs → length ys ≡ e - a → drop a xs ≡ replicate (176 - a) 0 → drop e (put_mid a (e - a) xs ys) ≡ replicate (176 - e) 0
zeros_left a e xs ys h l n z =
    let at : a + (e - a) ≡ e = omega arith in
    let left : 176 - a - (e - a) ≡ 176 - e = omega arith in
    drop-put_mid a (e - a) xs ys e (omega arith) l n
    ∙ ap (λ k. drop k xs) (sym at)
    ∙ sym (drop-drop (e - a) a xs)
    ∙ ap (drop (e - a)) z
    ∙ drop-replicate (e - a) (176 - a) 0
    ∙ ap (λ k. replicate k 0) left

-- a number's first digits are one fewer
pub tenth_shorter : (n : ℕ) → 10 ≤ n → length (decimal (n / 10)) + 1 ≡ length (decimal n)
tenth_shorter n h = sym (ap length (decimal_more n h) ∙ length-append (decimal (n / 10)) (byte (digit (n % 10))))

fields_append : (ns ms : List ℕ) → fields (ns ++ ms) ≡ fields ns ++ fields ms
fields_append [] ms = refl
fields_append (n ∷ ns) ms = ap (λ l. field n ++ l) (fields_append ns ms) ∙ sym (append_assoc (field n) (fields ns) (fields ms))

fields_next : (ns : List ℕ) (i : ℕ) → i < length ns → fields (take (i + 1) ns) ≡ fields (take i ns) ++ field (get_or ns i 0)
fields_next ns i h = rw (add-one, take-suc ns i 0, fields_append, append-nil)

-- the last digit after those before it: a number's digits
module _ (n : ℕ) (t s : List ℕ) where
  pub one_digit : n < 10 → s ≡ t → s ++ byte (digit (n % 10)) ≡ t ++ decimal n
  one_digit h e = let q : n % 10 ≡ n = omega arith in rw (e, q, decimal_one n h)

  pub more_digits : 10 ≤ n → s ≡ t ++ decimal (n / 10) → s ++ byte (digit (n % 10)) ≡ t ++ decimal n
  more_digits h e = rw (e, decimal_more n h) (append_assoc t (decimal (n / 10)) (byte (digit (n % 10))))

-- a text with the first i fields, each in at most 21 bytes
pub record Listed (ns t s : List ℕ) (i : ℕ) : Type 0 where
  pub text : s ≡ t ++ fields (take i ns)
  pub few : length s ≤ length t + 21 * i

-- a space, and the next number
module _ {ns t s u : List ℕ} {i : ℕ} (l : Listed ns t s i) (h : i < length ns) (fits : get_or ns i 0 < 2 ^ 64) (space : u ≡ s ++ byte 32) where
  pub listed_room : length u + length (decimal (get_or ns i 0)) ≤ length t + 21 * length ns
  listed_room = omega (arith, l.few, h, ap length space, length-append s (byte 32), decimal_few (get_or ns i 0) fits)

  pub listed_next : (v : List ℕ) → v ≡ u ++ decimal (get_or ns i 0) → Listed ns t v (i + 1)
  listed_next v e = record {
    text =
        e ∙ ap (λ x. x ++ decimal (get_or ns i 0)) (space ∙ ap (λ x. x ++ byte 32) l.text)
        ∙ append_assoc (t ++ fields (take i ns)) (byte 32) (decimal (get_or ns i 0))
        ∙ append_assoc t (fields (take i ns)) (field (get_or ns i 0))
        ∙ ap (λ x. t ++ x) (sym (fields_next ns i h));
    few = omega (arith, l.few, ap length space, ap length e, length-append s (byte 32), length-append u (decimal (get_or ns i 0)), decimal_few (get_or ns i 0) fits);
  }
