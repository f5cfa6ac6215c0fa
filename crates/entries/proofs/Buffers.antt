-- Entries at the front of a buffer are read back, and one that is stored lies after the others. Rests on Entries.
use Rattle.std.specs.Prelude.{◌≡◌, refl, List, [], ◌∷◌, ◌++◌, ℕ, zero, suc, ◌+◌, ◌*◌, ◌≤◌, length, get_or, take, drop}
use Rattle.std.proofs.Common.{sym, ap, ◌∙◌, append_assoc, arith, length-append, length-drop, take_at, drop_at, take-add, take-suc, length-take-le}
use Rattle.std.proofs.lemmas.List.{get_or_at}
use Rattle.entries.specs.Entries.{Entry, entry_of, entries, all_bytes, with_entries, storing}

-- every entry of a list has a property; an entry has 21 record bytes
abbrev pub All : (Entry → Type 0) → List Entry → Type 0
All P [] = Unit {0}
All P (e ∷ es) = P e × All P es

abbrev pub Whole : Entry → Type 0
Whole e = length e.bytes ≡ 21

pub all_storing : (P : Entry → Type 0) (es : List Entry) (e : Entry) → All P es → P e → All P (storing e es)
all_storing P [] e h p = (p, tt)
all_storing P (x ∷ es) e h p = (h.0, all_storing P es e h.1 p)

-- one entry, and what follows it
module _ (e : Entry) (rest : List ℕ) (h : Whole e) where
  entry_back : entry_of (e.bytes ++ (e.last ∷ rest)) ≡ e
  entry_back = rw (take_at e.bytes (e.last ∷ rest) 21 h, get_or_at e.bytes e.last rest 0 21 h)

  entry_rest : drop 22 (e.bytes ++ (e.last ∷ rest)) ≡ rest
  entry_rest =
      rw (← append_assoc e.bytes (e.last ∷ []) rest)
      (drop_at (e.bytes ++ (e.last ∷ [])) rest 22 (omega (arith, length-append e.bytes (e.last ∷ []))))

-- entries are read back, whatever follows
pub read_back : (es : List Entry) (rest : List ℕ) → All Whole es → entries (length es) (all_bytes es ++ rest) ≡ es
read_back [] rest h = refl
read_back (e ∷ es) rest h =
    rw (append_assoc e.bytes (e.last ∷ all_bytes es) rest, entry_back e (all_bytes es ++ rest) h.0, entry_rest e (all_bytes es ++ rest) h.0, read_back es rest h.1)

all_bytes_append : (es fs : List Entry) → all_bytes (es ++ fs) ≡ all_bytes es ++ all_bytes fs
all_bytes_append [] fs = refl
all_bytes_append (e ∷ es) fs = rw (all_bytes_append es fs) (sym (append_assoc e.bytes (e.last ∷ all_bytes es) (all_bytes fs)))

length_all_bytes : (es : List Entry) → All Whole es → length (all_bytes es) ≡ length es * 22
length_all_bytes [] h = refl
length_all_bytes (e ∷ es) h = omega (arith, length-append e.bytes (e.last ∷ all_bytes es), length_all_bytes es h.1, h.0)

pub length_with_entries : (es : List Entry) (buffer : List ℕ) → All Whole es → length es * 22 ≤ length buffer → length (with_entries es buffer) ≡ length buffer
length_with_entries es buffer h l = omega (arith, length-append (all_bytes es) (drop (length es * 22) buffer), length_all_bytes es h, length-drop (length es * 22) buffer)

-- the entries of a buffer: so many, each whole, and they are its first bytes
pub length_entries : (n : ℕ) (buffer : List ℕ) → length (entries n buffer) ≡ n
length_entries zero buffer = refl
length_entries (suc n) buffer = ap suc (length_entries n (drop 22 buffer))

pub entries_whole : (n : ℕ) (buffer : List ℕ) → n * 22 ≤ length buffer → All Whole (entries n buffer)
entries_whole zero buffer h = tt
entries_whole (suc n) buffer h = (length-take-le 21 buffer (omega arith), entries_whole n (drop 22 buffer) (omega (arith, length-drop 22 buffer)))

all_bytes_entries : (n : ℕ) (buffer : List ℕ) → n * 22 ≤ length buffer → all_bytes (entries n buffer) ≡ take (n * 22) buffer
all_bytes_entries zero buffer h = refl
all_bytes_entries (suc n) buffer h =
    let e : suc n * 22 ≡ 22 + n * 22 = omega arith in
    rw (e, take-add 22 (n * 22) buffer, take-suc buffer 21 0 (omega arith), all_bytes_entries n (drop 22 buffer) (omega (arith, length-drop 22 buffer)))
    (sym (append_assoc (take 21 buffer) (get_or buffer 21 0 ∷ []) (take (n * 22) (drop 22 buffer))))

-- one entry after those that are there: the bytes before and after its 22 stay
pub stored_bytes : (e : Entry) (n : ℕ) (buffer : List ℕ) → n * 22 ≤ length buffer
    → with_entries (storing e (entries n buffer)) buffer ≡ take (n * 22) buffer ++ (e.bytes ++ (e.last ∷ drop (suc n * 22) buffer))
stored_bytes e n buffer h =
    let es = entries n buffer in
    let k : length (storing e es) ≡ suc n = omega (arith, length-append es (e ∷ []), length_entries n buffer) in
    let rest = drop (suc n * 22) buffer in
    ap (λ j. all_bytes (storing e es) ++ drop (j * 22) buffer) k
    ∙ ap (λ x. x ++ rest) (all_bytes_append es (e ∷ []))
    ∙ append_assoc (all_bytes es) (e.bytes ++ (e.last ∷ [])) rest
    ∙ ap (λ x. all_bytes es ++ x) (append_assoc e.bytes (e.last ∷ []) rest)
    ∙ ap (λ x. x ++ (e.bytes ++ (e.last ∷ rest))) (all_bytes_entries n buffer h)
