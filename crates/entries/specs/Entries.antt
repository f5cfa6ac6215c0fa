-- The entries of a book of verdicts (MANUAL, Book of verdicts): what their 22 bytes say, who may read them, which of them answers a caller for a pair of a record
-- and a rule, and buffers with entries at the front and with a mark set. Rests on the library's numbers and lists, on the rules for lists of the same bytes, and on the code's enum of callers.
use Rattle.std.specs.Prelude.{Bool, true, false, cond, ◌&&◌, ◌||◌, List, [], ◌∷◌, ◌++◌, ℕ, zero, suc, ◌+◌, ◌*◌, ◌/◌, ◌%◌, eqb, length, get_or, take, drop, set, Option, Some, None}
pub use Rattle.rules.specs.Rules.{same_bytes}
use Rattle.entries.specs.declared.Caller.{Caller}
use Rattle.entries.specs.declared.Caller.TheVariants.{Arbiter, Trainer}

-- An entry: a record's 21 bytes, and a last byte.
pub record Entry : Type 0 where
  pub bytes : List ℕ
  pub last : ℕ

-- A last byte has, most significant first, two bits of rule, two of verdict (1 True, 2 False), three that are stored as zeros and never looked at, and the
-- published mark.
abbrev pub rule_bits : (last : ℕ) → ℕ
rule_bits last = last / 64

abbrev pub verdict_bits : (last : ℕ) → ℕ
verdict_bits last = last / 16 % 4

abbrev pub is_published : (last : ℕ) → Bool
is_published last = eqb (last % 2) 1

-- A caller is an arbiter or a trainer: the code's enum. C has it as a bool, false (0) an arbiter, true (1) a trainer.
abbrev pub is_trainer : Caller → Bool
is_trainer Arbiter = false
is_trainer Trainer = true

abbrev pub caller_of : (trainer : Bool) → Caller
caller_of false = Arbiter
caller_of true = Trainer

-- An arbiter may read every entry, a trainer the published ones.
abbrev pub may_read : Caller → (last : ℕ) → Bool
may_read Arbiter last = true
may_read Trainer last = is_published last

-- The entry at the front of a buffer; the first n entries, 22 bytes each.
abbrev pub entry_of : List ℕ → Entry
entry_of buffer = record { bytes = take 21 buffer; last = get_or buffer 21 0 }

abbrev pub entries : ℕ → List ℕ → List Entry
entries zero buffer = []
entries (suc n) buffer = entry_of buffer ∷ entries n (drop 22 buffer)

-- Entries as bytes, one after the other; and a buffer with these entries at its front, otherwise as it was.
abbrev pub all_bytes : List Entry → List ℕ
all_bytes [] = []
all_bytes (e ∷ es) = e.bytes ++ (e.last ∷ all_bytes es)

abbrev pub with_entries : List Entry → (buffer : List ℕ) → List ℕ
with_entries es buffer = all_bytes es ++ drop (length es * 22) buffer

-- A last byte has a verdict if its verdict bits are 1 or 2; it holds a rule if it has the rule and a verdict. An entry holds a pair if it has the record's bytes and
-- its last byte holds the rule.
abbrev pub has_verdict : (last : ℕ) → Bool
has_verdict last = eqb (verdict_bits last) 1 || eqb (verdict_bits last) 2

-- The verdict as the code has it, true for True and false for False; and its number, 0 where there is none.
abbrev pub verdict_in : (last : ℕ) → Option Bool
verdict_in last = cond (eqb (verdict_bits last) 1) (Some true) (cond (eqb (verdict_bits last) 2) (Some false) None)

abbrev pub found_number : Option Bool → ℕ
found_number None = 0
found_number (Some true) = 1
found_number (Some false) = 2

unfoldable pub holds_rule : (rule last : ℕ) → Bool
holds_rule rule last = eqb (rule_bits last) rule && has_verdict last

unfoldable pub holds_pair : (bytes : List ℕ) (rule : ℕ) → Entry → Bool
holds_pair bytes rule e = same_bytes e.bytes bytes && holds_rule rule e.last

-- An entry answers a caller for a pair if the caller may read it and it holds the pair.
abbrev pub answers : Caller → (bytes : List ℕ) (rule : ℕ) → Entry → Bool
answers who bytes rule e = may_read who e.last && holds_pair bytes rule e

-- The verdict of the first entry that a test picks; 0 if it picks none.
abbrev pub first_verdict : (Entry → Bool) → List Entry → ℕ
first_verdict test [] = 0
first_verdict test (e ∷ es) = cond (test e) (verdict_bits e.last) (first_verdict test es)

-- What a caller finds for a pair among the used entries: 1 True, 2 False, 0 not held.
unfoldable pub find : Caller → (bytes : List ℕ) (rule : ℕ) → List Entry → ℕ
find who bytes rule es = first_verdict (answers who bytes rule) es

-- How many entries come before the first that a test picks: all of them if it picks none.
abbrev pub place : (Entry → Bool) → List Entry → ℕ
place test [] = 0
place test (e ∷ es) = cond (test e) 0 (suc (place test es))

-- A new entry of a pair and a verdict, without the mark; entries with one more after them.
abbrev pub new_entry : (bytes : List ℕ) (rule verdict : ℕ) → Entry
new_entry bytes rule verdict = record { bytes = bytes; last = rule * 64 + verdict * 16 }

abbrev pub storing : Entry → List Entry → List Entry
storing e es = es ++ (e ∷ [])

-- A last byte with the mark, its last bit; a buffer with the mark set in the entry that begins at a place.
abbrev pub with_mark : (last : ℕ) → ℕ
with_mark last = last / 2 * 2 + 1

abbrev pub marking : (at : ℕ) → (buffer : List ℕ) → List ℕ
marking at buffer = set buffer (at + 21) (with_mark (get_or buffer (at + 21) 0))
