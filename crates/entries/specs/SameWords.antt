-- What comparing eight bytes of two records tells: they are alike, or the records are not the same. Rests on Entries and Scanning.
use Rattle.std.specs.Prelude.{◌≡◌, Bool, true, false, List, ℕ, zero, suc, ◌+◌, ◌*◌, ◌<◌, get_or}
use Rattle.entries.specs.Entries.{same_bytes}
use Rattle.entries.specs.Scanning.{record_at}

-- the number that n bytes make from byte k on, the least significant first
abbrev pub little_endian : (bs : List ℕ) (k n : ℕ) → ℕ
little_endian bs k zero = 0
little_endian bs k (suc n) = get_or bs k 0 + little_endian bs (suc k) n * 256

module _ (bs cs : List ℕ) where
  -- n bytes of the one list are the other's
  abbrev pub Alike : (j k n : ℕ) → Type 0
  Alike j k n = (i : ℕ) → i < n → get_or bs (j + i) 0 ≡ get_or cs (k + i) 0

module _ (book : List ℕ) (at : ℕ) (bytes : List ℕ) where
  -- what a comparison of eight bytes from byte k on tells: they are alike, or the records are not the same
  abbrev pub SameWord : (k : ℕ) → Bool → Type 0
  SameWord k true = Alike book bytes (at + k) k 8
  SameWord k false = false ≡ same_bytes (record_at book at) bytes
