-- The freed nodes, threaded through the first-child word, last freed first; and the numbers never used. Rests on Trees.
use Rattle.std.specs.Prelude.{◌≡◌, List, [], ◌∷◌, cond, ℕ, suc, ◌+◌, ◌-◌, ◌≤◌, ◌<◌, length, leb}
use Rattle.machine.specs.Place.{pool_max}
use Rattle.words.specs.Packed.{freed}
use Rattle.words.specs.Words.{NONE, PACKED, FIRST, word, capacity, Slot, Only}
use Rattle.words.specs.Trees.{same}

-- The freed nodes xs, from the head h on
abbrev pub Free : List ℕ → List ℕ → ℕ → Type 0
Free w [] h = h ≡ NONE
Free w (x ∷ xs) h = (h ≡ x) × Slot w x × (word w x PACKED ≡ freed) × Free w xs (word w x FIRST)

-- How often x is among them
unfoldable pub among : List ℕ → ℕ → ℕ
among [] x = 0
among (y ∷ ys) x = same y x + among ys x

-- 1 if x was never used
unfoldable pub unused : ℕ → ℕ → ℕ
unused used x = cond (leb used x) 1 0

-- How often x is free: freed, or never used
abbrev pub spare : List ℕ → ℕ → ℕ → ℕ
spare xs used x = among xs x + unused used x

-- Node i is given back: its flag is set, and it leads to the head h
pub record Released (w v : List ℕ) (i h : ℕ) : Type 0 where
  pub only : Only i w v
  pub packed_is : word v i PACKED ≡ freed
  pub first_is : word v i FIRST ≡ h

-- What alloc asks for: freed nodes and numbers never used, each once, all within the capacity, and one of them at least
pub record Spare (w : List ℕ) (head used : ℕ) : Type 0 where
  pub list : List ℕ
  pub free : Free w list head
  pub once : (x : ℕ) → spare list used x ≤ 1
  pub fits : used ≤ capacity w
  pub few : capacity w ≤ pool_max
  pub some : 0 < length list + (capacity w - used)

-- The number that is taken: of the node last freed, or else the next one never used; and what is free then
abbrev pub next_number : List ℕ → ℕ → ℕ
next_number [] used = used
next_number (x ∷ xs) used = x

abbrev pub left_freed : List ℕ → List ℕ
left_freed [] = []
left_freed (x ∷ xs) = xs

abbrev pub used_then : List ℕ → ℕ → ℕ
used_then [] used = suc used
used_then (x ∷ xs) used = used

pub record Number (w : List ℕ) (head used : ℕ) (g : Spare w head used) (id head' used' : ℕ) : Type 0 where
  pub id_is : id ≡ next_number g.list used
  pub used_is : used' ≡ used_then g.list used
  pub free : Free w (left_freed g.list) head'
  pub slot : Slot w id
  pub fits : used' ≤ capacity w
  pub fewer : suc (length (left_freed g.list) + (capacity w - used')) ≡ length g.list + (capacity w - used)
  pub counted : (x : ℕ) → same id x + spare (left_freed g.list) used' x ≡ spare g.list used x
