-- The five words of a node, and what a store leaves alone. Rests on lists alone.
use Rattle.std.specs.Prelude.{◌≡◌, List, ℕ, ◌+◌, ◌*◌, ◌/◌, ◌≤◌, ◌<◌, length, get_or, set}
use Rattle.machine.specs.Place.{pool_max}

abbrev pub NONE : ℕ  -- no node
NONE = 4294967295

-- The words of a node, in this order
abbrev pub PHI : ℕ
PHI = 0

abbrev pub DELTA : ℕ
DELTA = 1

abbrev pub PACKED : ℕ
PACKED = 2

abbrev pub FIRST : ℕ
FIRST = 3

abbrev pub SIBLING : ℕ
SIBLING = 4

abbrev pub word : List ℕ → ℕ → ℕ → ℕ
word w i f = get_or w (i * 5 + f) 0

abbrev pub set_word : List ℕ → ℕ → ℕ → ℕ → List ℕ
set_word w i f x = set w (i * 5 + f) x

abbrev pub capacity : List ℕ → ℕ
capacity w = length w / 5

-- i is the number of a node of the pool
pub record Slot (w : List ℕ) (i : ℕ) : Type 0 where
  pub small : i < pool_max
  pub fits : i * 5 + 5 ≤ length w

-- The words of node x are alike
abbrev pub Agree : List ℕ → List ℕ → ℕ → Type 0
Agree w v x = (f : ℕ) → f < 5 → word v x f ≡ word w x f

-- The words of node i alone may differ
pub record Only (i : ℕ) (w v : List ℕ) : Type 0 where
  pub long : length v ≡ length w
  pub others : (x : ℕ) → (x ≡ i → ⊥) → Agree w v x

-- Words past the capacity are alike
abbrev pub Beyond : List ℕ → List ℕ → Type 0
Beyond w v = (j : ℕ) → capacity w * 5 ≤ j → get_or v j 0 ≡ get_or w j 0

-- A store of x to word f of node i
pub record Stored (w v : List ℕ) (i f x : ℕ) : Type 0 where
  pub only : Only i w v
  pub at : word v i f ≡ x
  pub beside : (g : ℕ) → (g ≡ f → ⊥) → word v i g ≡ word w i g

-- Node i holds these five words, and no other node is touched
pub record Filled (w v : List ℕ) (i phi delta packed first sibling : ℕ) : Type 0 where
  pub only : Only i w v
  pub phi_is : word v i PHI ≡ phi
  pub delta_is : word v i DELTA ≡ delta
  pub packed_is : word v i PACKED ≡ packed
  pub first_is : word v i FIRST ≡ first
  pub sibling_is : word v i SIBLING ≡ sibling
