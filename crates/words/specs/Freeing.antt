-- Freeing a list of siblings and all below with an array of 82 for the nodes waiting: what holds at each turn. Rests on Trees and Free.
use Rattle.std.specs.Prelude.{◌≡◌, length}
use mathlib.Core.List.{List, [], ◌∷◌, ◌++◌}
use Prim.Native.Nat.{ℕ, zero, suc, ◌+◌, ◌≤◌, ◌<◌}
use Rattle.std.proofs.Math.ListN.{get_or}
use Rattle.machine.specs.Tree.{Children, size}
use Rattle.machine.specs.Descent.{height}
use Rattle.words.specs.Packed.{View}
use Rattle.words.specs.Words.{NONE, FIRST, word, Slot, Agree, Beyond}
use Rattle.words.specs.Trees.{Part, uses}
use Rattle.words.specs.Free.{Free, among}

-- One a ply and the root
abbrev pub plies : ℕ
plies = 82

-- The first t numbers of todo wait: each begins a list of siblings, the last waiting first. No number waits higher than 82 less the height of its list
abbrev pub Waiting : {Pos : Type 0} → View Pos → List ℕ → List ℕ → ℕ → List (Children Pos) → Type 0
Waiting K w todo zero [] = Unit {0}
Waiting K w todo zero (k ∷ ks) = ⊥
Waiting K w todo (suc t) [] = ⊥
Waiting K w todo (suc t) (k ∷ ks) = Part K w k (get_or todo t 0) NONE × (get_or todo t 0 ≡ NONE → ⊥) × (height k + t ≤ plies) × Waiting K w todo t ks

-- How often they use x, and how many nodes they are
unfoldable pub waiting_uses : {Pos : Type 0} → List ℕ → List ℕ → ℕ → List (Children Pos) → ℕ → ℕ
waiting_uses w todo zero ks x = 0
waiting_uses w todo (suc t) [] x = 0
waiting_uses w todo (suc t) (k ∷ ks) x = uses w k (get_or todo t 0) x + waiting_uses w todo t ks x

unfoldable pub waiting_size : {Pos : Type 0} → List (Children Pos) → ℕ
waiting_size [] = 0
waiting_size (k ∷ ks) = size k + waiting_size ks

-- The number i, unless it is no node, waits above the first t
pub record Pushed (todo : List ℕ) (t i : ℕ) (todo' : List ℕ) (t' : ℕ) : Type 0 where
  pub long : length todo' ≡ length todo
  pub level : t' ≤ suc t
  pub lower : (j : ℕ) → j < t → get_or todo' j 0 ≡ get_or todo j 0
  pub absent : i ≡ NONE → t' ≡ t
  pub present : (i ≡ NONE → ⊥) → (t' ≡ suc t) × (get_or todo' t 0 ≡ i)

module _ {Pos : Type 0} (K : View Pos) where
  -- One list more waits
  pub record More (w todo : List ℕ) (t : ℕ) (ks : List (Children Pos)) (k : Children Pos) (i : ℕ) (todo' : List ℕ) (t' : ℕ) : Type 0 where
    pub all : List (Children Pos)
    pub waiting : Waiting K w todo' t' all
    pub counted : (x : ℕ) → waiting_uses w todo' t' all x ≡ uses w k i x + waiting_uses w todo t ks x
    pub sized : waiting_size all ≡ size k + waiting_size ks

-- What free_siblings asks for: the list from `first` on; the nodes freed before; no node in both or twice; 82 places are enough; and no more to free than was allocated
pub record Freeable (Pos : Type 0) (w : List ℕ) (first head done allocated : ℕ) : Type 0 where
  pub view : View Pos
  pub siblings : Children Pos
  pub list : List ℕ
  pub part : Part view w siblings first NONE
  pub free : Free w list head
  pub apart : (x : ℕ) → uses w siblings first x + among list x ≤ 1
  pub low : height siblings ≤ plies
  pub owed : done + size siblings ≤ allocated

-- All freed: they stand before the nodes freed earlier, and no other node is touched
pub record Freed (Pos : Type 0) (w₀ : List ℕ) (first head₀ done₀ allocated : ℕ) (g : Freeable Pos w₀ first head₀ done₀ allocated) (w : List ℕ) (head done : ℕ) : Type 0 where
  pub list : List ℕ
  pub free : Free w list head
  pub newer : List ℕ
  pub list_is : list ≡ newer ++ g.list
  pub counted : (x : ℕ) → among list x ≡ uses w₀ g.siblings first x + among g.list x
  pub longer : length list ≡ length g.list + size g.siblings
  pub all : done ≡ done₀ + size g.siblings
  pub kept : (x : ℕ) → uses w₀ g.siblings first x ≡ 0 → Agree w₀ w x
  pub long : length w ≡ length w₀
  pub past : Beyond w₀ w

module _ (Pos : Type 0) (w₀ : List ℕ) (first head₀ done₀ allocated : ℕ) (g : Freeable Pos w₀ first head₀ done₀ allocated) where
  -- While t numbers wait
  pub record Freeing (w todo : List ℕ) (head done t : ℕ) : Type 0 where
    pub waits : List (Children Pos)
    pub list : List ℕ
    pub waiting : Waiting g.view w todo t waits
    pub free : Free w list head
    pub counted : (x : ℕ) → waiting_uses w todo t waits x + among list x ≡ uses w₀ g.siblings first x + among g.list x
    pub newer : List ℕ
    pub list_is : list ≡ newer ++ g.list
    pub longer : length list + waiting_size waits ≡ length g.list + size g.siblings
    pub sized : done + waiting_size waits ≡ done₀ + size g.siblings
    pub kept : (x : ℕ) → uses w₀ g.siblings first x ≡ 0 → Agree w₀ w x
    pub long : length w ≡ length w₀

  -- The last of those waiting: a node, whose place its sibling may have; one more place if it has children; and one more to be freed
  pub record Turn (w todo : List ℕ) (done t : ℕ) : Type 0 where
    pub slot : Slot w (get_or todo t 0)
    pub low : t < plies
    pub first_room : (word w (get_or todo t 0) FIRST ≡ NONE → ⊥) → suc t < plies
    pub more : done < allocated
