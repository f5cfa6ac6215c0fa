-- The plain machine's tree in words: lists of siblings, what numbers they use, and that stores elsewhere leave them alone. Rests on Words and Packed.
use Rattle.std.specs.Prelude.{◌≡◌, List, cond, ℕ, ◌+◌, eqb}
use Rattle.machine.specs.Tree.{Node, Children, none, child}
use Rattle.words.specs.Packed.{View, packed, Bytes}
use Rattle.words.specs.Words.{NONE, PHI, DELTA, PACKED, FIRST, SIBLING, word, Slot}

-- The node n stands at number i of the words w
pub record Held {Pos : Type 0} (K : View Pos) (w : List ℕ) (n : Node Pos) (i : ℕ) : Type 0 where
  pub slot : Slot w i
  pub byte : Bytes n
  pub phi_is : word w i PHI ≡ n.phi
  pub delta_is : word w i DELTA ≡ n.delta
  pub packed_is : word w i PACKED ≡ packed K n

-- The list ks of siblings, with all below, begins at number i; the last sibling word is e (NONE for a whole list)
abbrev pub Part : {Pos : Type 0} → View Pos → List ℕ → Children Pos → ℕ → ℕ → Type 0
Part K w none i e = i ≡ e
Part K w (child n b ks) i e = Held K w n i × Part K w b (word w i FIRST) NONE × Part K w ks (word w i SIBLING) e

-- 1 if the two are equal
unfoldable pub same : ℕ → ℕ → ℕ
same i x = cond (eqb i x) 1 0

-- How often the number x is used by it
unfoldable pub uses : {Pos : Type 0} → List ℕ → Children Pos → ℕ → ℕ → ℕ
uses w none i x = 0
uses w (child n b ks) i x = same i x + (uses w b (word w i FIRST) x + uses w ks (word w i SIBLING) x)
