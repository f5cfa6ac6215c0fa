-- Step 2 keeps the tree and comes to a leaf, one child at a time; and how high and deep the tree is. Rests on Place.
use Prim.Native.Nat.{ℕ, suc, max}
use Rattle.machine.specs.Tree.{Children, none, child}

-- The height of a list of children
unfoldable pub height : {Pos : Type 0} → Children Pos → ℕ
height none = 0
height (child n b ks) = max (suc (height b)) (height ks)
