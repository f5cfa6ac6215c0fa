-- The pool holds the plain machine's state: its tree seen from the current node, the free nodes beside it, the counts. Rests on Trees and Free.
use Rattle.std.specs.Prelude.{◌≡◌, length}
use mathlib.Core.List.{List, [], ◌∷◌}
use Prim.Native.Nat.{ℕ, zero, suc, ◌+◌, ◌≤◌, ◌<◌}
use Rattle.std.proofs.Math.ListN.{get_or}
use Rattle.machine.specs.Tree.{Node, Children, none, size}
use Rattle.machine.specs.Machine.{Ancestor, State}
use Rattle.machine.specs.Place.{pool_max, size_above}
use Rattle.machine.specs.Descent.{height}
use Rattle.words.specs.Packed.{View}
use Rattle.words.specs.Words.{NONE, FIRST, SIBLING, word, capacity}
use Rattle.words.specs.Trees.{Held, Part, same, uses}
use Rattle.words.specs.Free.{Free, spare}
use Rattle.words.specs.Freeing.{plies}

-- The nodes above the one at place d of the path, nearest first: each stands at the place before; its list of children goes from its first-child word
-- through those before the way down, the node at the next place, and those after
abbrev pub Line : {Pos : Type 0} → View Pos → List ℕ → List ℕ → ℕ → List (Ancestor Pos) → Type 0
Line K w path zero [] = Unit {0}
Line K w path zero (a ∷ up) = ⊥
Line K w path (suc e) [] = ⊥
Line K w path (suc e) (a ∷ up) =
    Held K w a.node (get_or path e 0)
    × Part K w a.before (word w (get_or path e 0) FIRST) (get_or path (suc e) 0)
    × Part K w a.after (word w (get_or path (suc e) 0) SIBLING) NONE
    × (height a.before + e < plies)
    × (height a.after + e < plies)
    × Line K w path e up

unfoldable pub line_uses : {Pos : Type 0} → List ℕ → List ℕ → ℕ → List (Ancestor Pos) → ℕ → ℕ
line_uses w path zero up x = 0
line_uses w path (suc e) [] x = 0
line_uses w path (suc e) (a ∷ up) x =
    same (get_or path e 0) x + uses w a.before (word w (get_or path e 0) FIRST) x + uses w a.after (word w (get_or path (suc e) 0) SIBLING) x + line_uses w path e up x

-- The tree stands in the words, seen from the node n with the children ks at place d of the path; beside it a loose list of siblings from number `last` on
-- (children made or cut off), the freed nodes from `head` on, and the numbers from `used` on, never used. Each number is in one of these, once
pub record Holding {Pos : Type 0} (K : View Pos) (w path : List ℕ) (d head used : ℕ) (up : List (Ancestor Pos)) (n : Node Pos) (ks loose : Children Pos) (last : ℕ) : Type 0 where
  pub node : Held K w n (get_or path d 0)
  pub below : Part K w ks (word w (get_or path d 0) FIRST) NONE
  pub above : Line K w path d up
  pub beside : Part K w loose last NONE
  pub list : List ℕ
  pub free : Free w list head
  pub once : (x : ℕ) → same (get_or path d 0) x + uses w ks (word w (get_or path d 0) FIRST) x + line_uses w path d up x + uses w loose last x + spare list used x ≡ 1
  pub fits : used ≤ capacity w
  pub few : capacity w ≤ pool_max
  pub full : suc (size ks + size_above up) + size loose + length list ≡ used
  pub low : height ks + d < plies
  pub loose_low : height loose + d < plies

-- The pool holds the state s, with these counts of allocated and freed nodes
pub record Holds {Pos : Type 0} (K : View Pos) (w path : List ℕ) (d head used allocated freed : ℕ) (s : State Pos) : Type 0 where
  pub tree : Holding K w path d head used s.above s.node s.below none NONE
  pub allocated_is : allocated ≡ s.counts.allocated
  pub freed_is : freed ≡ s.counts.freed
  pub balance : s.counts.allocated ≡ s.counts.freed + suc (size s.below + size_above s.above)
