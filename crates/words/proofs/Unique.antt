-- Words hold one tree: two that the same words hold from the same number on are alike but for the positions, which no word keeps. Rests on Trees.
use Rattle.std.specs.Prelude.{◌≡◌, List, Bool, true, false, ℕ}
use Rattle.std.proofs.Math.Path.{refl}
use Rattle.std.proofs.Common.{sym, ◌∙◌, arith}
use Rattle.machine.specs.Tree.{Node, Children, none, child}
use Rattle.words.specs.Packed.{View, packed, bit}
use Rattle.words.proofs.Packed.{packed_read}
use Rattle.words.specs.Words.{NONE, FIRST, SIBLING, word}
use Rattle.words.specs.Trees.{Held, Part}

-- A node, and a list of children, without positions
abbrev pub bare : {Pos : Type 0} → Node Pos → Node (Unit {0})
bare n = record { pos = tt; phi = n.phi; delta = n.delta; move = n.move; expanded = n.expanded; remembered = n.remembered }

unfoldable pub shape : {Pos : Type 0} → Children Pos → Children (Unit {0})
shape none = none
shape (child n b ks) = child (bare n) (shape b) (shape ks)

bit_same : (a b : Bool) → bit a ≡ bit b → a ≡ b
bit_same true true e = refl
bit_same true false e = absurd (omega arith)
bit_same false true e = absurd (omega arith)
bit_same false false e = refl

module _ {Pos : Type 0} (K : View Pos) (w : List ℕ) where
  node_unique : (n m : Node Pos) (i : ℕ) → Held K w n i → Held K w m i → bare n ≡ bare m
  node_unique n m i h g =
      let e : packed K n ≡ packed K m = sym h.packed_is ∙ g.packed_is in
      let a = packed_read K n h.byte in
      let b = packed_read K m g.byte in
      let phis : n.phi ≡ m.phi = omega (arith, h.phi_is, g.phi_is) in
      let deltas : n.delta ≡ m.delta = omega (arith, h.delta_is, g.delta_is) in
      let moves : n.move ≡ m.move = omega (arith, a.move_is, b.move_is) in
      let remembereds : n.remembered ≡ m.remembered = omega (arith, a.remembered_is, b.remembered_is) in
      let flags : n.expanded ≡ m.expanded = bit_same n.expanded m.expanded (omega (arith, a.expanded_is, b.expanded_is)) in
      cc

  pub unique : (ks ls : Children Pos) (i : ℕ) → Part K w ks i NONE → Part K w ls i NONE → shape ks ≡ shape ls
  unfolding shape
  unique none none i h g = refl
  unique none (child m c ls) i h g = absurd (omega (arith, g.0.slot.small))
  unique (child n b ks) none i h g = absurd (omega (arith, h.0.slot.small))
  unique (child n b ks) (child m c ls) i h g =
      cc (node_unique n m i h.0 g.0, unique b c (word w i FIRST) h.1 g.1, unique ks ls (word w i SIBLING) h.2 g.2)
