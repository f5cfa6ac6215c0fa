-- Laws of specs/Packed.antt. What is read back of a packed word. Rests on PackedWord, whose names it hands on.
use Rattle.std.specs.Prelude.{◌≡◌, refl, Bool, true, false, ℕ, ◌+◌, ◌≤◌, ◌<◌}
use Rattle.std.proofs.Common.{arith}
use Rattle.machine.specs.Game.{Game}
use Rattle.machine.specs.Tree.{Node}
use Rattle.machine.specs.Machine.{Verdict, True, False, Unknown, opened, remember}
use Rattle.prove.specs.Numbers.{verdict_number}
use Rattle.words.specs.PackedWord.{pack, value_in, expanded_in, and_in, free_in, move_in, remembered_in, with_remembered, bit, View, freed, Bytes}
use Rattle.words.specs.PackedWord.{packed}

-- What was packed is read back
pub record Read (x value expanded and free move remembered : ℕ) : Type 0 where
  pub value_is : value_in x ≡ value
  pub expanded_is : expanded_in x ≡ expanded
  pub and_is : and_in x ≡ and
  pub free_is : free_in x ≡ free
  pub move_is : move_in x ≡ move
  pub remembered_is : remembered_in x ≡ remembered

pub unpack : (v e a f m l : ℕ) → e ≤ 1 → a ≤ 1 → f ≤ 1 → m < 256 → l < 256 → Read (pack v e a f m l) v e a f m l
unpack v e a f m l he ha hf hm hl = record
    { value_is = omega arith; expanded_is = omega arith; and_is = omega arith; free_is = omega arith; move_is = omega arith; remembered_is = omega arith }

pub bit_le : (b : Bool) → bit b ≤ 1
bit_le true = omega arith
bit_le false = omega arith

pub bit_true : (b : Bool) → bit b ≡ 1 → b ≡ true
bit_true true e = refl
bit_true false e = absurd (omega arith)

pub bit_false : (b : Bool) → (bit b ≡ 1 → ⊥) → b ≡ false
bit_false true e = absurd (e refl)
bit_false false e = refl

pub verdict_le : (v : Verdict) → verdict_number v ≤ 2
verdict_le Unknown = omega arith
verdict_le True = omega arith
verdict_le False = omega arith

module _ {Pos : Type 0} (K : View Pos) (n : Node Pos) (byte : Bytes n) where
  pub packed_read : Read (packed K n) (verdict_number (K.value n.pos)) (bit n.expanded) (bit (K.and n.pos)) 0 n.move n.remembered
  unfolding packed
  packed_read = unpack _ _ _ 0 n.move n.remembered (bit_le n.expanded) (bit_le (K.and n.pos)) (omega arith) byte.0 byte.1

  -- Step 2 sets the remembered move
  pub packed_remembered : (x : ℕ) → packed K (remember n x) ≡ with_remembered (packed K n) x
  unfolding packed
  packed_remembered x = omega (arith, byte.1)

  -- The flag says whether the node is expanded
  pub expanded_yes : expanded_in (packed K n) ≡ 1 → n.expanded ≡ true
  expanded_yes e = bit_true n.expanded (omega (arith, packed_read.expanded_is))

  pub expanded_no : (expanded_in (packed K n) ≡ 1 → ⊥) → n.expanded ≡ false
  expanded_no e = bit_false n.expanded (λ q. e (omega (arith, packed_read.expanded_is)))

  -- No live node's word is a freed one's
  pub live_not_freed : packed K n ≡ freed → ⊥
  live_not_freed e = omega (arith, packed_read.free_is)

-- Step 4 sets the flag of a node that was not expanded
pub packed_opened : (G : Game) (K : View G.Pos) (n : Node G.Pos) → n.expanded ≡ false → packed K (opened G n) ≡ packed K n + 536870912
unfolding packed opened
packed_opened G K n e = omega (arith, bits)
  where
    bits : bit n.expanded ≡ 0
    bits = rw e
