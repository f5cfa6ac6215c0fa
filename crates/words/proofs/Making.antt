-- A new node at the front of the loose list, and the root at the start of a search. Rests on Pool and Free.
use Rattle.std.specs.Prelude.{◌≡◌, refl, List, [], ℕ, suc, ◌+◌, ◌-◌, ◌≤◌, ◌<◌, length}
use Rattle.std.proofs.Math.Path.{ap, subst}
use Rattle.std.proofs.Common.{sym, ◌∙◌, arith}
use Rattle.std.proofs.Math.ListN.{get_or}
use Rattle.machine.specs.Tree.{Node, Children, none, child, size}
use Rattle.machine.specs.Machine.{Ancestor}
use Rattle.machine.specs.Place.{pool_max, size_above}
use Rattle.machine.specs.Descent.{height}
use Rattle.words.specs.Packed.{View, packed, Bytes}
use Rattle.words.specs.Words.{NONE, FIRST, SIBLING, word, capacity, Slot, Agree, Filled}
use Rattle.words.proofs.Words.{slot_long}
use Rattle.words.specs.Trees.{Held, Part, same, uses}
use Rattle.words.proofs.Trees.{same_yes, held_agree, part_only}
use Rattle.words.specs.Free.{among, Spare, left_freed, Number}
use Rattle.words.proofs.Free.{unused_yes, all_spare, taken_free}
use Rattle.words.specs.Freeing.{plies}
use Rattle.words.specs.Pool.{line_uses, Holding}
use Rattle.words.proofs.Pool.{holding_asks}
use Rattle.words.proofs.Current.{framed}

-- The words of a leaf are the node's
pub filled_held : {Pos : Type 0} (K : View Pos) (w v : List ℕ) (i first sibling : ℕ) (m : Node Pos) → Slot w i → Bytes m → Filled w v i m.phi m.delta (packed K m) first sibling → Held K v m i
filled_held K w v i first sibling m s b f = record { slot = slot_long f.only.long s; byte = b; phi_is = f.phi_is; delta_is = f.delta_is; packed_is = f.packed_is }

-- In front of a list of siblings that does not use its number
pub filled_part : {Pos : Type 0} (K : View Pos) (w v : List ℕ) (i sibling : ℕ) (m : Node Pos) (ks : Children Pos) → Slot w i → Bytes m → Filled w v i m.phi m.delta (packed K m) NONE sibling
    → uses w ks sibling i ≡ 0 → Part K w ks sibling NONE → Part K v (child m none ks) i NONE × ((x : ℕ) → uses v (child m none ks) i x ≡ same i x + uses w ks sibling x)
unfolding uses
filled_part K w v i sibling m ks s b f z p =
    let q = part_only K w v i f.only ks sibling NONE z p in (
      (filled_held K w v i NONE sibling m s b f, f.first_is, subst (λ (y : ℕ). Part K v ks y NONE) (sym f.sibling_is) q.0),
      λ x. omega (arith, q.1 x, ap (λ (y : ℕ). uses v ks y x) f.sibling_is),
    )

-- The same where the words are known by equations
pub filled_as : {Pos : Type 0} (K : View Pos) (w v : List ℕ) (i phi delta pack sibling : ℕ) (m : Node Pos) (ks : Children Pos) → Slot w i → Filled w v i phi delta pack NONE sibling
    → m.phi ≡ phi → m.delta ≡ delta → packed K m ≡ pack → Bytes m → uses w ks sibling i ≡ 0 → Part K w ks sibling NONE → Part K v (child m none ks) i NONE
filled_as K w v i phi delta pack sibling m ks s f p d k b z h =
    (filled_part K w v i sibling m ks s b
    (record { only = f.only; phi_is = f.phi_is ∙ sym p; delta_is = f.delta_is ∙ sym d; packed_is = f.packed_is ∙ sym k; first_is = f.first_is; sibling_is = f.sibling_is }) z h).0

module _ {Pos : Type 0} (K : View Pos) (w path : List ℕ) (d head used : ℕ) (up : List (Ancestor Pos)) (n : Node Pos) (ks loose : Children Pos) (last : ℕ) (h : Holding K w path d head used up n ks loose last)
    (l : 0 < length h.list + (capacity w - used)) where
  abbrev asks : Spare w head used
  asks = holding_asks K w path d head used up n ks loose last h l

  -- Step 4: one child more, listed first
  pub holding_made : (id head' used' : ℕ) → Number w head used asks id head' used' → (v : List ℕ) (m : Node Pos) → Bytes m → Filled w v id m.phi m.delta (packed K m) NONE last → suc d < plies
      → Holding K v path d head' used' up n ks (child m none loose) id
  unfolding uses size height holding_asks
  holding_made id head' used' t v m b f deep =
      let i = get_or path d 0 in
      let long = f.only.long in
      let away : (x : ℕ) → 0 < same i x + uses w ks (word w i FIRST) x + line_uses w path d up x + uses w loose last x → x ≡ id → ⊥ =
      λ x p e. omega (arith, h.once x, t.counted x, same_yes x, ap (λ (y : ℕ). same y x) e) in
      let here : Agree w v i = f.only.others i (away i (omega (arith, same_yes i))) in
      let first = here FIRST (omega arith) in
      let k = framed K w path d head used up n ks loose last h v long (here SIBLING (omega arith)) (λ x z p. f.only.others x (away x (omega arith))) in
      let q = filled_part K w v id last m loose t.slot b f (omega (arith, h.once id, t.counted id, same_yes id)) h.beside in
      record {
        node = held_agree K w v long n i here h.node;
        below = subst (λ (y : ℕ). Part K v ks y NONE) (sym first) k.below;
        above = k.above;
        beside = q.0;
        list = left_freed h.list;
        free = taken_free w v head used asks id head' used' t f.only;
        once = λ x. omega (arith, h.once x, t.counted x, k.below_uses x, k.above_uses x, q.1 x, ap (λ (y : ℕ). uses v ks y x) first);
        fits = omega (arith, t.fits, long);
        few = omega (arith, h.few, long);
        full = omega (arith, h.full, h.fits, t.fits, t.fewer);
        low = h.low;
        loose_low = omega (arith, h.loose_low);
      }

-- The start: the root alone, in a pool of any words
pub holding_root : {Pos : Type 0} (K : View Pos) (w path : List ℕ) (some : 0 < capacity w) (few : capacity w ≤ pool_max) (id head' used' : ℕ) (t : Number w NONE 0 (all_spare w some few) id head' used')
    (v : List ℕ) (m : Node Pos) → Bytes m → Filled w v id m.phi m.delta (packed K m) NONE NONE → get_or path 0 0 ≡ id → Holding K v path 0 head' used' [] m none none NONE
unfolding uses size height all_spare among line_uses size_above
holding_root K w path some few id head' used' t v m b f e = record {
  node = subst (λ (y : ℕ). Held K v m y) (sym e) (filled_held K w v id NONE NONE m t.slot b f);
  below = subst (λ (y : ℕ). word v y FIRST ≡ NONE) (sym e) f.first_is;
  above = tt;
  beside = refl;
  list = [];
  free = taken_free w v NONE 0 (all_spare w some few) id head' used' t f.only;
  once = λ x. omega (arith, t.counted x, unused_yes 0 x (omega arith), ap (λ (y : ℕ). same y x) e);
  fits = omega (arith, t.fits, f.only.long);
  few = omega (arith, f.only.long);
  full = omega (arith, t.fits, t.fewer);
  low = omega arith;
  loose_low = omega arith;
}
