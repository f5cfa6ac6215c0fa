-- Open children, which all have the numbers 1 and 1: they are made one by one, and their numbers are added at the end. Rests on Progress.
use Rattle.std.specs.Prelude.{◌≡◌, refl, List, Bool, true, false, cond, ℕ, suc, ◌+◌, ◌-◌, ◌≤◌, min, eqb}
use Rattle.std.proofs.Common.{ap, sym, ◌∙◌, arith, eq-eqb, ne_eqb}
use Rattle.machine.specs.Tree.{u32_max}
use Rattle.machine.specs.Machine.{Unknown}
use Rattle.prove.specs.Numbers.{verdict_number, Pair}
use Rattle.prove.specs.declared.Bounds.{Bounds}
use Rattle.words.specs.Packed.{pack, bit}
use Rattle.node_pool.specs.declared.AllocedNode.{AllocedNode}
use Rattle.node_pool.specs.Promises.{Alloced}
use Rattle.children.specs.Leaves.{leaf_bounds}
use Rattle.expand.specs.declared.Made.{Made}
use Rattle.expand.specs.declared.Siblings.{Siblings}
use Rattle.expand.specs.Progress.{Leaf, Progress, Addable, Added, add_asks, added}

-- The children of m, and the open ones made since
abbrev pub counting : Siblings → Made → Made
counting t m = record {
  siblings = t;
  phi = cond (eqb (t.made - m.siblings.made) 0) m.phi (min m.phi 1);
  delta = min (m.delta + (t.made - m.siblings.made)) u32_max;
  ended = m.ended;
}

-- None yet
pub counting_start : (l : Leaf) (w ms : List ℕ) (m : Made) → Progress l w m ms → counting m.siblings m ≡ m
counting_start l w ms m h =
    let none : m.siblings.made - m.siblings.made ≡ 0 = omega arith in
    let phi : cond (eqb (m.siblings.made - m.siblings.made) 0) m.phi (min m.phi 1) ≡ m.phi = rw (eq-eqb (m.siblings.made - m.siblings.made) 0 none) in
    let delta : min (m.delta + (m.siblings.made - m.siblings.made)) u32_max ≡ m.delta = omega (arith, h.delta_is) in
    rw (phi, delta)

-- It is made, with the others counted as before
abbrev pub OpenAdds : List ℕ → Siblings → ℕ → Bool → List ℕ → Siblings → Type 0
OpenAdds w t x and v r = (m : Made) (g : Addable w (counting t m) x Unknown and) → m.siblings.made ≤ t.made → Added g.leaf x g.rest v (counting r m)

module _ (w : List ℕ) (t : Siblings) (x : ℕ) (and : Bool) (m : Made) (g : Addable w (counting t m) x Unknown and) (since : m.siblings.made ≤ t.made) (bounds : Bounds)
    (one : Pair bounds.phi bounds.delta 1 1) (r : Siblings) (more : r.made ≡ suc t.made) where
  phi_next : cond (eqb (r.made - m.siblings.made) 0) m.phi (min m.phi 1) ≡ min (cond (eqb (t.made - m.siblings.made) 0) m.phi (min m.phi 1)) bounds.delta
  phi_next = rw (ne_eqb (r.made - m.siblings.made) 0 (λ e. omega arith), one.delta_is) (go (eqb (t.made - m.siblings.made) 0))
    where
      go : (b : Bool) → min m.phi 1 ≡ min (cond b m.phi (min m.phi 1)) 1
      go true = refl
      go false = omega arith

  pub open_added : (k : ℕ) (w' : List ℕ) (a : AllocedNode) → k ≡ pack (verdict_number Unknown) 0 (bit and) 0 x 255
      → Alloced w t.vacant (add_asks w (counting t m) x Unknown and g) bounds k t.last w' a
      → r.vacant.head.0 ≡ a.vacant.head.0 → r.vacant.used ≡ a.vacant.used → r.last.0 ≡ a.id.0 → Added g.leaf x g.rest w' (counting r m)
  open_added k w' a ek f ef eu el =
      added w (counting t m) x Unknown and g bounds k w' a (leaf_bounds Unknown and bounds.phi bounds.delta one) ek f (counting r m)
      (record {
        head_is = ef;
        used_is = eu;
        made_is = more;
        last_is = el;
        phi_is = phi_next;
        delta_is = omega (arith, one.phi_is);
        ended_is = g.going ∙ ap (λ (d : ℕ). eqb d 0) (sym one.delta_is);
      })
