-- Laws of specs/Pool.antt. The pool holds the plain machine's state: its tree seen from the current node, the free nodes beside it, the counts. Rests on Trees and Free.
use Rattle.std.specs.Prelude.{◌≡◌, refl, length}
use Rattle.std.proofs.Math.Path.{ap, subst}
use Rattle.std.proofs.Common.{sym, arith}
use mathlib.Core.List.{List, [], ◌∷◌}
use Prim.Native.Nat.{ℕ, zero, suc, ◌+◌, ◌-◌, ◌≤◌, ◌<◌}
use Rattle.std.proofs.Math.ListN.{get_or}
use Rattle.machine.specs.Tree.{Node, Children, size}
use Rattle.machine.specs.Machine.{Ancestor, State, live}
use Rattle.machine.specs.Place.{pool_max, size_above}
use Rattle.words.specs.Packed.{View}
use Rattle.words.specs.Words.{NONE, FIRST, SIBLING, word, capacity, Agree}
use Rattle.words.specs.Trees.{Part, uses}
use Rattle.words.proofs.Trees.{same_yes, held_agree, part_agree}
use Rattle.words.specs.Free.{spare, Spare}
use Rattle.words.specs.Pool.{Line, line_uses, Holding, Holds}

module _ {Pos : Type 0} (K : View Pos) (w path : List ℕ) (d head used allocated freed : ℕ) (s : State Pos) (h : Holds K w path d head used allocated freed s) where
  -- The free nodes are the capacity less the live ones
  pub free_nodes : length h.tree.list + (capacity w - used) ≡ capacity w - live s.counts
  unfolding live size
  free_nodes = omega (arith, h.tree.full, h.tree.fits, h.balance)

  pub live_within : live s.counts ≤ capacity w
  unfolding live size
  live_within = omega (arith, h.tree.full, h.tree.fits, h.balance)

module _ {Pos : Type 0} (K : View Pos) (w v path : List ℕ) (long : length v ≡ length w) where
  pub line_agree : (d : ℕ) (up : List (Ancestor Pos)) → word v (get_or path d 0) SIBLING ≡ word w (get_or path d 0) SIBLING
      → ((x : ℕ) → 0 < line_uses w path d up x → Agree w v x) → Line K w path d up → Line K v path d up × ((x : ℕ) → line_uses v path d up x ≡ line_uses w path d up x)
  unfolding line_uses
  line_agree zero [] t a l = (tt, λ x. refl)
  line_agree zero (f ∷ up) t a l = absurd l
  line_agree (suc e) [] t a l = absurd l
  line_agree (suc e) (f ∷ up) t a l =
      let i = get_or path e 0 in
      let here : Agree w v i = a i (omega (arith, same_yes i)) in
      let first = here FIRST (omega arith) in
      let p = part_agree K w v long f.before (word w i FIRST) (get_or path (suc e) 0) (λ x z. a x (omega arith)) l.1 in
      let q = part_agree K w v long f.after (word w (get_or path (suc e) 0) SIBLING) NONE (λ x z. a x (omega arith)) l.2 in
      let r = line_agree e up (here SIBLING (omega arith)) (λ x z. a x (omega arith)) l.5 in (
        (
          held_agree K w v long f.node i here l.0,
          subst (λ (y : ℕ). Part K v f.before y (get_or path (suc e) 0)) (sym first) p.0,
          subst (λ (y : ℕ). Part K v f.after y NONE) (sym t) q.0,
          l.3,
          l.4,
          r.0,
        ),
        λ x. omega (arith, p.1 x, q.1 x, r.1 x, ap (λ (y : ℕ). uses v f.before y x) first, ap (λ (y : ℕ). uses v f.after y x) t),
      )

module _ {Pos : Type 0} (K : View Pos) (w path : List ℕ) (d head used : ℕ) (up : List (Ancestor Pos)) (n : Node Pos) (ks loose : Children Pos) (last : ℕ) (h : Holding K w path d head used up n ks loose last) where
  -- Freed nodes are each once, and no number never used is among them
  pub holding_spare : (x : ℕ) → spare h.list used x ≤ 1
  holding_spare x = omega (arith, h.once x)

  -- What alloc asks for, where a node is free
  unfoldable pub holding_asks : 0 < length h.list + (capacity w - used) → Spare w head used
  holding_asks l = record { list = h.list; free = h.free; once = holding_spare; fits = h.fits; few = h.few; some = l }

  -- No more nodes than a pool may have
  pub holding_few : suc (size ks + size_above up) + size loose ≤ pool_max
  holding_few = omega (arith, h.full, h.fits, h.few)
