-- What stores to the current node, and freeing what is loose, make of a pool that holds a state. Rests on Pool and Freeing.
use Rattle.std.specs.Prelude.{◌≡◌, refl, List, ℕ, ◌+◌, ◌≤◌, ◌<◌, length, get_or}
use Rattle.std.proofs.Math.Path.{ap, subst}
use Rattle.std.proofs.Common.{sym, arith}
use Rattle.machine.specs.Tree.{Node, Children, none, size}
use Rattle.machine.specs.Machine.{Ancestor}
use Rattle.machine.specs.Descent.{height}
use Rattle.words.specs.Packed.{View}
use Rattle.words.specs.Words.{NONE, FIRST, SIBLING, word, Agree, Only}
use Rattle.words.specs.Trees.{Held, Part, same, uses}
use Rattle.words.proofs.Trees.{same_yes, held_agree, part_agree}
use Rattle.words.specs.Free.{Free, spare}
use Rattle.words.proofs.Free.{free_agree}
use Rattle.words.specs.Freeing.{Freeable, Freed}
use Rattle.words.specs.Pool.{Line, line_uses, Holding}
use Rattle.words.proofs.Pool.{line_agree}

module _ {Pos : Type 0} (K : View Pos) (w path : List ℕ) (d head used : ℕ) (up : List (Ancestor Pos)) (n : Node Pos) (ks loose : Children Pos) (last : ℕ) (h : Holding K w path d head used up n ks loose last) where
  -- The current node is nowhere else
  pub away : (x : ℕ) → 0 < uses w ks (word w (get_or path d 0) FIRST) x + line_uses w path d up x + uses w loose last x + spare h.list used x → x ≡ get_or path d 0 → ⊥
  away x l e = omega (arith, h.once x, same_yes x, ap (λ (y : ℕ). same y x) e)

  -- The words of the current node changed, those of the rest of the tree did not
  pub record Framed (v : List ℕ) : Type 0 where
    pub below : Part K v ks (word w (get_or path d 0) FIRST) NONE
    pub below_uses : (x : ℕ) → uses v ks (word w (get_or path d 0) FIRST) x ≡ uses w ks (word w (get_or path d 0) FIRST) x
    pub above : Line K v path d up
    pub above_uses : (x : ℕ) → line_uses v path d up x ≡ line_uses w path d up x

  pub framed : (v : List ℕ) → length v ≡ length w → word v (get_or path d 0) SIBLING ≡ word w (get_or path d 0) SIBLING
      → ((x : ℕ) → (x ≡ get_or path d 0 → ⊥) → 0 < uses w ks (word w (get_or path d 0) FIRST) x + line_uses w path d up x → Agree w v x) → Framed v
  framed v long next a =
      let p = part_agree K w v long ks (word w (get_or path d 0) FIRST) NONE (λ x l. a x (away x (omega arith)) (omega arith)) h.below in
      let q = line_agree K w v path long d up next (λ x l. a x (away x (omega arith)) (omega arith)) h.above in
      record { below = p.0; below_uses = p.1; above = q.0; above_uses = q.1 }

  -- Stores to the current node alone
  module _ (v : List ℕ) (only : Only (get_or path d 0) w v) (next : word v (get_or path d 0) SIBLING ≡ word w (get_or path d 0) SIBLING) (n' : Node Pos) (node : Held K v n' (get_or path d 0)) where
    kept : Framed v
    kept = framed v only.long next (λ x z l. only.others x z)

    beside : Part K v loose last NONE × ((x : ℕ) → uses v loose last x ≡ uses w loose last x)
    beside = part_agree K w v only.long loose last NONE (λ x l. only.others x (away x (omega arith))) h.beside

    list_kept : Free v h.list head
    list_kept = free_agree w v only.long h.list head (λ x l. only.others x (away x (omega arith))) h.free

    -- Its numbers or its flags: its children and the loose ones are as they were
    pub renewed : word v (get_or path d 0) FIRST ≡ word w (get_or path d 0) FIRST → Holding K v path d head used up n' ks loose last
    renewed first = record {
      node = node;
      below = subst (λ (y : ℕ). Part K v ks y NONE) (sym first) kept.below;
      above = kept.above;
      beside = beside.0;
      list = h.list;
      free = list_kept;
      once = λ x. omega (arith, h.once x, kept.below_uses x, kept.above_uses x, beside.1 x, ap (λ (y : ℕ). uses v ks y x) first);
      fits = omega (arith, h.fits, only.long);
      few = omega (arith, h.few, only.long);
      full = h.full;
      low = h.low;
      loose_low = h.loose_low;
    }

    -- A node without children gets those that are loose
    pub attached : ks ≡ none → word v (get_or path d 0) FIRST ≡ last → Holding K v path d head used up n' loose none NONE
    unfolding uses size height
    attached e first =
        let bare : (x : ℕ) → uses w ks (word w (get_or path d 0) FIRST) x ≡ 0 = λ x. ap (λ (l : Children Pos). uses w l (word w (get_or path d 0) FIRST) x) e in
        record {
          node = node;
          below = subst (λ (y : ℕ). Part K v loose y NONE) (sym first) beside.0;
          above = kept.above;
          beside = refl;
          list = h.list;
          free = list_kept;
          once = λ x. omega (arith, h.once x, bare x, kept.above_uses x, beside.1 x, ap (λ (y : ℕ). uses v loose y x) first);
          fits = omega (arith, h.fits, only.long);
          few = omega (arith, h.few, only.long);
          full = omega (arith, h.full, ap (size {Pos = Pos}) e);
          low = h.loose_low;
          loose_low = omega (arith, h.low);
        }

    -- The children are cut off and loose
    pub detached : loose ≡ none → word v (get_or path d 0) FIRST ≡ NONE → Holding K v path d head used up n' none ks (word w (get_or path d 0) FIRST)
    unfolding uses size height
    detached e first =
        let bare : (x : ℕ) → uses w loose last x ≡ 0 = λ x. ap (λ (l : Children Pos). uses w l last x) e in
        record {
          node = node;
          below = first;
          above = kept.above;
          beside = kept.below;
          list = h.list;
          free = list_kept;
          once = λ x. omega (arith, h.once x, bare x, kept.above_uses x, kept.below_uses x);
          fits = omega (arith, h.fits, only.long);
          few = omega (arith, h.few, only.long);
          full = omega (arith, h.full, ap (size {Pos = Pos}) e);
          low = omega (arith, h.low);
          loose_low = h.low;
        }

  -- What is loose can be freed, if no more was freed before than was allocated
  unfoldable pub loose_freeable : (done allocated : ℕ) → done + size loose ≤ allocated → Freeable Pos w last head done allocated
  loose_freeable done allocated l = record {
    view = K;
    siblings = loose;
    list = h.list;
    part = h.beside;
    free = h.free;
    apart = λ x. omega (arith, h.once x);
    low = omega (arith, h.loose_low);
    owed = l;
  }

  -- And is then among the freed nodes
  pub loose_freed : (done allocated : ℕ) (l : done + size loose ≤ allocated) (v : List ℕ) (head' done' : ℕ) → Freed Pos w last head done allocated (loose_freeable done allocated l) v head' done'
      → Holding K v path d head' used up n ks none NONE
  unfolding loose_freeable uses size height
  loose_freed done allocated l v head' done' f =
      let one : same (get_or path d 0) (get_or path d 0) ≡ 1 = same_yes (get_or path d 0) in
      let here : Agree w v (get_or path d 0) = f.kept (get_or path d 0) (omega (arith, h.once (get_or path d 0))) in
      let first = here FIRST (omega arith) in
      let k = framed v f.long (here SIBLING (omega arith)) (λ x z p. f.kept x (omega (arith, h.once x))) in
      record {
        node = held_agree K w v f.long n (get_or path d 0) here h.node;
        below = subst (λ (y : ℕ). Part K v ks y NONE) (sym first) k.below;
        above = k.above;
        beside = refl;
        list = f.list;
        free = f.free;
        once = λ x. omega (arith, h.once x, k.below_uses x, k.above_uses x, f.counted x, ap (λ (y : ℕ). uses v ks y x) first);
        fits = omega (arith, h.fits, f.long);
        few = omega (arith, h.few, f.long);
        full = omega (arith, h.full, f.longer);
        low = h.low;
        loose_low = omega (arith, h.low);
      }
