-- One child down and one node up in a pool that holds a state. Rests on Pool.
use Rattle.std.specs.Prelude.{◌≡◌, refl, List, [], ◌∷◌, ℕ, zero, suc, ◌≤◌, length, get_or}
use Rattle.std.proofs.Common.{ap, sym, subst, arith}
use Rattle.machine.specs.Tree.{Node, Children, none, child, size, append}
use Rattle.machine.specs.Machine.{Ancestor}
use Rattle.machine.specs.Place.{size_above}
use Rattle.machine.proofs.Place.{size_append}
use Rattle.machine.specs.Descent.{height}
use Rattle.words.specs.Packed.{View}
use Rattle.words.specs.Words.{NONE, FIRST, SIBLING, word}
use Rattle.words.specs.Trees.{Held, Part, same, uses}
use Rattle.words.proofs.Trees.{part_append, height_append}
use Rattle.words.specs.Pool.{Line, line_uses, Holding}

-- The nodes above are read at the places up to d alone
pub line_path : {Pos : Type 0} (K : View Pos) (w path path' : List ℕ) (d : ℕ) (up : List (Ancestor Pos)) → ((j : ℕ) → j ≤ d → get_or path' j 0 ≡ get_or path j 0) → Line K w path d up
    → Line K w path' d up × ((x : ℕ) → line_uses w path' d up x ≡ line_uses w path d up x)
unfolding line_uses
line_path K w path path' zero [] a l = (tt, λ x. refl)
line_path K w path path' zero (f ∷ up) a l = absurd l
line_path K w path path' (suc e) [] a l = absurd l
line_path K w path path' (suc e) (f ∷ up) a l =
    let p = a e (omega arith) in
    let q = a (suc e) (omega arith) in
    let r = line_path K w path path' e up (λ j i. a j (omega arith)) l.5 in (
      (
        subst (λ (y : ℕ). Held K w f.node y) (sym p) l.0,
        subst (λ (y : ℕ). Part K w f.before (word w y FIRST) (get_or path' (suc e) 0)) (sym p) (subst (λ (y : ℕ). Part K w f.before (word w (get_or path e 0) FIRST) y) (sym q) l.1),
        subst (λ (y : ℕ). Part K w f.after (word w y SIBLING) NONE) (sym q) l.2,
        l.3,
        l.4,
        r.0,
      ),
      λ x. omega (arith, r.1 x, ap (λ (y : ℕ). same y x) p, ap (λ (y : ℕ). uses w f.before (word w y FIRST) x) p, ap (λ (y : ℕ). uses w f.after (word w y SIBLING) x) q),
    )

-- Step 2: from the node at place d to its child c, which the path has next; a is before it, k after
pub holding_down : {Pos : Type 0} (K : View Pos) (w path path' : List ℕ) (d head used : ℕ) (up : List (Ancestor Pos)) (n : Node Pos) (ks : Children Pos) (c : ℕ) (a : Children Pos) (m : Node Pos) (b k : Children Pos)
    → Holding K w path d head used up n ks none NONE → ((j : ℕ) → j ≤ d → get_or path' j 0 ≡ get_or path j 0) → get_or path' (suc d) 0 ≡ c
    → Part K w a (word w (get_or path d 0) FIRST) c → Part K w (child m b k) c NONE → append a (child m b k) ≡ ks
    → Holding K w path' (suc d) head used (record { node = n; before = a; after = k } ∷ up) m b none NONE
unfolding line_uses uses height size size_above
holding_down {Pos} K w path path' d head used up n ks c a m b k h low top pa pc e =
    let here = low d (omega arith) in
    let l = line_path K w path path' d up low h.above in
    let q = (part_append K w a (child m b k) (word w (get_or path d 0) FIRST) c NONE pa pc).1 in
    let tall : height (append a (child m b k)) ≡ height ks = ap (height {Pos = Pos}) e in
    let many : size (append a (child m b k)) ≡ size ks = ap (size {Pos = Pos}) e in
    let parts = height_append a (child m b k) in
    record {
      node = subst (λ (y : ℕ). Held K w m y) (sym top) pc.0;
      below = subst (λ (y : ℕ). Part K w b (word w y FIRST) NONE) (sym top) pc.1;
      above = (
        subst (λ (y : ℕ). Held K w n y) (sym here) h.node,
        subst (λ (y : ℕ). Part K w a (word w y FIRST) (get_or path' (suc d) 0)) (sym here) (subst (λ (y : ℕ). Part K w a (word w (get_or path d 0) FIRST) y) (sym top) pa),
        subst (λ (y : ℕ). Part K w k (word w y SIBLING) NONE) (sym top) pc.2,
        omega (arith, h.low),
        omega (arith, h.low),
        l.0,
      );
      beside = refl;
      list = h.list;
      free = h.free;
      once = λ x. omega (
        arith,
        h.once x,
        q x,
        l.1 x,
        ap (λ (y : Children Pos). uses w y (word w (get_or path d 0) FIRST) x) e,
        ap (λ (y : ℕ). same y x) top,
        ap (λ (y : ℕ). same y x) here,
        ap (λ (y : ℕ). uses w b (word w y FIRST) x) top,
        ap (λ (y : ℕ). uses w a (word w y FIRST) x) here,
        ap (λ (y : ℕ). uses w k (word w y SIBLING) x) top,
      );
      fits = h.fits;
      few = h.few;
      full = omega (arith, h.full, size_append a (child m b k));
      low = omega (arith, h.low);
      loose_low = omega (arith, h.low);
    }

-- Step 5: from a node to the one above
pub holding_up : {Pos : Type 0} (K : View Pos) (w path : List ℕ) (e head used : ℕ) (a : Ancestor Pos) (up : List (Ancestor Pos)) (n : Node Pos) (ks : Children Pos)
    → Holding K w path (suc e) head used (a ∷ up) n ks none NONE → Holding K w path e head used up a.node (append a.before (child n ks a.after)) none NONE
unfolding line_uses uses height size size_above
holding_up K w path e head used a up n ks h =
    let l = h.above in
    let p = part_append K w a.before (child n ks a.after) (word w (get_or path e 0) FIRST) (get_or path (suc e) 0) NONE l.1 (h.node, h.below, l.2) in
    record {
      node = l.0;
      below = p.0;
      above = l.5;
      beside = refl;
      list = h.list;
      free = h.free;
      once = λ x. omega (arith, h.once x, p.1 x);
      fits = h.fits;
      few = h.few;
      full = omega (arith, h.full, size_append a.before (child n ks a.after));
      low = omega (arith, h.low, l.3, l.4, height_append a.before (child n ks a.after));
      loose_low = omega (arith, h.low);
    }

-- Above the root there is nothing, and the root is at place 0
pub line_root : {Pos : Type 0} (K : View Pos) (w path : List ℕ) (d : ℕ) (up : List (Ancestor Pos)) → Line K w path d up → length up ≡ d
line_root K w path zero [] l = refl
line_root K w path zero (a ∷ up) l = absurd l
line_root K w path (suc e) [] l = absurd l
line_root K w path (suc e) (a ∷ up) l = ap suc (line_root K w path e up l.5)
