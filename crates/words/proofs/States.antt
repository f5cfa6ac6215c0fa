-- The steps of the plain machine as the pool holds its states, counts included. Rests on Steps, Store and Current.
use Rattle.std.specs.Prelude.{◌≡◌, refl, List, [], ◌∷◌, Bool, ℕ, suc, ◌+◌, ◌≤◌, ◌<◌, get_or}
use Rattle.std.proofs.Math.Path.{ap, subst}
use Rattle.std.proofs.Common.{sym, ◌∙◌}
use Rattle.std.proofs.Math.Bool.{true, false, cond}
use native.Mathlib.Omega.{arith}
use Rattle.machine.specs.Game.{Game}
use Rattle.machine.specs.Tree.{Node, Children, none, child, size, append, solved}
use Rattle.machine.specs.Machine.{Ancestor, Counts, State, state, start, children, opened, expand, renumber, store, remember}
use Rattle.machine.specs.Place.{size_above}
use Rattle.machine.proofs.Place.{size_append}
use Rattle.words.specs.Packed.{View, packed}
use Rattle.words.specs.Words.{NONE, PHI, DELTA, PACKED, FIRST, SIBLING, word, Agree, Stored}
use Rattle.words.proofs.Words.{slot_long}
use Rattle.words.specs.Trees.{Held, Part, uses}
use Rattle.words.proofs.Trees.{same_yes, part_only, part_append}
use Rattle.words.specs.Pool.{Holding}
use Rattle.words.specs.Pool.{Holds}
use Rattle.words.proofs.Current.{away, renewed}
use Rattle.words.proofs.Steps.{holding_down, holding_up}

-- The start of a search
pub holds_start : (G : Game) (K : View G.Pos) (w path : List ℕ) (head used : ℕ) (p : G.Pos) → Holding K w path 0 head used [] (start G p).node none none NONE → Holds K w path 0 head used 1 0 (start G p)
unfolding start size size_above
holds_start G K w path head used p h = record { tree = h; allocated_is = refl; freed_is = refl; balance = omega arith }

module _ {Pos : Type 0} (K : View Pos) (w path : List ℕ) (head used allocated freed : ℕ) (c : Counts) where
  -- Step 2, one child down
  pub holds_down : (path' : List ℕ) (d : ℕ) (up : List (Ancestor Pos)) (n : Node Pos) (ks : Children Pos) (i : ℕ) (a : Children Pos) (m : Node Pos) (b k : Children Pos)
      → Holds K w path d head used allocated freed (state c up n ks) → ((j : ℕ) → j ≤ d → get_or path' j 0 ≡ get_or path j 0) → get_or path' (suc d) 0 ≡ i
      → Part K w a (word w (get_or path d 0) FIRST) i → Part K w (child m b k) i NONE → append a (child m b k) ≡ ks
      → Holds K w path' (suc d) head used allocated freed (state c (record { node = n; before = a; after = k } ∷ up) m b)
  unfolding size size_above
  holds_down path' d up n ks i a m b k h low top pa pi e = record {
    tree = holding_down K w path path' d head used up n ks i a m b k h.tree low top pa pi e;
    allocated_is = h.allocated_is;
    freed_is = h.freed_is;
    balance = omega (arith, h.balance, size_append a (child m b k), ap (size {Pos = Pos}) e);
  }

  -- Step 5, one node up
  pub holds_up : (e : ℕ) (a : Ancestor Pos) (up : List (Ancestor Pos)) (n : Node Pos) (ks : Children Pos) → Holds K w path (suc e) head used allocated freed (state c (a ∷ up) n ks)
      → Holds K w path e head used allocated freed (state c up a.node (append a.before (child n ks a.after)))
  unfolding size size_above
  holds_up e a up n ks h = record {
    tree = holding_up K w path e head used a up n ks h.tree;
    allocated_is = h.allocated_is;
    freed_is = h.freed_is;
    balance = omega (arith, h.balance, size_append a.before (child n ks a.after));
  }

module _ {Pos : Type 0} (K : View Pos) (w path : List ℕ) (head used allocated freed : ℕ) (c : Counts) where
  -- Step 2: a move is remembered at the current node
  module _ (d : ℕ) (up : List (Ancestor Pos)) (n : Node Pos) (ks : Children Pos) (h : Holds K w path d head used allocated freed (state c up n ks))
      (x : ℕ) (byte : x < 256) (v : List ℕ) (t : Stored w v (get_or path d 0) PACKED (packed K (remember n x))) where
    first_kept : word v (get_or path d 0) FIRST ≡ word w (get_or path d 0) FIRST
    first_kept = t.beside FIRST (omega arith)

    held : Held K v (remember n x) (get_or path d 0)
    held = let o = h.tree.node in record {
      slot = slot_long t.only.long o.slot;
      byte = (o.byte.0, byte);
      phi_is = t.beside PHI (omega arith) ∙ o.phi_is;
      delta_is = t.beside DELTA (omega arith) ∙ o.delta_is;
      packed_is = t.at;
    }

    pub holds_remembered : Holds K v path d head used allocated freed (state c up (remember n x) ks)
    holds_remembered = record {
      tree = renewed K w path d head used up n ks none NONE h.tree v t.only (t.beside SIBLING (omega arith)) (remember n x) held first_kept;
      allocated_is = h.allocated_is;
      freed_is = h.freed_is;
      balance = h.balance;
    }

    -- A child's words are kept
    pub child_kept : (i : ℕ) (a : Children Pos) (m : Node Pos) (b k : Children Pos) → Part K w a (word w (get_or path d 0) FIRST) i → Part K w (child m b k) i NONE → append a (child m b k) ≡ ks → Agree w v i
    unfolding uses
    child_kept i a m b k pa pi e =
        let u = (part_append K w a (child m b k) (word w (get_or path d 0) FIRST) i NONE pa pi).1 i in
        let some : 0 < uses w (append a (child m b k)) (word w (get_or path d 0) FIRST) i = omega (arith, same_yes i) in
        let some' : 0 < uses w ks (word w (get_or path d 0) FIRST) i = rw e at some in
        t.only.others i (away K w path d head used up n ks none NONE h.tree i (omega arith))

    -- Then one child down
    pub holds_taken : (path' : List ℕ) (i : ℕ) (a : Children Pos) (m : Node Pos) (b k : Children Pos) → ((j : ℕ) → j ≤ d → get_or path' j 0 ≡ get_or path j 0) → get_or path' (suc d) 0 ≡ i
        → Part K w a (word w (get_or path d 0) FIRST) i → Part K w (child m b k) i NONE → append a (child m b k) ≡ ks
        → Holds K v path' (suc d) head used allocated freed (state c (record { node = remember n x; before = a; after = k } ∷ up) m b)
    holds_taken path' i a m b k low top pa pi e =
        let u = (part_append K w a (child m b k) (word w (get_or path d 0) FIRST) i NONE pa pi).1 (get_or path d 0) in
        let apart : uses w ks (word w (get_or path d 0) FIRST) (get_or path d 0) ≡ 0 = omega (arith, h.tree.once (get_or path d 0), same_yes (get_or path d 0)) in
        let all : uses w (append a (child m b k)) (word w (get_or path d 0) FIRST) (get_or path d 0) ≡ 0 = rw e apart in
        holds_down K v path head used allocated freed c path' d up (remember n x) ks i a m b k holds_remembered low top
        (subst (λ (y : ℕ). Part K v a y i) (sym first_kept) (part_only K w v (get_or path d 0) t.only a (word w (get_or path d 0) FIRST) i (omega arith) pa).0)
        (part_only K w v (get_or path d 0) t.only (child m b k) i NONE (omega arith) pi).0 e

module _ (G : Game) (K : View G.Pos) (w path : List ℕ) (d head used allocated freed : ℕ) where
  -- Step 4: the children made are the leaf's own, and counted
  pub holds_expanded : (s : State G.Pos) → Holds K w path d head used allocated freed s → s.below ≡ none → (v : List ℕ) (head' used' allocated' : ℕ)
      → Holding K v path d head' used' s.above (opened G s.node) (children G s.node.pos) none NONE → allocated' ≡ allocated + size (children G s.node.pos)
      → Holds K v path d head' used' allocated' freed (expand G s)
  unfolding expand size
  holds_expanded s h e v head' used' allocated' t q = record {
    tree = t;
    allocated_is = omega (arith, h.allocated_is);
    freed_is = h.freed_is;
    balance = omega (arith, h.balance, ap (size {Pos = G.Pos}) e);
  }

  -- Step 5: the numbers are stored, and if the node is solved all below is freed and counted
  pub holds_stored : (c : Counts) (up : List (Ancestor G.Pos)) (n : Node G.Pos) (ks : Children G.Pos) → Holds K w path d head used allocated freed (state c up n ks)
      → (b : Bool) → solved (renumber G n ks) ≡ b → (v : List ℕ) (head' freed' : ℕ) → Holding K v path d head' used up (renumber G n ks) (cond b none ks) none NONE → freed' ≡ freed + cond b (size ks) 0
      → Holds K v path d head' used allocated freed' (store G c up n ks)
  unfolding store size
  holds_stored c up n ks h b e v head' freed' t q = record {
    tree = subst (λ (y : Bool). Holding K v path d head' used up (renumber G n ks) (cond y none ks) none NONE) (sym e) t;
    allocated_is = h.allocated_is;
    freed_is = omega (arith, h.freed_is, ap (λ (y : Bool). cond y (size ks) 0) e);
    balance = omega (arith, h.balance, less (solved (renumber G n ks)));
  }
    where
      less : (y : Bool) → cond y (size ks) 0 + size (cond y none ks) ≡ size ks
      less true = omega arith
      less false = omega arith
