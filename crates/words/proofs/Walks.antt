-- Laws of specs/Walks.antt. Walks along a list of siblings: how long they are, the numbers worked out anew on the way, and the first child that passes a test. Rests on Trees.
use Rattle.std.specs.Prelude.{◌≡◌, List, ◌∷◌, Bool, true, eqb}
use Rattle.std.proofs.Math.Path.{refl, ap, subst}
use Rattle.std.proofs.Common.{◌∙◌, eq-eqb, ne_eqb}
use Rattle.std.proofs.Math.Bool.{false}
use Prim.Native.Nat.{ℕ, zero, suc, ◌+◌, ◌≤◌, ◌<◌, min}
use native.Mathlib.Omega.{arith}
use Rattle.machine.specs.Tree.{Node, u32_max, Children, none, child, size, least_delta, sum_phi, append}
use Rattle.machine.specs.Machine.{Counts, Ancestor, state, remember, into, first_that, holds_at}
use Rattle.machine.specs.Place.{pool_max, UnsolvedAt}
use Rattle.machine.proofs.Place.{append_child}
use Rattle.words.specs.Packed.{View}
use Rattle.words.specs.Words.{NONE, PHI, DELTA, SIBLING, word, Slot}
use Rattle.words.proofs.Words.{slot_some}
use Rattle.words.specs.Trees.{Held, Part}
use Rattle.words.proofs.Trees.{part_append}
use Rattle.words.specs.Walks.{len, Walkable, Summing, Chosen, Looking}

-- How many siblings there are from i on, k at most: what falls at each step of a walk
unfoldable pub siblings : ℕ → List ℕ → ℕ → ℕ
siblings zero w i = 0
siblings (suc k) w i = elim (eqb i NONE) [ true ↦ 0 | false ↦ suc (siblings k w (word w i SIBLING)) ]

module _ {Pos : Type 0} (K : View Pos) (w : List ℕ) where
  len_size : (ks : Children Pos) → len ks ≤ size ks
  unfolding len size
  len_size none = omega arith
  len_size (child n b ks) = omega (arith, len_size ks)

  siblings_are : (k : ℕ) (ks : Children Pos) (i : ℕ) → Part K w ks i NONE → len ks ≤ k → siblings k w i ≡ len ks
  unfolding siblings len
  siblings_are zero none i h l = refl
  siblings_are zero (child n b ks) i h l = absurd (omega arith)
  siblings_are (suc k) none i h l = rw (eq-eqb i NONE h, siblings)
  siblings_are (suc k) (child n b ks) i h l = rw (ne_eqb i NONE (slot_some h.0.slot), siblings) (ap suc (siblings_are k ks (word w i SIBLING) h.2 (omega arith)))

  pub siblings_less : (n : Node Pos) (b ks : Children Pos) (i : ℕ) → Part K w (child n b ks) i NONE → size (child n b ks) ≤ pool_max → siblings pool_max w (word w i SIBLING) < siblings pool_max w i
  unfolding size len
  siblings_less n b ks i h l =
      omega (arith, len_size ks, siblings_are pool_max ks (word w i SIBLING) h.2 (omega (arith, len_size ks)), siblings_are pool_max (child n b ks) i h (omega (arith, len_size ks)))

-- What a walk may do at a node
pub record Standing {Pos : Type 0} (K : View Pos) (w : List ℕ) (i : ℕ) : Type 0 where
  pub slot : Slot w i
  pub next : Walkable K w (word w i SIBLING)
  pub fewer : siblings pool_max w (word w i SIBLING) < siblings pool_max w i

pub standing : {Pos : Type 0} (K : View Pos) (w : List ℕ) (i : ℕ) → Walkable K w i → (i ≡ NONE → ⊥) → Standing K w i
unfolding size
standing {Pos} K w i h z = go h.list h.part h.few
  where
    go : (ks : Children Pos) → Part K w ks i NONE → size ks ≤ pool_max → Standing K w i
    go none p l = absurd (z p)
    go (child n b ks) p l = record { slot = p.0.slot; next = record { list = ks; part = p.2; few = omega arith }; fewer = siblings_less K w n b ks i p l }

module _ {Pos : Type 0} (K : View Pos) (w : List ℕ) (ks : Children Pos) where
  pub summing_start : (i : ℕ) → Part K w ks i NONE → size ks ≤ pool_max → Summing K w ks u32_max 0 i
  unfolding least_delta
  summing_start i p l = record { rest = ks; part = p; few = l; least = omega (arith, least_max ks); sum = omega arith }
    where
      least_max : (ls : Children Pos) → least_delta ls ≤ u32_max
      least_max none = omega arith
      least_max (child n b ls) = omega (arith, least_max ls)

  pub summing_step : (phi delta i phi' delta' : ℕ) → (i ≡ NONE → ⊥) → phi' ≡ min phi (word w i DELTA) → delta' ≡ min (delta + word w i PHI) u32_max → Summing K w ks phi delta i → Summing K w ks phi' delta' (word w i SIBLING)
  unfolding least_delta sum_phi size
  summing_step phi delta i phi' delta' z p d s = go s.rest s.part s.few s.least s.sum
    where
      go : (ls : Children Pos) → Part K w ls i NONE → size ls ≤ pool_max → min phi (least_delta ls) ≡ least_delta ks → min (delta + sum_phi ls) u32_max ≡ min (sum_phi ks) u32_max → Summing K w ks phi' delta' (word w i SIBLING)
      go none h l a b = absurd (z h)
      go (child n x ls) h l a b = record { rest = ls; part = h.2; few = omega arith; least = omega (arith, h.0.delta_is); sum = omega (arith, h.0.phi_is) }

  pub summing_end : (phi delta i : ℕ) → i ≡ NONE → phi ≤ u32_max → delta ≤ u32_max → Summing K w ks phi delta i → (phi ≡ least_delta ks) × (delta ≡ min (sum_phi ks) u32_max)
  unfolding least_delta sum_phi
  summing_end phi delta i z p d s = go s.rest s.part s.least s.sum
    where
      go : (ls : Children Pos) → Part K w ls i NONE → min phi (least_delta ls) ≡ least_delta ks → min (delta + sum_phi ls) u32_max ≡ min (sum_phi ks) u32_max → (phi ≡ least_delta ks) × (delta ≡ min (sum_phi ks) u32_max)
      go none h a b = (omega arith, omega arith)
      go (child n x ls) h a b = absurd (slot_some h.0.slot z)

  pub summing_walks : (phi delta i : ℕ) → Summing K w ks phi delta i → Walkable K w i
  summing_walks phi delta i s = record { list = s.rest; part = s.part; few = s.few }

module _ {Pos : Type 0} where
  len_append : (a b : Children Pos) → len (append a b) ≡ len a + len b
  unfolding len append
  len_append none b = omega arith
  len_append (child n x a) b = omega (arith, len_append a b)

  append_none : (a : Children Pos) → append a none ≡ a
  unfolding append
  append_none none = refl
  append_none (child n x a) = ap (child n x) (append_none a)

  into_at : (c : Counts) (up : List (Ancestor Pos)) (n : Node Pos) (a b : Children Pos) (m : Node Pos) (x r : Children Pos)
      → into c up n a (append b (child m x r)) (len b) ≡ state c (record { node = remember n m.move; before = append a b; after = r } ∷ up) m x
  unfolding into append len
  into_at c up n a none m x r = rw (append_none a)
  into_at c up n a (child k y b) m x r =
      into_at c up n (append a (child k y none)) b m x r ∙ ap (λ (d : Children Pos). state c (record { node = remember n m.move; before = d; after = r } ∷ up) m x) (append_child a k y b)

  -- A test at a place, and past the last child
  holds_at_node : (t : Node Pos → Bool) (b : Children Pos) (m : Node Pos) (x r : Children Pos) → holds_at t (append b (child m x r)) (len b) ≡ t m
  unfolding holds_at append len
  holds_at_node t none m x r = refl
  holds_at_node t (child k y b) m x r = holds_at_node t b m x r

  holds_past : (t : Node Pos → Bool) (b : Children Pos) → holds_at t b (len b) ≡ false
  unfolding holds_at len
  holds_past t none = refl
  holds_past t (child k y b) = holds_past t b

  unsolved_after : (b r : Children Pos) (j : ℕ) → UnsolvedAt (append b r) (len b + j) → UnsolvedAt r j
  unfolding append len
  unsolved_after none r j o = let e : 0 + j ≡ j = omega arith in subst (λ (i : ℕ). UnsolvedAt r i) e o
  unsolved_after (child n x b) r j o =
      let e : suc (len b) + j ≡ suc (len b + j) = omega arith in
      unsolved_after b r j (subst (λ (i : ℕ). UnsolvedAt (child n x (append b r)) i) e o)

module _ {Pos : Type 0} (K : View Pos) (w : List ℕ) (first : ℕ) (ks : Children Pos) (place i : ℕ) (h : Chosen K w first ks place i) where
  pub chosen_down : (c : Counts) (up : List (Ancestor Pos)) (n : Node Pos)
      → into c up n none ks place ≡ state c (record { node = remember n h.node.move; before = h.before; after = h.after } ∷ up) h.node h.below
  unfolding append
  chosen_down c up n = rw (h.place_is, ← h.whole) (into_at c up n none h.before h.node h.below h.after)

  pub chosen_holds : (t : Node Pos → Bool) → holds_at t ks place ≡ t h.node
  chosen_holds t = rw (h.place_is, ← h.whole) (holds_at_node t h.before h.node h.below h.after)

module _ {Pos : Type 0} (K : View Pos) (w : List ℕ) (first : ℕ) (test : Node Pos → Bool) (ks : Children Pos) where
  pub looking_start : Part K w ks first NONE → size ks ≤ pool_max → Looking K w first test ks first
  unfolding append len
  looking_start p l = record { before = none; rest = ks; passed = refl; part = p; few = l; whole = refl; place_is = omega arith }

  -- An unsolved one is still to come
  pub looking_some : (i : ℕ) → Looking K w first test ks i → UnsolvedAt ks (first_that test ks) → i ≡ NONE → ⊥
  looking_some i h o = go h.rest h.part (unsolved_after h.before h.rest (first_that test h.rest) (rw (h.whole, ← h.place_is) o))
    where
      go : (r : Children Pos) → Part K w r i NONE → UnsolvedAt r (first_that test r) → i ≡ NONE → ⊥
      go none p o e = o
      go (child n b r) p o e = slot_some p.0.slot e

  pub looking_walks : (i : ℕ) → Looking K w first test ks i → Walkable K w i
  looking_walks i h = record { list = h.rest; part = h.part; few = h.few }

  pub looking_next : (i : ℕ) → (i ≡ NONE → ⊥) → ((m : Node Pos) → Held K w m i → test m ≡ false) → Looking K w first test ks i → Looking K w first test ks (word w i SIBLING)
  unfolding first_that size len append
  looking_next i some fails h = go h.rest h.part h.few h.whole h.place_is
    where
      go : (r : Children Pos) → Part K w r i NONE → size r ≤ pool_max → append h.before r ≡ ks → first_that test ks ≡ len h.before + first_that test r → Looking K w first test ks (word w i SIBLING)
      go none p l t s = absurd (some p)
      go (child m b r) p l t s =
          let at : first_that test (child m b r) ≡ suc (first_that test r) = rw (fails m p.0, first_that) in
          record {
            before = append h.before (child m b none);
            rest = r;
            passed = (part_append K w h.before (child m b none) first i (word w i SIBLING) h.passed (p.0, p.1, refl)).0;
            part = p.2;
            few = omega arith;
            whole = append_child h.before m b r ∙ t;
            place_is = omega (arith, s, at, len_append h.before (child m b none));
          }

  pub looking_found : (i : ℕ) → (i ≡ NONE → ⊥) → ((m : Node Pos) → Held K w m i → test m ≡ true) → Looking K w first test ks i → Chosen K w first ks (first_that test ks) i
  unfolding first_that
  looking_found i some passes h = go h.rest h.part h.whole h.place_is
    where
      go : (r : Children Pos) → Part K w r i NONE → append h.before r ≡ ks → first_that test ks ≡ len h.before + first_that test r → Chosen K w first ks (first_that test ks) i
      go none p t s = absurd (some p)
      go (child m b r) p t s =
          let at : first_that test (child m b r) ≡ 0 = rw (passes m p.0, first_that) in
          record { before = h.before; node = m; below = b; after = r; passed = h.passed; part = p; whole = t; place_is = omega (arith, s, at) }

  -- Past the last child: none passes the test
  pub looking_none : (i : ℕ) → i ≡ NONE → Looking K w first test ks i → (t : Node Pos → Bool) → holds_at t ks (first_that test ks) ≡ false
  unfolding first_that
  looking_none i e h t = go h.rest h.part h.whole h.place_is
    where
      go : (r : Children Pos) → Part K w r i NONE → append h.before r ≡ ks → first_that test ks ≡ len h.before + first_that test r → holds_at t ks (first_that test ks) ≡ false
      go none p q s =
          let at : first_that test ks ≡ len h.before = omega (arith, s) in
          rw (at, ← q, append_none h.before) (holds_past t h.before)
      go (child m b r) p q s = absurd (slot_some p.0.slot e)
