-- Laws of specs/Free.antt. The freed nodes, threaded through the first-child word, last freed first; and the numbers never used. Rests on Trees.
use Rattle.std.specs.Prelude.{◌≡◌, refl, List, [], ◌∷◌, ◌++◌, Bool, true, false, ℕ, suc, ◌+◌, ◌≤◌, ◌<◌, length, leb}
use Rattle.std.proofs.Common.{ap, sym, ◌∙◌, subst, arith, le-leb, leb-true, leb-false}
use Rattle.std.proofs.lemmas.Bool.{lt-leb}
use Rattle.machine.specs.Place.{pool_max}
use Rattle.words.specs.Packed.{freed}
use Rattle.words.specs.Words.{NONE, PACKED, FIRST, word, capacity, Slot, Agree, Only, Stored}
use Rattle.words.proofs.Words.{slot_long, slot_some, only_trans}
use Rattle.words.specs.Trees.{same}
use Rattle.words.proofs.Trees.{same_yes, same_no}
use Rattle.words.specs.Free.{Free, among, unused, Released, Spare, next_number, left_freed, used_then, Number}

pub among_append : (xs ys : List ℕ) (x : ℕ) → among (xs ++ ys) x ≡ among xs x + among ys x
unfolding among
among_append [] ys x = omega arith
among_append (y ∷ xs) ys x = omega (arith, among_append xs ys x)

pub unused_yes : (used x : ℕ) → used ≤ x → unused used x ≡ 1
unfolding unused
unused_yes used x l = rw (le-leb used x l)

pub unused_no : (used x : ℕ) → x < used → unused used x ≡ 0
unfolding unused
unused_no used x l = rw (lt-leb used x l)

-- The first of them is used now
pub unused_next : (used x : ℕ) → same used x + unused (suc used) x ≡ unused used x
unfolding unused same
unused_next used x = go (leb used x) refl (leb (suc used) x) refl
  where
    go : (a : Bool) → leb used x ≡ a → (b : Bool) → leb (suc used) x ≡ b → same used x + unused (suc used) x ≡ unused used x
    go true e true g = rw (e, g, same_no used x (λ q. omega (arith, leb-true (suc used) x g)))
    go true e false g = omega (arith, unused_yes used x (leb-true used x e), unused_no (suc used) x (leb-false (suc used) x g), ap (same used) (here e g), same_yes used)
      where
        here : leb used x ≡ true → leb (suc used) x ≡ false → x ≡ used
        here p q = omega (arith, leb-true used x p, leb-false (suc used) x q)
    go false e true g = absurd (omega (arith, leb-false used x e, leb-true (suc used) x g))
    go false e false g = omega (arith, unused_no used x (leb-false used x e), unused_no (suc used) x (leb-false (suc used) x g), same_no used x (λ q. omega (arith, leb-false used x e)))

-- Stores to other nodes leave the freed ones as they are
pub free_agree : (w v : List ℕ) → length v ≡ length w → (xs : List ℕ) (h : ℕ) → ((x : ℕ) → 0 < among xs x → Agree w v x) → Free w xs h → Free v xs h
unfolding among
free_agree w v long [] h a f = f
free_agree w v long (x ∷ xs) h a f =
    let here : Agree w v x = a x (omega (arith, same_yes x)) in (
      f.0,
      slot_long long f.1,
      here PACKED (omega arith) ∙ f.2,
      subst (λ (y : ℕ). Free v xs y) (sym (here FIRST (omega arith))) (free_agree w v long xs (word w x FIRST) (λ y l. a y (omega arith)) f.3),
    )

pub released : {w w₁ v : List ℕ} {i h : ℕ} → Stored w w₁ i PACKED freed → Stored w₁ v i FIRST h → Released w v i h
released a b = record { only = only_trans a.only b.only; packed_is = b.beside PACKED (omega arith) ∙ a.at; first_is = b.at }

-- It is the first of the freed nodes then
pub free_push : (w v : List ℕ) (i h : ℕ) (xs : List ℕ) → Released w v i h → Slot w i → among xs i ≡ 0 → Free w xs h → Free v (i ∷ xs) i
free_push w v i h xs r s z f = (
  refl,
  slot_long r.only.long s,
  r.packed_is,
  subst (λ (y : ℕ). Free v xs y) (sym r.first_is) (free_agree w v r.only.long xs h (λ x l. r.only.others x (λ q. omega (arith, ap (among xs) q))) f),
)

-- At the start of a search every number is free, whatever the words
unfoldable pub all_spare : (w : List ℕ) → 0 < capacity w → capacity w ≤ pool_max → Spare w NONE 0
unfolding among
all_spare w l m = record { list = []; free = refl; once = λ x. omega (arith, unused_yes 0 x (omega arith)); fits = omega arith; few = m; some = omega arith }

-- A freed one
pub take_freed : (w : List ℕ) (head used : ℕ) (g : Spare w head used) → (head ≡ NONE → ⊥) → Number w head used g head (word w head FIRST) used
unfolding among
take_freed w head used g z = go g.list refl g.free
  where
    go : (xs : List ℕ) → g.list ≡ xs → Free w xs head → Number w head used g head (word w head FIRST) used
    go [] e f = absurd (z f)
    go (x ∷ xs) e f = record {
      id_is = f.0 ∙ sym (ap (λ (l : List ℕ). next_number l used) e);
      used_is = sym (ap (λ (l : List ℕ). used_then l used) e);
      free = rw e (subst (λ (y : ℕ). Free w xs (word w y FIRST)) (sym f.0) f.3);
      slot = subst (λ (y : ℕ). Slot w y) (sym f.0) f.1;
      fits = g.fits;
      fewer = rw e (omega arith);
      counted = λ y. rw e (omega (arith, ap (λ (t : ℕ). same t y) f.0));
    }

-- One never used
pub take_fresh : (w : List ℕ) (head used : ℕ) (g : Spare w head used) → head ≡ NONE → Number w head used g used head (used + 1)
unfolding among
take_fresh w head used g z = go g.list refl g.free
  where
    go : (xs : List ℕ) → g.list ≡ xs → Free w xs head → Number w head used g used head (used + 1)
    go (x ∷ xs) e f = absurd (slot_some f.1 (sym f.0 ∙ z))
    go [] e f =
        let one : used + 1 ≡ suc used = omega arith in
        let in_range : used < capacity w = omega (arith, g.some, ap length e) in
        record {
          id_is = sym (ap (λ (l : List ℕ). next_number l used) e);
          used_is = one ∙ sym (ap (λ (l : List ℕ). used_then l used) e);
          free = rw e f;
          slot = record { small = omega (arith, g.few); fits = omega arith };
          fits = omega arith;
          fewer = rw e (omega arith);
          counted = λ y. rw e (omega (arith, unused_next used y, ap (λ (t : ℕ). unused t y) one));
        }

-- A node is made of the number taken: what is free then stands in the words as they are now
pub taken_free : (w v : List ℕ) (head used : ℕ) (g : Spare w head used) (id head' used' : ℕ) (n : Number w head used g id head' used') → Only id w v → Free v (left_freed g.list) head'
taken_free w v head used g id head' used' n o =
    free_agree w v o.long (left_freed g.list) head'
    (λ x l. o.others x (λ q. omega (arith, g.once id, n.counted id, same_yes id, ap (among (left_freed g.list)) q))) n.free
