-- Laws of specs/Trees.antt. The plain machine's tree in words: lists of siblings, what numbers they use, and that stores elsewhere leave them alone. Rests on Words and Packed.
use Rattle.std.specs.Prelude.{◌≡◌, List, ℕ, ◌+◌, ◌<◌, max, length}
use Rattle.std.proofs.Math.Path.{refl, ap, subst}
use Rattle.std.proofs.Common.{sym, ◌∙◌, eq-eqb, ne_eqb}
use native.Mathlib.Omega.{arith}
use Rattle.machine.specs.Tree.{Node, Children, none, child, append}
use Rattle.machine.specs.Descent.{height}
use Rattle.words.specs.Packed.{View}
use Rattle.words.specs.Words.{NONE, PHI, DELTA, PACKED, FIRST, SIBLING, word, Slot, Agree, Only}
use Rattle.words.proofs.Words.{slot_long}
use Rattle.words.specs.Trees.{Held, Part, same, uses}

pub same_yes : (x : ℕ) → same x x ≡ 1
unfolding same
same_yes x = rw (eq-eqb x x refl)

pub same_no : (i x : ℕ) → (i ≡ x → ⊥) → same i x ≡ 0
unfolding same
same_no i x h = rw (ne_eqb i x h)

module _ {Pos : Type 0} where
  pub height_append : (a r : Children Pos) → height (append a r) ≡ max (height a) (height r)
  unfolding height append
  height_append none r = omega arith
  height_append (child n b ks) r = omega (arith, height_append ks r)

  -- A list that begins at no node is empty
  pub part_none : (K : View Pos) (w : List ℕ) (ks : Children Pos) (i : ℕ) → i ≡ NONE → Part K w ks i NONE → ks ≡ none
  part_none K w none i e p = refl
  part_none K w (child n b ks) i e p = absurd (omega (arith, p.0.slot.small))

module _ {Pos : Type 0} (K : View Pos) (w v : List ℕ) (long : length v ≡ length w) where
  pub held_agree : (n : Node Pos) (i : ℕ) → Agree w v i → Held K w n i → Held K v n i
  held_agree n i a h = record {
    slot = slot_long long h.slot;
    byte = h.byte;
    phi_is = a PHI (omega arith) ∙ h.phi_is;
    delta_is = a DELTA (omega arith) ∙ h.delta_is;
    packed_is = a PACKED (omega arith) ∙ h.packed_is;
  }

  -- Stores to other nodes leave a list as it is
  pub part_agree : (ks : Children Pos) (i e : ℕ) → ((x : ℕ) → 0 < uses w ks i x → Agree w v x) → Part K w ks i e
      → Part K v ks i e × ((x : ℕ) → uses v ks i x ≡ uses w ks i x)
  unfolding uses
  part_agree none i e a h = (h, λ x. refl)
  part_agree (child n b ks) i e a h =
      let here : Agree w v i = a i (omega (arith, same_yes i)) in
      let first = here FIRST (omega arith) in
      let next = here SIBLING (omega arith) in
      let p = part_agree b (word w i FIRST) NONE (λ x l. a x (omega arith)) h.1 in
      let q = part_agree ks (word w i SIBLING) e (λ x l. a x (omega arith)) h.2 in (
        (
          held_agree n i here h.0,
          subst (λ (y : ℕ). Part K v b y NONE) (sym first) p.0,
          subst (λ (y : ℕ). Part K v ks y e) (sym next) q.0,
        ),
        λ x. omega (arith, p.1 x, q.1 x, ap (λ (y : ℕ). uses v b y x) first, ap (λ (y : ℕ). uses v ks y x) next),
      )

-- A list that does not use the node that alone was stored to
pub part_only : {Pos : Type 0} (K : View Pos) (w v : List ℕ) (j : ℕ) → Only j w v → (ks : Children Pos) (i e : ℕ) → uses w ks i j ≡ 0 → Part K w ks i e → Part K v ks i e × ((x : ℕ) → uses v ks i x ≡ uses w ks i x)
part_only K w v j o ks i e z p = part_agree K w v o.long ks i e (λ x l. o.others x (λ q. omega (arith, ap (uses w ks i) q))) p

module _ {Pos : Type 0} (K : View Pos) (w : List ℕ) where
  pub part_append : (a r : Children Pos) (i j e : ℕ) → Part K w a i j → Part K w r j e
      → Part K w (append a r) i e × ((x : ℕ) → uses w (append a r) i x ≡ uses w a i x + uses w r j x)
  unfolding append uses
  part_append none r i j e h g = (subst (λ (y : ℕ). Part K w r y e) (sym h) g, λ x. omega (arith, ap (λ (y : ℕ). uses w r y x) h))
  part_append (child n b ks) r i j e h g =
      let p = part_append ks r (word w i SIBLING) j e h.2 g in
      ((h.0, h.1, p.0), λ x. omega (arith, p.1 x))

  -- A number that is not one of the pool's is not used
  pub part_outside : (ks : Children Pos) (i e x : ℕ) → Part K w ks i e → (Slot w x → ⊥) → uses w ks i x ≡ 0
  unfolding uses
  part_outside none i e x h z = refl
  part_outside (child n b ks) i e x h z =
      omega (arith, same_no i x (λ q. z (subst (λ (y : ℕ). Slot w y) q h.0.slot)), part_outside b (word w i FIRST) NONE x h.1 z, part_outside ks (word w i SIBLING) e x h.2 z)
