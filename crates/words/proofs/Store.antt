-- What steps 4 and 5 store to the current node: its flag and its first child; its numbers, and no child if it is solved. Rests on Current.
use Rattle.std.specs.Prelude.{◌≡◌, List, false, ℕ, ◌+◌, ◌≤◌, ◌<◌, min, get_or}
use Rattle.std.proofs.Math.Path.{refl}
use Rattle.std.proofs.Common.{◌∙◌, arith}
use Rattle.machine.specs.Game.{Game}
use Rattle.machine.specs.Tree.{Node, u32_max, Children, none, least_delta, sum_phi}
use Rattle.machine.specs.Machine.{Ancestor, opened, renumber}
use Rattle.words.specs.Packed.{View, packed}
use Rattle.words.proofs.Packed.{packed_opened}
use Rattle.words.specs.Words.{NONE, PHI, DELTA, PACKED, FIRST, SIBLING, word, set_word, Slot, Only, Stored}
use Rattle.words.proofs.Words.{stored, slot_long, only_trans}
use Rattle.words.specs.Trees.{Held}
use Rattle.words.specs.Pool.{Holding}
use Rattle.words.proofs.Current.{renewed, attached, detached}

-- The numbers of node i are p and d, and no other word changed
pub record Renumbered (w v : List ℕ) (i p d : ℕ) : Type 0 where
  pub only : Only i w v
  pub phi_is : word v i PHI ≡ p
  pub delta_is : word v i DELTA ≡ d
  pub beside : (f : ℕ) → 2 ≤ f → word v i f ≡ word w i f

pub renumbered : (w v : List ℕ) (i p d : ℕ) → Slot w i → v ≡ set_word (set_word w i PHI p) i DELTA d → Renumbered w v i p d
renumbered w v i p d s e =
    let a = stored w (set_word w i PHI p) i PHI p s (omega arith) refl in
    let b = stored (set_word w i PHI p) v i DELTA d (slot_long a.only.long s) (omega arith) e in
    record {
      only = only_trans a.only b.only;
      phi_is = b.beside PHI (omega arith) ∙ a.at;
      delta_is = b.at;
      beside = λ f l. b.beside f (omega arith) ∙ a.beside f (omega arith);
    }

module _ (G : Game) (K : View G.Pos) (w path : List ℕ) (d head used : ℕ) (up : List (Ancestor G.Pos)) (n : Node G.Pos) where
  -- Step 4: a leaf is expanded, and the children made are its own
  pub holding_opened : (loose : Children G.Pos) (last : ℕ) → Holding K w path d head used up n none loose last → n.expanded ≡ false → (w₁ v : List ℕ)
      → Stored w w₁ (get_or path d 0) PACKED (word w (get_or path d 0) PACKED + 536870912) → Stored w₁ v (get_or path d 0) FIRST last → Holding K v path d head used up (opened G n) loose none NONE
  unfolding opened
  holding_opened loose last h e w₁ v a b =
      let only = only_trans a.only b.only in
      let same : (f : ℕ) → (f ≡ PACKED → ⊥) → (f ≡ FIRST → ⊥) → word v (get_or path d 0) f ≡ word w (get_or path d 0) f = λ f y z. b.beside f z ∙ a.beside f y in
      attached K w path d head used up n none loose last h v only (same SIBLING (omega arith) (omega arith)) (opened G n)
      (record {
        slot = slot_long only.long h.node.slot;
        byte = h.node.byte;
        phi_is = same PHI (omega arith) (omega arith) ∙ h.node.phi_is;
        delta_is = same DELTA (omega arith) (omega arith) ∙ h.node.delta_is;
        packed_is = omega (arith, b.beside PACKED (omega arith), a.at, h.node.packed_is, packed_opened G K n e);
      }) refl b.at

  -- Step 5: its numbers are worked out anew
  module _ (ks : Children G.Pos) (h : Holding K w path d head used up n ks none NONE) (w₁ : List ℕ) (a : Renumbered w w₁ (get_or path d 0) (least_delta ks) (min (sum_phi ks) u32_max)) where
    held : (v : List ℕ) → Only (get_or path d 0) w₁ v → ((f : ℕ) → f < 3 → word v (get_or path d 0) f ≡ word w₁ (get_or path d 0) f) → Held K v (renumber G n ks) (get_or path d 0)
    unfolding renumber packed
    held v o same = record {
      slot = slot_long (o.long ∙ a.only.long) h.node.slot;
      byte = h.node.byte;
      phi_is = same PHI (omega arith) ∙ a.phi_is;
      delta_is = same DELTA (omega arith) ∙ a.delta_is;
      packed_is = same PACKED (omega arith) ∙ a.beside PACKED (omega arith) ∙ h.node.packed_is;
    }

    pub holding_renumbered : Holding K w₁ path d head used up (renumber G n ks) ks none NONE
    holding_renumbered =
        renewed K w path d head used up n ks none NONE h w₁ a.only (a.beside SIBLING (omega arith)) (renumber G n ks)
        (held w₁ (record { long = refl; others = λ x z f l. refl }) (λ f l. refl)) (a.beside FIRST (omega arith))

    -- Solved: its children are cut off
    pub holding_cut : (v : List ℕ) → Stored w₁ v (get_or path d 0) FIRST NONE → Holding K v path d head used up (renumber G n ks) none ks (word w (get_or path d 0) FIRST)
    holding_cut v b =
        detached K w path d head used up n ks none NONE h v (only_trans a.only b.only) (b.beside SIBLING (omega arith) ∙ a.beside SIBLING (omega arith)) (renumber G n ks)
        (held v b.only (λ f l. b.beside f (omega arith))) refl b.at
