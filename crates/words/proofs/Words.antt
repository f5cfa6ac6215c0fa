-- Laws of specs/Words.antt. The five words of a node, and what a store leaves alone. Rests on lists alone.
use Rattle.std.specs.Prelude.{◌≡◌, refl, List, ℕ, ◌+◌, ◌*◌, ◌/◌, ◌%◌, ◌≤◌, ◌<◌, length}
use Rattle.std.proofs.Common.{sym, ◌∙◌, subst, arith, length-set, get_or-set_same, get_or-set_other}
use Rattle.words.specs.Words.{NONE, PHI, DELTA, PACKED, FIRST, SIBLING, set_word, capacity, Slot, Agree, Only, Beyond, Stored, Filled}

pub slot_long : {w v : List ℕ} {i : ℕ} → length v ≡ length w → Slot w i → Slot v i
slot_long e s = record { small = s.small; fits = omega arith }

pub slot_some : {w : List ℕ} {i : ℕ} → Slot w i → i ≡ NONE → ⊥
slot_some s e = omega arith

pub agree_refl : (w : List ℕ) (x : ℕ) → Agree w w x
agree_refl w x f l = refl

pub agree_trans : (u w v : List ℕ) (x : ℕ) → Agree u w x → Agree w v x → Agree u v x
agree_trans u w v x a b f l = b f l ∙ a f l

pub only_refl : (i : ℕ) (w : List ℕ) → Only i w w
only_refl i w = record { long = refl; others = λ x z. agree_refl w x }

pub only_trans : {i : ℕ} {u w v : List ℕ} → Only i u w → Only i w v → Only i u v
only_trans {i} {u} {w} {v} a b = record { long = b.long ∙ a.long; others = λ x z. agree_trans u w v x (a.others x z) (b.others x z) }

pub stored : (w v : List ℕ) (i f x : ℕ) → Slot w i → f < 5 → v ≡ set_word w i f x → Stored w v i f x
stored w v i f x s h e = subst (λ (l : List ℕ). Stored w l i f x) (sym e) record {
  only = record { long = length-set w (i * 5 + f) x; others = λ y z g l. get_or-set_other w (i * 5 + f) (y * 5 + g) x 0 (λ q. z (omega arith)) };
  at = get_or-set_same w (i * 5 + f) x 0 (omega arith);
  beside = λ g z. get_or-set_other w (i * 5 + f) (i * 5 + g) x 0 (λ q. z (omega arith));
}

pub beyond_trans : (w v u : List ℕ) → length v ≡ length w → Beyond w v → Beyond v u → Beyond w u
beyond_trans w v u long a b j l = b j (omega arith) ∙ a j l

-- What touches no node past the capacity touches no word there
pub beyond : (w v : List ℕ) → ((x : ℕ) → capacity w ≤ x → Agree w v x) → Beyond w v
beyond w v a j l =
    let q : j / 5 * 5 + j % 5 ≡ j = omega arith in
    rw q at (a (j / 5) (omega arith) (j % 5) (omega arith))

pub only_beyond : {i : ℕ} {w v : List ℕ} → Slot w i → Only i w v → Beyond w v
only_beyond {i} {w} {v} s o = beyond w v (λ x l. o.others x (λ e. omega arith))

-- By five stores
pub filled : {w w₁ w₂ w₃ w₄ v : List ℕ} {i p d k c s : ℕ} → Stored w w₁ i PHI p → Stored w₁ w₂ i DELTA d → Stored w₂ w₃ i PACKED k → Stored w₃ w₄ i FIRST c → Stored w₄ v i SIBLING s
    → Filled w v i p d k c s
filled a b e g h = record {
  only = only_trans a.only (only_trans b.only (only_trans e.only (only_trans g.only h.only)));
  phi_is = h.beside PHI (omega arith) ∙ g.beside PHI (omega arith) ∙ e.beside PHI (omega arith) ∙ b.beside PHI (omega arith) ∙ a.at;
  delta_is = h.beside DELTA (omega arith) ∙ g.beside DELTA (omega arith) ∙ e.beside DELTA (omega arith) ∙ b.at;
  packed_is = h.beside PACKED (omega arith) ∙ g.beside PACKED (omega arith) ∙ e.at;
  first_is = h.beside FIRST (omega arith) ∙ g.at;
  sibling_is = h.at;
}
