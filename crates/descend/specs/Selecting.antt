-- The loop of select: the child that step 2 takes is still to come. Rests on Promises and words' walks.
use Rattle.std.specs.Prelude.{◌≡◌, List, ℕ, ◌<◌}
use Rattle.std.proofs.Common.{sym, ◌∙◌, eq-eqb, ne_eqb}
use Rattle.rules.specs.Rules.{Position}
use Rattle.machine.specs.Tree.{Children}
use Rattle.machine.specs.Machine.{has_delta, first_with}
use Rattle.machine.specs.Place.{pool_max, UnsolvedAt}
use Rattle.words.specs.Packed.{View}
use Rattle.words.specs.Words.{NONE, DELTA, SIBLING, word, Slot}
use Rattle.words.specs.Walks.{Looking}
use Rattle.words.proofs.Walks.{Standing, siblings, standing, looking_some, looking_walks, looking_next, looking_found}
use Rattle.descend.specs.Promises.{Selectable, Selects}

-- Each list that has the child is walked as far as node i, a node of the pool
pub record Selecting (w : List ℕ) (first phi i : ℕ) : Type 0 where
  pub walked : (K : View Position) (ks : Children Position) → Looking K w first (has_delta phi) ks first → UnsolvedAt ks (first_with phi ks)
      → Looking K w first (has_delta phi) ks i
  pub standing : (K : View Position) × Standing K w i

selecting_at : (w : List ℕ) (first phi i : ℕ) → Selectable w first phi
    → ((K : View Position) (ks : Children Position) → Looking K w first (has_delta phi) ks first → UnsolvedAt ks (first_with phi ks) → Looking K w first (has_delta phi) ks i)
    → Selecting w first phi i
selecting_at w first phi i g f =
    let h = f g.view g.list g.looking g.there in
    record {
      walked = f;
      standing = (g.view, standing g.view w i (looking_walks g.view w first (has_delta phi) g.list i h) (looking_some g.view w first (has_delta phi) g.list i h g.there));
    }

pub selecting_start : {w : List ℕ} {first phi : ℕ} → Selectable w first phi → Selecting w first phi first
selecting_start g = selecting_at _ _ _ _ g (λ K ks h o. h)

module _ {w : List ℕ} {first phi i : ℕ} (s : Selecting w first phi i) where
  pub selecting_slot : Slot w i
  selecting_slot = s.standing.1.slot

  some : (K : View Position) (ks : Children Position) → Looking K w first (has_delta phi) ks first → UnsolvedAt ks (first_with phi ks) → i ≡ NONE → ⊥
  some K ks h o = looking_some K w first (has_delta phi) ks i (s.walked K ks h o) o

  pub selecting_less : {j : ℕ} → j ≡ word w i SIBLING → siblings pool_max w j < siblings pool_max w i
  selecting_less e = rw e s.standing.1.fewer

  -- d is the delta of node i
  module _ {d : ℕ} (delta_is : d ≡ word w i DELTA) where
    pub selecting_next : Selectable w first phi → (d ≡ phi → ⊥) → {j : ℕ} → j ≡ word w i SIBLING → Selecting w first phi j
    selecting_next g z e =
        rw e
        (selecting_at _ _ _ _ g (λ K ks h o. looking_next K w first (has_delta phi) ks i (some K ks h o) (λ m t. ne_eqb m.delta phi (λ q. z (delta_is ∙ t.delta_is ∙ q))) (s.walked K ks h o)))

    pub selecting_done : d ≡ phi → Selects w first phi i
    selecting_done e K ks h o =
        looking_found K w first (has_delta phi) ks i (some K ks h o) (λ m t. eq-eqb m.delta phi (sym t.delta_is ∙ sym delta_is ∙ e)) (s.walked K ks h o)
