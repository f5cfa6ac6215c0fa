-- The loop of find, the test of the child found, and the choice between it and the one that select gives. Rests on Promises and words' walks.
use Rattle.std.specs.Prelude.{◌≡◌, List, Bool, true, false, not, ◌&&◌, ◌||◌, ℕ, ◌+◌, ◌*◌, eqb, leb, Float, Option, Some, None}
use Rattle.std.proofs.Common.{ap, sym, ◌∙◌}
use Rattle.rules.specs.Rules.{Position}
use Rattle.machine.specs.Tree.{Node, Children, solved}
use Rattle.machine.specs.Machine.{has_delta, has_move, first_that, first_with, holds_at, within_margin, choice, off, margin}
use Rattle.machine.proofs.Standard.{choice_by}
use Rattle.words.specs.Packed.{View, move_in}
use Rattle.words.proofs.Packed.{packed_read}
use Rattle.words.specs.Words.{PHI, DELTA, PACKED, word, Slot}
use Rattle.words.specs.Trees.{Held}
use Rattle.words.specs.Walks.{Chosen}
use Rattle.words.proofs.Walks.{chosen_holds, looking_start}
use Rattle.stay.specs.Margin.{steps_in}
use Rattle.node_pool.specs.declared.NodeID.{NodeID}
use Rattle.node_pool.specs.Seeking.{Sought}
use Rattle.descend.specs.Promises.{Selectable, Selects, Findable, Found, Finds, Tests, Listing, Choosing}

-- The walk for the move comes to what `find` promises
pub found_by : (K : View Position) (w : List ℕ) (first x : ℕ) (ks : Children Position) (r : Option NodeID) → Sought K w first (has_move x) ks r → Found K w first x ks r
found_by K w first x ks (Some i) s = s.0
found_by K w first x ks None s = s

-- The move in a node's word is the node's
pub move_of : (K : View Position) (w : List ℕ) (m : Node Position) (i : ℕ) → Held K w m i → move_in (word w i PACKED) ≡ m.move
move_of K w m i h = ap move_in h.packed_is ∙ (packed_read K m h.byte).move_is

-- The test of the node found, where b says whether it is solved
pub tests : {w : List ℕ} {i : ℕ} (phi : ℕ) (f : Float) {own delta : ℕ} {r b : Bool} → own ≡ word w i PHI → delta ≡ word w i DELTA → b ≡ (eqb own 0 || eqb delta 0) → (t : Bool) → b ≡ t
    → r ≡ (not t && leb (256 * delta) (phi * (256 + steps_in f))) → Tests w i phi f r
unfolding within_margin solved
tests phi f p d q t z e = λ K m h. e ∙ rw (sym z, q, p ∙ h.phi_is, d ∙ h.delta_is)

module _ {w : List ℕ} {first phi remembered : ℕ} (g : Choosing w first phi remembered) where
  pub to_select : Selectable w first phi
  to_select = record { view = g.view; list = g.list; looking = looking_start g.view w first (has_delta phi) g.list g.listing.part g.listing.few; there = g.listing.there }

  pub to_find : Findable w first
  to_find = record { view = g.view; list = g.list; part = g.listing.part; few = g.listing.few }

  pub found_slot : {i : NodeID} → Finds w first remembered (Some i) → Slot w i.0
  unfolding to_find
  found_slot t = (t g.view g.list to_find.part to_find.few).part.0.slot

-- Off: select has the child; with a margin the node found, if it is within it, and else select
module _ (K : View Position) (w : List ℕ) (first phi remembered : ℕ) (n : Node Position) (ks : Children Position) (l : Listing K w first phi remembered n ks) where
  chosen_listed : (i : ℕ) → Selects w first phi i → Chosen K w first ks (first_with n.phi ks) i
  chosen_listed i s = rw l.phi_is (s K ks (looking_start K w first (has_delta phi) ks l.part l.few) l.there)

  pub chosen_off : (i : ℕ) → Selects w first phi i → Chosen K w first ks (choice off n ks) i
  unfolding choice
  chosen_off i s = chosen_listed i s

  module _ (f : Float) where
    -- Whether the child that the remembered move names is within the margin
    abbrev pub Tried : Bool → Type 0
    Tried b = holds_at (within_margin (steps_in f) n.phi) ks (first_that (has_move n.remembered) ks) ≡ b

    there : (r : Option NodeID) → Finds w first remembered r → Found K w first remembered ks r
    there r t = t K ks l.part l.few

    pub tried_none : Finds w first remembered None → Tried false
    tried_none t = rw (l.phi_is, l.remembered_is) (there None t (within_margin (steps_in f) phi))

    pub chosen_else : Tried false → (i : ℕ) → Selects w first phi i → Chosen K w first ks (choice (margin (steps_in f)) n ks) i
    chosen_else q i s = rw (choice_by (steps_in f) n ks false q) (chosen_listed i s)

    module _ (j : NodeID) (t : Finds w first remembered (Some j)) where
      pub tried_some : (b : Bool) → Tests w j.0 phi f b → Tried b
      tried_some b o =
          let c = there (Some j) t in
          rw (l.phi_is, l.remembered_is) (chosen_holds K w first ks _ j.0 c (within_margin (steps_in f) phi) ∙ sym (o K c.node c.part.0))

      pub chosen_again : Tried true → Chosen K w first ks (choice (margin (steps_in f)) n ks) j.0
      chosen_again q =
          let same : choice (margin (steps_in f)) n ks ≡ first_that (has_move remembered) ks =
          choice_by (steps_in f) n ks true q ∙ ap (λ (x : ℕ). first_that (has_move x) ks) l.remembered_is in
          rw same (there (Some j) t)
