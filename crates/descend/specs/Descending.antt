-- The loop that does step 2: what stands on the way down leads to the same leaf. Rests on Down and the laws of the machine.
use Rattle.std.specs.Prelude.{◌≡◌, refl, List, false, ℕ, ◌+◌, length, get_or}
use Rattle.std.proofs.Common.{ap, ◌∙◌}
use Rattle.std.proofs.Math.Path.{sym, subst}
use Rattle.std.proofs.Math.Numerals.{add-one}
use Rattle.rules.specs.Rules.{Position}
use Rattle.machine.specs.Game.{Game}
use Rattle.machine.specs.Tree.{solved}
use Rattle.machine.specs.Machine.{State, Policy, root, down, to_leaf}
use Rattle.machine.specs.Place.{AtUnsolved}
use Rattle.machine.proofs.Descent.{down_ok, leaf_down, leaf_here}
use Rattle.machine.proofs.Rounds.{at_unsolved}
use Rattle.plain.specs.Plain.{game, policy_of}
use Rattle.plain.proofs.Laws.{lawful, policy_sane}
use Rattle.words.specs.Packed.{expanded_in}
use Rattle.words.specs.Words.{PACKED, word, Beyond}
use Rattle.words.proofs.Words.{beyond_trans}
use Rattle.prover.specs.declared.Prover.{Prover}
use Rattle.prover.specs.Stands.{Stands, Searching}
use Rattle.stay.specs.declared.Stay.{Stay}
use Rattle.stay.specs.Margin.{stay_of}
use Rattle.descend.specs.declared.Current.{Current}
use Rattle.descend.specs.Promises.{at_depth, Unsolved, GoesDown, AtLeaf}
use Rattle.descend.specs.Down.{few, expanded, not_expanded}

module _ (y : Stay) {w₀ path₀ ps₀ : List ℕ} {x : Prover} (g : Searching w₀ path₀ ps₀ x) where
  abbrev G : Game
  G = game g.rule g.side

  abbrev P : Policy G
  P = policy_of g.rule g.side (stay_of y)

  -- A state stands there, its current node unsolved, at place d, with this number and packed word; from it step 2 comes to the leaf to which it comes from the start
  pub record Descending (w path ps : List ℕ) (d : ℕ) (r : Current) : Type 0 where
    pub at : State Position
    pub stands : Stands g.rule g.side w path ps (at_depth x d) at
    pub unsolved : AtUnsolved G g.start at
    pub id_is : r.id.0 ≡ get_or path d 0
    pub packed_is : r.packed ≡ word w r.id.0 PACKED
    pub leaf : to_leaf G P at ≡ to_leaf G P g.at
    pub long : length w ≡ length w₀
    pub past : Beyond w₀ w

  pub descending_start : {r : Current} → solved (root g.at) ≡ false → r.id.0 ≡ get_or path₀ x.depth 0 → r.packed ≡ word w₀ r.id.0 PACKED → Descending w₀ path₀ ps₀ x.depth r
  descending_start e q p = record {
    at = g.at;
    stands = g.stands;
    unsolved = at_unsolved G g.start g.at g.ok.tree_ok e;
    id_is = q;
    packed_is = p;
    leaf = refl;
    long = refl;
    past = λ j l. refl;
  }

  module _ {w path ps : List ℕ} {d : ℕ} {r : Current} (h : Descending w path ps d r) where
    -- What going down asks for
    unfoldable pub current : Unsolved w path ps d
    current = record { rule = g.rule; side = g.side; start = g.start; prover = x; at = h.at; stands = h.stands; unsolved = h.unsolved }

    packed_here : r.packed ≡ word w (get_or path d 0) PACKED
    packed_here = h.packed_is ∙ ap (λ (j : ℕ). word w j PACKED) h.id_is

    pub descending_step : expanded_in r.packed ≡ 1 → {v path' ps' : List ℕ} {t : Current} → GoesDown y w path ps d v path' ps' t → Descending v path' ps' (d + 1) t
    unfolding current
    descending_step o {v} f =
        let L = lawful g.rule g.side in
        let Q = policy_sane g.rule g.side (stay_of y) in
        let z = few current in
        let e = expanded current (ap expanded_in (sym packed_here) ∙ o) in
        let n = f current in
        rw add-one record {
          at = down G P h.at;
          stands = n.stands;
          unsolved = (down_ok G L P Q g.start h.at h.unsolved z e).rest;
          id_is = n.id_is;
          packed_is = n.packed_is;
          leaf = sym (leaf_down G L P Q g.start h.at h.unsolved z e) ∙ h.leaf;
          long = n.long ∙ h.long;
          past = beyond_trans w₀ w v h.long h.past n.past;
        }

    pub descending_done : (expanded_in r.packed ≡ 1 → ⊥) → AtLeaf y w₀ path₀ ps₀ x g w path ps (at_depth x d)
    unfolding current
    descending_done o =
        let e = leaf_here G P h.at (not_expanded current (λ q. o (ap expanded_in packed_here ∙ q))) in
        record { stands = subst (λ (s : State Position). Stands g.rule g.side w path ps (at_depth x d) s) (sym e ∙ h.leaf) h.stands; long = h.long; past = h.past }
