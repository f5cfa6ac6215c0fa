-- What each step of a round asks for, from what stands after the one before. Rests on Rounding and the steps' contracts.
use Rattle.std.specs.Prelude.{◌≡◌, Bool, false, IsNone, List, ℕ, ◌-◌, ◌/◌, ◌≤◌, length}
use Rattle.std.proofs.Math.Path.{ap, sym}
use Rattle.std.proofs.Common.{◌∙◌}
use native.Mathlib.Omega.{arith}
use borrow.Author.Tests.{ltb-false}
use Rattle.std.proofs.Math.Dec.{ltb}
use Rattle.rules.specs.Rules.{Position}
use Rattle.rules.specs.Record.{side_bit}
use Rattle.machine.specs.Tree.{size, solved}
use Rattle.machine.specs.Game.{Game, sequences}
use Rattle.machine.specs.Machine as machine
use Rattle.machine.proofs.Descent.{depth_left}
use Rattle.machine.proofs.Rounds.{expand_ok, expand_counts}
use Rattle.plain.specs.Plain.{game_of}
use Rattle.plain.proofs.Laws.{lawful, policy_sane, policy_needs}
use Rattle.words.specs.Words.{capacity}
use Rattle.words.proofs.Steps.{line_root}
use Rattle.prover.specs.declared.Prover.{Prover}
use Rattle.prover.specs.declared.Ascent.{Ascent}
use Rattle.prover.specs.Stands.{Stands}
use Rattle.stay.specs.Margin.{stay_of}
use Rattle.room.specs.Shortness.{AtLeaf}
use Rattle.expand.specs.Expandable.{Expandable, Expansion}
use Rattle.climb.specs.Asks.{Climbable}
use Rattle.pn.specs.Results.{machine_settings}
use Rattle.pn.specs.Going.{Going, Ranges, policy_for}
use Rattle.pn.specs.Rounding.{leaf, leaf_ok, leaf_open, leaf_playing}
use Rattle.pn.specs.declared.Settings.{Settings}
use Rattle.pn.specs.declared.Running.{Running}

-- a search of p with settings s in words w
module _ (p : Position) (s : Settings) (w : List ℕ) where
  abbrev G : Game
  G = game_of s.rule p

  abbrev P : machine.Policy G
  P = policy_for s p

  abbrev S : machine.Settings
  S = machine_settings w s

  module _ (path ps : List ℕ) (x : Running) (g : Going p s w path ps x) (ranges : Ranges w s) (going : IsNone x.stop)
      (unsolved : solved (machine.root g.at) ≡ false) (more : x.prover.expanded ≡ s.budget → ⊥) (w₁ path' ps' : List ℕ) (y : Prover) (long : length w₁ ≡ length w)
      (st : Stands s.rule p.side w₁ path' ps' y (machine.to_leaf G P g.at)) where
    pub same : capacity w₁ ≡ capacity w
    same = ap (λ n. n / 5) long

    abbrev t : machine.State Position
    t = machine.to_leaf G P g.at

    -- what step 3 asks for
    unfoldable pub to_room : (root : ℕ) → root ≡ side_bit p.side → AtLeaf w₁ path' ps' y s.rule root
    to_room root er = record { side = p.side; attacker_is = er; at = t; stands = st; playing = leaf_playing p s w path ps x g ranges going unsolved more }

    -- step 3 was short, or not
    pub short_is : (b : Bool) → b ≡ ltb (capacity w₁ - machine.live t.counts) (size (machine.children G t.node.pos)) → machine.short G P S t ≡ b
    unfolding machine.short
    short_is b e =
        let need = policy_needs s.rule p.side (stay_of s.stay) t.node.pos in
        ap (ltb (capacity w - machine.live t.counts)) need ∙ ap (λ n. ltb (n - machine.live t.counts) (size (machine.children G t.node.pos))) (sym same) ∙ sym e

    pub place : y.depth ≡ length t.above
    place = sym (line_root _ w₁ path' y.depth _ st.tree.tree.above)

    module _ (enough : machine.short G P S t ≡ false) where
      pub room : size (machine.children G t.node.pos) ≤ capacity w - machine.live t.counts
      unfolding machine.short
      room =
          omega (
            arith,
            ltb-false (capacity w - machine.live t.counts) (P.need t.node.pos) enough,
            (policy_sane s.rule p.side (stay_of s.stay)).covers t.node.pos,
          )

      -- what expanding asks for
      unfoldable pub to_expand : (root : ℕ) → root ≡ side_bit p.side → Expandable w₁ path' ps' y s.rule root
      to_expand root er =
          let f = leaf p s w path ps x g ranges going unsolved more in
          let o = leaf_open p s w path ps x g ranges going unsolved more in
          let L = lawful s.rule p.side in
          let l = (g.onward going).0 in
          record {
            side = p.side;
            at = t;
            root_is = er;
            stands = st;
            shut = f.shut;
            bare = o.bare;
            move = o.some;
            legal = o.legal;
            room = rw same room;
            deep = omega (arith, place, depth_left G L p t.above t.node f.rest.above, L.falls t.node.pos o.some o.legal, g.few);
            few_allocated = omega (arith, st.tree.allocated_is, ap (λ c. c.allocated) f.counts_same, g.allocated_most, l.0, ranges.countable);
            few_expanded = omega (arith, st.expanded_is, ap (λ c. c.expanded) f.counts_same, l.0, ranges.countable);
          }

      -- what climbing asks for
      unfoldable pub to_climb : (v : List ℕ) (e : Ascent) → Expansion s.rule p.side t w₁ path' ps' v e → Climbable v path' e.prover e.bounds.phi e.bounds.delta
      unfolding machine.expand
      to_climb v e h =
          let f = leaf p s w path ps x g ranges going unsolved more in
          let L = lawful s.rule p.side in
          record {
            rule = s.rule;
            side = p.side;
            start = p;
            ps = ps';
            at = machine.expand G t;
            stands = h.stands;
            phi_is = h.phi_is;
            delta_is = h.delta_is;
            climbing = expand_ok G L p t f.rest f.shut;
            counts_fit = expand_counts G L p t f.rest f.shut (sequences G p) (leaf_ok p s w path ps x g ranges going unsolved more).counts_fit;
          }
