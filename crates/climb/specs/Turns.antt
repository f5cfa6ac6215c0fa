-- The turns of a climb: how it starts, what a turn may do, and where it ends. Rests on Storing and the plain machine's Climb.
use Rattle.std.specs.Prelude.{◌≡◌, Bool, true, false, ◌&&◌}
use Rattle.std.proofs.Math.Path.{refl, ap, sym, subst}
use Rattle.std.proofs.Common.{◌∙◌}
use mathlib.Core.List.{List, [], ◌∷◌}
use Rattle.std.proofs.Math.Bool.{cond}
use Prim.Native.Nat.{ℕ, zero, suc, ◌-◌, ◌≤◌, ◌<◌, min}
use native.Mathlib.Omega.{arith}
use Rattle.std.proofs.Math.Dec.{eqb}
use Rattle.std.proofs.Math.ListN.{length, get_or}
use Rattle.std.specs.declared.ops.ControlFlow.TheVariants.{Continue, Break}
use Rattle.rules.specs.Rules.{Player, Position}
use Rattle.machine.specs.Game.{Game}
use Rattle.machine.specs.Tree.{Node, u32_max, Children, none, child, size, least_delta, sum_phi, append, proof_of, disproof_of}
use Rattle.machine.specs.Machine.{Counts, Ancestor, State, state, renumber, unchanged, store, climb}
use Rattle.machine.specs.Numbers.{tally}
use Rattle.machine.proofs.Numbers.{unsolved}
use Rattle.machine.specs.Place.{Above, inner_at, sizes}
use Rattle.machine.proofs.Place.{inner_inner, size_append}
use Rattle.machine.proofs.Climb.{climb_stay, climb_root, climb_next}
use Rattle.plain.specs.Plain.{game}
use Rattle.words.specs.Packed.{view}
use Rattle.words.specs.Words.{PHI, DELTA, FIRST, SIBLING, word, Slot, Beyond}
use Rattle.words.specs.Walks.{Walkable}
use Rattle.words.specs.Pool.{Holds}
use Rattle.words.proofs.Pool.{holding_few}
use Rattle.words.proofs.Steps.{line_root}
use Rattle.words.proofs.States.{holds_up}
use Rattle.prover.specs.declared.Prover.{Prover}
use Rattle.prover.specs.Stands.{Positions, Stands}
use Rattle.prover.specs.declared.Ascent.{Ascent}
use Rattle.climb.specs.Asks.{zeros, Recomputable, PhiRaisable, RaisesPhi, DeltaRaisable, RaisesDelta, climbed, Climbable, Going, Ascending, Stored, Raisable, Raised, Raises, Ascended}
use Rattle.climb.specs.Changed.{least_apart, sum_apart, least_after, line_after}

zeros_le : (n : ℕ) → zeros n ≤ 1
zeros_le zero = omega arith
zeros_le (suc n) = go (eqb (suc n) 0)
  where
    go : (b : Bool) → cond {A = ℕ} b 1 0 ≤ 1
    go true = omega arith
    go false = omega arith

-- The place of the current node is how many nodes are above it
pub depth_is : {rule : ℕ} {side : Player} {w path ps : List ℕ} {x : Prover} {s : State Position} → Stands rule side w path ps x s → length s.above ≡ x.depth
depth_is {rule} {side} {w} {path} {ps} {x} {s} h = line_root (view (game rule side)) w path x.depth s.above h.tree.tree.above

-- One node up
shallower : Prover → Prover
shallower x = record { depth = x.depth - 1; pool = x.pool; proved = x.proved; disproved = x.disproved; expanded = x.expanded }

-- A changed root is where the climb ends
climb_top : (G : Game) (c : Counts) (n : Node G.Pos) (ks : Children G.Pos) (up : List (Ancestor G.Pos)) → length up ≡ 0 → unchanged G n ks ≡ false → climb G up c n ks ≡ store G c up n ks
climb_top G c n ks [] z e = climb_root G c n ks e
climb_top G c n ks (a ∷ up) z e = absurd (omega arith)

-- The start: the current node and those above were expanded and are not counted yet
pub starts : {w path : List ℕ} {x : Prover} {phi delta : ℕ} (g : Climbable w path x phi delta) → Going g.rule g.side w path g.ps x phi delta (climbed (game g.rule g.side) g.at)
unfolding sizes
starts g =
    let n = g.at.node in
    let inner = inner_inner n (tally inner_at g.at.below) (unsolved n g.climbing.phi_pos g.climbing.delta_pos) g.climbing.opened in
    record {
      at = g.at;
      stands = g.stands;
      phi_is = g.phi_is;
      delta_is = g.delta_is;
      start = g.start;
      kept = g.climbing.above;
      proved_room = omega (arith, g.counts_fit.solved_once);
      disproved_room = omega (arith, g.counts_fit.solved_once);
      leads = refl;
    }

-- The siblings after the one with the new delta
unfoldable pub later : {w : List ℕ} {first number held delta : ℕ} (g : PhiRaisable w first number held delta) (next : ℕ) → next ≡ word w number SIBLING → Recomputable w next
later g next e = record { view = g.view; walk = record { list = g.rest.list; part = rw e g.rest.part; few = g.rest.few } }

-- The node above, as ascend needs it
module _ (w path : List ℕ) (x : Prover) (number old phi delta : ℕ) (g : Raisable w path x number old phi delta) where
  all : Children Position
  all = append g.up.before (child g.node g.below g.up.after)

  abbrev others : Children Position
  others = append g.up.before g.up.after

  pub raised_place : 0 < x.depth
  raised_place = omega (arith, depth_is g.stands)

  raised : Stands g.rule g.side w path g.ps (shallower x) (state g.counts g.above g.up.node all)
  unfolding shallower all
  raised = go x.depth refl g.stands.tree g.stands.positions
    where
      go : (d : ℕ) → x.depth ≡ d → Holds (view (game g.rule g.side)) w path d x.pool.vacant.head.0 x.pool.vacant.used x.pool.allocated x.pool.freed (state g.counts (g.up ∷ g.above) g.node g.below)
          → Positions g.ps d (g.up ∷ g.above) g.node → Stands g.rule g.side w path g.ps (shallower x) (state g.counts g.above g.up.node all)
      go zero e t p = absurd p
      go (suc d) e t p =
          let q : d ≡ x.depth - 1 = omega arith in
          record {
            tree = rw q at (holds_up (view (game g.rule g.side)) w path x.pool.vacant.head.0 x.pool.vacant.used x.pool.allocated x.pool.freed g.counts d g.up g.above g.node g.below t);
            positions = rw q at p.1;
            proved_is = g.stands.proved_is;
            disproved_is = g.stands.disproved_is;
            expanded_is = g.stands.expanded_is;
            path_long = g.stands.path_long;
            positions_long = g.stands.positions_long;
          }

  pub raised_slot : Slot w (get_or path (x.depth - 1) 0)
  unfolding shallower
  raised_slot = raised.tree.tree.node.slot

  -- Its children, from `first` on, and the numbers that it had
  module _ (first : ℕ) (first_is : first ≡ word w (get_or path (x.depth - 1) 0) FIRST) where
    walk : Walkable (view (game g.rule g.side)) w first
    unfolding shallower
    walk =
        let t = raised.tree.tree in
        record { list = all; part = rw first_is t.below; few = omega (arith, holding_few (view (game g.rule g.side)) w path _ _ _ _ _ _ _ _ t) }

    after : Walkable (view (game g.rule g.side)) w (word w number SIBLING)
    unfolding all walk size
    after =
        let e = g.number_is in
        record {
          list = g.up.after;
          part = rw e (line_after (view (game g.rule g.side)) w path x.depth g.up g.above g.stands.tree.tree.above);
          few = omega (arith, walk.few, size_append g.up.before (child g.node g.below g.up.after));
        }

    pub raised_least : (held : ℕ) → held ≡ word w (get_or path (x.depth - 1) 0) PHI → PhiRaisable w first number held delta
    unfolding shallower all walk after
    raised_least held e = record {
      view = view (game g.rule g.side);
      walk = walk;
      slot = rw g.number_is g.stands.tree.tree.node.slot;
      rest = after;
      among = least_after g.node g.below g.up.after g.up.before;
      others = least_delta others;
      least_is = rw g.delta_is (least_apart g.node g.below g.up.after g.up.before);
      low = omega (arith, raised.tree.tree.node.phi_is, g.kept.mid.phi_is, least_apart g.was none g.up.after g.up.before);
    }

    pub raised_sum : (held : ℕ) → held ≡ word w (get_or path (x.depth - 1) 0) DELTA → DeltaRaisable w first held old phi
    unfolding shallower all walk
    raised_sum held e = record {
      view = view (game g.rule g.side);
      walk = walk;
      others = sum_phi others;
      sum_is = rw g.phi_is (sum_apart g.node g.below g.up.after g.up.before);
      held_is = omega (arith, raised.tree.tree.node.delta_is, g.kept.mid.delta_is, g.old_is, sum_apart g.was none g.up.after g.up.before);
    }

    pub raises : (held_phi held_delta next_phi next_delta : ℕ) → held_phi ≡ word w (get_or path (x.depth - 1) 0) PHI → held_delta ≡ word w (get_or path (x.depth - 1) 0) DELTA
        → RaisesPhi w first number held_phi delta next_phi → RaisesDelta w first held_delta old phi next_delta
        → Raised w path x number old phi delta g (record { prover = record { depth = x.depth - 1; pool = x.pool; proved = x.proved; disproved = x.disproved; expanded = x.expanded }; bounds = record { phi = next_phi; delta = next_delta } })
    unfolding shallower all walk raised_least raised_sum
    raises held_phi held_delta next_phi next_delta p d f s = record { stands = raised; phi_is = f (raised_least held_phi p); delta_is = s (raised_sum held_delta d) }

-- One turn
module _ (w path : List ℕ) (x : Prover) (phi delta : ℕ) (g : Ascending w path x phi delta) where
  abbrev G : Game
  G = game g.rule g.side

  abbrev s : State Position
  s = g.going.at

  ended : (v : List ℕ) → Beyond w v → (r : Prover) → Stands g.rule g.side v path g.ps r g.whole → Ascended w path x phi delta g v (Break r)
  ended v past r h = record { way = h; less = omega arith; past = past }

  module _ (same : Bool) (same_is : same ≡ (eqb (word w (get_or path x.depth 0) PHI) phi && eqb (word w (get_or path x.depth 0) DELTA) delta)) where
    unchanged_is : unchanged G s.node s.below ≡ same
    unfolding unchanged renumber
    unchanged_is =
        let n = g.going.stands.tree.tree.node in
        ap (λ (y : ℕ). eqb y (least_delta s.below) && eqb s.node.delta (min (sum_phi s.below) u32_max)) (sym n.phi_is)
        ∙ ap (λ (y : ℕ). eqb (word w (get_or path x.depth 0) PHI) y && eqb s.node.delta (min (sum_phi s.below) u32_max)) (sym g.going.phi_is)
        ∙ ap (λ (y : ℕ). eqb (word w (get_or path x.depth 0) PHI) phi && eqb y (min (sum_phi s.below) u32_max)) (sym n.delta_is)
        ∙ ap (λ (y : ℕ). eqb (word w (get_or path x.depth 0) PHI) phi && eqb (word w (get_or path x.depth 0) DELTA) y) (sym g.going.delta_is)
        ∙ sym same_is

    -- Unchanged: it is where the climb ends
    pub turn_same : same ≡ true → Ascended w path x phi delta g w (Break x)
    turn_same t = ended w (λ j l. refl) x (subst (Stands g.rule g.side w path g.ps x) (sym (climb_stay G s.counts s.node s.below s.above (unchanged_is ∙ t)) ∙ g.going.leads) g.going.stands)

    module _ (changed : same ≡ false) (v : List ℕ) (r : Prover) (q : Stored w path x phi delta g v r) where
      -- Changed, at the root
      pub turn_root : r.depth ≡ 0 → Ascended w path x phi delta g v (Break r)
      unfolding store
      turn_root z = ended v q.past r (subst (Stands g.rule g.side v path g.ps r)
          (sym (climb_top G s.counts s.node s.below s.above (depth_is q.stands ∙ z) (unchanged_is ∙ changed)) ∙ g.going.leads) q.stands)

      -- Changed, below the root
      above : (a : Ancestor Position) (up : List (Ancestor Position)) → s.above ≡ a ∷ up → Above G g.going.start (a ∷ up) s.node
      above a up e = subst (λ (l : List (Ancestor Position)). Above G g.going.start l s.node) e g.going.kept

      seen : (old : ℕ) → old ≡ word w (get_or path x.depth 0) PHI → (a : Ancestor Position) (up : List (Ancestor Position)) → s.above ≡ a ∷ up → Raisable v path r (get_or path x.depth 0) old phi delta
      unfolding store renumber
      seen old o a up e =
          let t = store G s.counts s.above s.node s.below in
          record {
            rule = g.rule;
            side = g.side;
            ps = g.ps;
            counts = t.counts;
            up = a;
            above = up;
            node = t.node;
            below = t.below;
            stands = subst (λ (l : List (Ancestor Position)). Stands g.rule g.side v path g.ps r (state t.counts l t.node t.below)) e q.stands;
            number_is = ap (λ (y : ℕ). get_or path y 0) (sym (depth_is g.going.stands) ∙ depth_is q.stands);
            was = s.node;
            kept = (above a up e).0;
            old_is = o ∙ g.going.stands.tree.tree.node.phi_is;
            phi_is = g.going.phi_is;
            delta_is = g.going.delta_is;
          }

      pub turn_asks : (old : ℕ) → old ≡ word w (get_or path x.depth 0) PHI → (r.depth ≡ 0 → ⊥) → Raisable v path r (get_or path x.depth 0) old phi delta
      unfolding store
      turn_asks old o z = go s.above refl
        where
          go : (l : List (Ancestor Position)) → s.above ≡ l → Raisable v path r (get_or path x.depth 0) old phi delta
          go [] e = absurd (z (sym (depth_is q.stands) ∙ ap length e))
          go (a ∷ up) e = seen old o a up e

      pub turn_up : (old : ℕ) → old ≡ word w (get_or path x.depth 0) PHI → (r.depth ≡ 0 → ⊥) → (k : Ascent) → Raises v path r (get_or path x.depth 0) old phi delta k → Ascended w path x phi delta g v (Continue k)
      unfolding store seen
      turn_up old o z k f = go s.above refl
        where
          go : (l : List (Ancestor Position)) → s.above ≡ l → Ascended w path x phi delta g v (Continue k)
          go [] e = absurd (z (sym (depth_is q.stands) ∙ ap length e))
          go (a ∷ up) e =
              let t = store G s.counts s.above s.node s.below in
              let d = f (seen old o a up e) in
              let n = renumber G s.node s.below in
              let long = ap length e in
              let there = append a.before (child t.node t.below a.after) in
              let on : Going g.rule g.side v path g.ps k.prover k.bounds.phi k.bounds.delta g.whole = record {
                at = state t.counts up a.node there;
                stands = d.stands;
                phi_is = d.phi_is;
                delta_is = d.delta_is;
                start = g.going.start;
                kept = (above a up e).1;
                proved_room = omega (arith, g.going.proved_room, zeros_le (proof_of G n));
                disproved_room = omega (arith, g.going.disproved_room, zeros_le (disproof_of G n));
                leads = sym (climb_next G s.counts s.node s.below a up (unchanged_is ∙ changed)) ∙ ap (λ (l : List (Ancestor Position)). climb G l s.counts s.node s.below) (sym e) ∙ g.going.leads;
              } in
              record { way = on; less = omega (arith, depth_is d.stands, depth_is g.going.stands); past = q.past }

-- While it goes on
unfoldable pub goes_on : {rule : ℕ} {side : Player} {w path ps : List ℕ} {x : Prover} {phi delta : ℕ} {whole : State Position} → Going rule side w path ps x phi delta whole → Ascending w path x phi delta
goes_on {rule} {side} {w} {path} {ps} {x} {phi} {delta} {whole} h = record { rule = rule; side = side; ps = ps; whole = whole; going = h }
