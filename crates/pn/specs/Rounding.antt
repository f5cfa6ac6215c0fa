-- A round of a search: what stands after each step, and how the search goes on from there. Rests on Going, the machine's rounds and the contracts of the steps.
use Rattle.std.specs.Prelude.{◌≡◌, refl, Bool, Some, IsNone, is_some, List, [], ◌∷◌, ℕ, suc, ◌+◌, ◌*◌, ◌-◌, ◌%◌, ◌≤◌, ◌<◌, eqb, length}
use Rattle.std.proofs.Math.Path.{ap}
use Rattle.std.proofs.Common.{sym, ◌∙◌, subst, true≢false}
use Rattle.std.proofs.Math.Bool.{true, false, and-false}
use native.Mathlib.Omega.{arith}
use Rattle.std.proofs.Math.Decide.{ℕ_discrete, dec_lt}
use borrow.Author.Tests.{lt-ltb, le-ltb}
use Rattle.std.proofs.lemmas.Option.{same_Some}
use Rattle.rules.specs.Rules.{Position, game_state, count}
use Rattle.rules.proofs.Legal.{legal}
use Rattle.rules.proofs.LegalMoves.{in_legal, moves_few}
use Rattle.machine.specs.Game.{Game}
use Rattle.machine.specs.Tree.{Node, Children, solved}
use Rattle.machine.specs.Machine as machine
use Rattle.machine.proofs.Value.{Lawful}
use Rattle.machine.specs.Numbers.{OpenLeaf}
use Rattle.machine.proofs.Numbers.{leaf_of}
use Rattle.machine.proofs.Place.{Sane}
use Rattle.machine.proofs.Descent.{Found}
use Rattle.machine.specs.Rounds.{StateOk}
use Rattle.machine.proofs.Rounds.{children_ok, found_leaf, leaf_state, round_ok}
use Rattle.machine.proofs.Climb.{climb_stay, climb_root, climb_next}
use Rattle.plain.specs.Plain.{game_of}
use Rattle.plain.proofs.Laws.{lawful, policy_sane}
use Rattle.words.specs.Words.{capacity}
use Rattle.prover.specs.declared.Prover.{Prover}
use Rattle.prover.specs.Stands.{Stands, Searching}
use Rattle.stay.specs.Margin.{stay_of}
use Rattle.pn.specs.Ticks.{Ticks, tick_some, tick_due, tick_again, tick_not_due, tick_next}
use Rattle.pn.specs.Courses.{Leads, Ends, Spent, ends_solved, ends_spent, ends_short, ends_over, leads_on}
use Rattle.pn.specs.Results.{machine_settings, cause_number, Solved, Budget, Pool, Limit}
use Rattle.pn.specs.Going.{Going, Ranges, policy_for, settings_long}
use Rattle.pn.specs.Ticked.{Ticked}
use Rattle.pn.specs.declared.Settings.{Settings}
use Rattle.pn.specs.declared.Running.{Running}
use Rattle.pn.specs.declared.Cause.{Cause}

-- step 5 allocates nothing
climb_allocated : (G : Game) (up : List (machine.Ancestor G.Pos)) (c : machine.Counts) (n : Node G.Pos) (ks : Children G.Pos) → (machine.climb G up c n ks).counts.allocated ≡ c.allocated
unfolding machine.store
climb_allocated G [] c n ks = go (machine.unchanged G n ks) refl
  where
    go : (b : Bool) → machine.unchanged G n ks ≡ b → (machine.climb G [] c n ks).counts.allocated ≡ c.allocated
    go true e = ap (λ t. t.counts.allocated) (climb_stay G c n ks [] e)
    go false e = ap (λ t. t.counts.allocated) (climb_root G c n ks e)
climb_allocated G (a ∷ up) c n ks = go (machine.unchanged G n ks) refl (λ d m k. climb_allocated G up d m k)
  where
    go : (b : Bool) → machine.unchanged G n ks ≡ b → ((d : machine.Counts) (m : Node G.Pos) (k : Children G.Pos) → (machine.climb G up d m k).counts.allocated ≡ d.allocated)
        → (machine.climb G (a ∷ up) c n ks).counts.allocated ≡ c.allocated
    go true e h = ap (λ t. t.counts.allocated) (climb_stay G c n ks (a ∷ up) e)
    go false e h = ap (λ t. t.counts.allocated) (climb_next G c n ks a up e) ∙ h _ _ _

-- a search of p with settings s in words w
module _ (p : Position) (s : Settings) (w : List ℕ) where
  abbrev G : Game
  G = game_of s.rule p

  abbrev P : machine.Policy G
  P = policy_for s p

  abbrev S : machine.Settings
  S = machine_settings w s

  L : Lawful G
  L = lawful s.rule p.side

  Q : Sane G P
  Q = policy_sane s.rule p.side (stay_of s.stay)

  -- a state that ends the search of p, or leads on, in words of the same length
  module _ (w' path' ps' : List ℕ) (long : length w' ≡ length w) (few : count 0 p.cells ≤ 81) (y : Running) (t : machine.State Position)
      (stands : Stands s.rule p.side w' path' ps' y.prover t) (ok : StateOk G p (capacity w) t) (most : t.counts.allocated ≤ 1 + 81 * t.counts.expanded) where
    same : S ≡ machine_settings w' s
    same = sym (settings_long w w' s long)

    ok' : StateOk G p (capacity w') t
    ok' = subst (λ (T : machine.Settings). StateOk G p T.pool t) same ok

    pub goes_no_further : (c : Cause) → y.stop ≡ Some c → Ends G P S p t (cause_number c)
        → (c ≡ Budget → Spent G P S p t × Ticks s.interval t.counts.expanded y.tick)
        → Going p s w' path' ps' y
    goes_no_further c e ends spent = record {
      at = t;
      stands = stands;
      ok = ok';
      few = few;
      allocated_most = most;
      onward = λ q. absurd (true≢false (sym (ap is_some e) ∙ q));
      ended = λ d q. subst (λ (T : machine.Settings). Ends G P T p t (cause_number d)) same (subst (λ (k : Cause). Ends G P S p t (cause_number k)) (same_Some c d (sym e ∙ q)) ends);
      spent = λ q.
          let h = spent (same_Some c Budget (sym e ∙ q)) in
          (subst (λ (T : machine.Settings). Spent G P T p t) same h.0, h.1);
    }

    pub goes_on : IsNone y.stop → Leads G P S p t
        → Ticks s.interval t.counts.expanded y.tick → Going p s w' path' ps' y
    goes_on e leads ticks = record {
      at = t;
      stands = stands;
      ok = ok';
      few = few;
      allocated_most = most;
      onward = λ q. (subst (λ (T : machine.Settings). Leads G P T p t) same leads, ticks);
      ended = λ c q. absurd (true≢false (sym (ap is_some q) ∙ e));
      spent = λ q. absurd (true≢false (sym (ap is_some q) ∙ e));
    }

  -- a round from a search that goes on
  module _ (path ps : List ℕ) (x : Running) (g : Going p s w path ps x) (ranges : Ranges w s) (going : IsNone x.stop) where
    -- what descending asks for
    unfoldable pub to_search : Searching w path ps x.prover
    to_search = record { rule = s.rule; side = p.side; start = p; at = g.at; stands = g.stands; ok = g.ok; few = g.few }

    abbrev expanded : ℕ
    expanded = g.at.counts.expanded

    leads : Leads G P S p g.at
    leads = (g.onward going).0

    ticks : Ticks s.interval expanded x.tick
    ticks = (g.onward going).1

    -- step 1, and before it the root solved
    pub stop_solved : solved (machine.root g.at) ≡ true → (y : Running) → y.prover ≡ x.prover → y.stop ≡ Some Solved → Going p s w path ps y
    stop_solved e y ey es =
        goes_no_further w path ps refl g.few y g.at (subst (λ z. Stands s.rule p.side w path ps z g.at) (sym ey) g.stands) g.ok g.allocated_most Solved es
        (ends_solved G P S p g.at leads e) (λ c. absurd (omega (arith, ap cause_number c)))

    pub stop_spent : x.prover.expanded ≡ s.budget → solved (machine.root g.at) ≡ false
        → (y : Running) → y.prover ≡ x.prover → y.tick ≡ x.tick → y.stop ≡ Some Budget → Going p s w path ps y
    stop_spent e u y ey et es =
        let h = ends_spent G P S p g.at leads (sym g.stands.expanded_is ∙ e) u in
        goes_no_further w path ps refl g.few y g.at (subst (λ z. Stands s.rule p.side w path ps z g.at) (sym ey) g.stands) g.ok g.allocated_most Budget es
        (ap (machine.result G) h.here) (λ c. (h, subst (Ticks s.interval expanded) (sym et) ticks))

    module _ (unsolved : solved (machine.root g.at) ≡ false) (more : x.prover.expanded ≡ s.budget → ⊥) where
      more' : expanded ≡ s.budget → ⊥
      more' e = more (g.stands.expanded_is ∙ e)

      abbrev t : machine.State Position
      t = machine.to_leaf G P g.at

      -- the leaf that step 2 comes to
      pub leaf : Found G p g.at t
      leaf = found_leaf G L P Q p S ranges.few g.at g.ok unsolved

      pub leaf_ok : StateOk G p (capacity w) t
      leaf_ok = leaf_state G L P Q p S ranges.few g.at g.ok unsolved

      pub leaf_open : OpenLeaf G t.node t.below
      leaf_open = leaf_of G _ _ leaf.rest.ok leaf.rest.phi_pos leaf.rest.delta_pos leaf.shut

      pub leaf_playing : game_state t.node.pos ≡ 0
      leaf_playing = (legal _ _ (in_legal _ _ leaf_open.legal)).unfinished

      -- step 3: short of nodes at the leaf
      pub stop_short : (w' path' ps' : List ℕ) (y : Running) → length w' ≡ length w → Stands s.rule p.side w' path' ps' y.prover t → machine.short G P S t ≡ true
          → y.stop ≡ Some Pool → Going p s w' path' ps' y
      stop_short w' path' ps' y long st b es =
          goes_no_further w' path' ps' long g.few y _ st leaf_ok (rw leaf.counts_same g.allocated_most) Pool es
          (ends_short G P S p g.at leads more' unsolved b) (λ c. absurd (omega (arith, ap cause_number c)))

      module _ (enough : machine.short G P S t ≡ false) where
        abbrev after : machine.State Position
        after = machine.round G P g.at

        rounded : StateOk G p (capacity w) after × (after.counts.expanded ≡ suc expanded)
        rounded = round_ok G L P Q p S ranges.few g.at g.ok unsolved enough

        -- an expansion makes at most 81 nodes
        rounded_most : after.counts.allocated ≤ 1 + 81 * after.counts.expanded
        unfolding machine.round machine.expand
        rounded_most =
            let u = machine.expand G t in
            omega (
              arith,
              g.allocated_most,
              rounded.1,
              climb_allocated G u.above u.counts u.node u.below,
              ap (λ c. c.allocated) leaf.counts_same,
              (children_ok G L t.node.pos).most,
              moves_few t.node.pos,
            )

        -- what step 6 asks for
        pub tick_left : 0 < x.tick
        tick_left = tick_some s.interval expanded x.tick ranges.interval_some ticks

        pub freed_fewer : (w' path' ps' : List ℕ) (next : Prover) → Stands s.rule p.side w' path' ps' next after → next.pool.freed ≤ next.pool.allocated
        freed_fewer w' path' ps' next st = omega (arith, rounded.0.counts_fit.live, st.tree.allocated_is, st.tree.freed_is)

        -- step 6, from what the counter says
        module _ (w' path' ps' : List ℕ) (next : Prover) (y : Running) (long : length w' ≡ length w) (st : Stands s.rule p.side w' path' ps' next after)
            (ticked : Ticked next x.tick s y) where
          abbrev live : ℕ
          live = next.pool.allocated - next.pool.freed

          stands' : Stands s.rule p.side w' path' ps' y.prover after
          stands' = subst (λ z. Stands s.rule p.side w' path' ps' z after) (sym ticked.prover_is) st

          pub more_expanded : y.prover.expanded ≡ suc x.prover.expanded
          more_expanded = stands'.expanded_is ∙ rounded.1 ∙ ap suc (sym g.stands.expanded_is)

          live_is : machine.live after.counts ≡ live
          unfolding machine.live
          live_is = rw (st.tree.allocated_is, st.tree.freed_is)

          due : (b : Bool) → eqb (suc expanded % s.interval) 0 ≡ b → eqb (after.counts.expanded % s.interval) 0 ≡ b
          due b e = ap (λ n. eqb (n % s.interval) 0) rounded.1 ∙ e

          ticks_on : (k : ℕ) → y.tick ≡ k → Ticks s.interval (suc expanded) k → Ticks s.interval after.counts.expanded y.tick
          ticks_on k e h = rw (rounded.1, e) h

          on : (x.tick ≡ 1 → ⊥) → Going p s w' path' ps' y
          unfolding machine.over_limit
          on n =
              goes_on w' path' ps' long g.few y after stands' rounded.0 rounded_most (ticked.on n).0
              (leads_on G P S p g.at leads more' unsolved enough rounded.1
              (rw (due false (tick_not_due s.interval expanded x.tick ranges.interval_some ticks n))))
              (ticks_on _ (ticked.on n).1 (tick_next s.interval expanded x.tick ranges.interval_some ticks n))

          under : x.tick ≡ 1 → live ≤ s.limit → Going p s w' path' ps' y
          unfolding machine.over_limit
          under e l =
              goes_on w' path' ps' long g.few y after stands' rounded.0 rounded_most (ticked.under e l).0
              (leads_on G P S p g.at leads more' unsolved enough rounded.1
              (rw (live_is, le-ltb s.limit live l) (and-false (eqb (after.counts.expanded % s.interval) 0))))
              (ticks_on _ (ticked.under e l).1 (tick_again s.interval expanded x.tick ranges.interval_some ticks e))

          over : x.tick ≡ 1 → s.limit < live → Going p s w' path' ps' y
          unfolding machine.over_limit
          over e l =
              goes_no_further w' path' ps' long g.few y after stands' rounded.0 rounded_most Limit (ticked.over e l)
              (ends_over G P S p g.at leads more' unsolved enough
              (rw (due true (tick_due s.interval expanded x.tick ranges.interval_some ticks e), live_is, lt-ltb s.limit live l)))
              (λ c. absurd (omega (arith, ap cause_number c)))

          pub goes_after : Going p s w' path' ps' y
          goes_after = go (ℕ_discrete x.tick 1) (dec_lt s.limit live)
            where
              go : Dec (x.tick ≡ 1) → Dec (s.limit < live) → Going p s w' path' ps' y
              go (no n) d = on n
              go (yes e) (yes l) = over e l
              go (yes e) (no n) = under e (omega (arith, n))
