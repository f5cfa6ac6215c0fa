-- Laws of specs/Climb.antt. Step 5 sets the tree right on its way up, and keeps the counts. Rests on Place.
use Rattle.std.specs.Prelude.{◌≡◌, Bool, cond, ◌&&◌, ◌||◌, eqb}
use Rattle.std.proofs.Math.Path.{refl}
use Rattle.std.proofs.Common.{ap, sym, subst, inl, inr}
use mathlib.Core.List.{List, [], ◌∷◌}
use Rattle.std.proofs.Math.Bool.{true, false}
use Prim.Native.Nat.{ℕ, zero, suc, ◌+◌, ◌≤◌, ◌<◌, min}
use native.Mathlib.Omega.{arith}
use Rattle.std.proofs.Math.Dec.{eqb-suc-zero}
use borrow.Author.Tests.{eqb-true}
use Rattle.machine.specs.Game.{Game}
use Rattle.machine.specs.Tree.{u32_max, Node, solved, proof_of, disproof_of, Children, none, child, size, least_delta, sum_phi, append}
use Rattle.machine.specs.Machine.{Counts, counts, Ancestor, State, state, renumber, unchanged, store, climb}
use Rattle.machine.proofs.Value.{Lawful, value_all}
use Rattle.machine.specs.Numbers.{Inner, NodeOk, inner, won, lost, Good, tally}
use Rattle.machine.proofs.Numbers.{Solved, yes, no, is_solved, unsolved, some_zero, all_zero}
use Rattle.machine.specs.Place.{Alike}
use Rattle.machine.proofs.Place.{has_move_swap, no_move_twice_swap, good_append, by_moves_at, by_moves_swap}
use Rattle.machine.specs.Place.{room_at, inner_at, size_above, Sizes, sizes, sizes_of}
use Rattle.machine.proofs.Place.{room_inner, inner_inner, sizes_up}
use Rattle.machine.specs.Climb.{Climbing, UnsolvedOrRoot, TreeOk, CountsFit}

-- A solved node is counted once
counted : (x y : ℕ) → (x ≡ 0 → y ≡ 0 → ⊥) → cond (eqb x 0) 1 0 + cond (eqb y 0) 1 0 ≡ cond (eqb x 0 || eqb y 0) 1 0
counted zero zero h = absurd (h refl refl)
counted zero (suc y) h = rw (eqb-suc-zero y)
counted (suc x) zero h = rw (eqb-suc-zero x)
counted (suc x) (suc y) h = rw (eqb-suc-zero x, eqb-suc-zero y)

counted_once : (G : Game) (n : Node G.Pos) → (n.phi ≡ 0 → n.delta ≡ 0 → ⊥) → cond (eqb (proof_of G n) 0) 1 0 + cond (eqb (disproof_of G n) 0) 1 0 ≡ cond (solved n) 1 0
unfolding proof_of disproof_of solved
counted_once G n h = go (G.mine n.pos)
  where
    go : (b : Bool) → cond (eqb (cond b n.phi n.delta) 0) 1 0 + cond (eqb (cond b n.delta n.phi) 0) 1 0 ≡ cond (eqb n.phi 0 || eqb n.delta 0) 1 0
    go true = counted n.phi n.delta h
    go false = omega (arith, counted n.phi n.delta h)

and_both : (a b : Bool) → a && b ≡ true → (a ≡ true) × (b ≡ true)
and_both true true e = (refl, refl)
and_both true false e = (refl, e)
and_both false b e = (e, cc)

inner_solved : {Pos : Type 0} (n : Node Pos) (below : ℕ) → solved n ≡ true → inner_at n below ≡ 0
unfolding inner_at
inner_solved n below e = ap (λ (b : Bool). cond b 0 (cond n.expanded (suc below) 0)) e

-- The counts where the inner node n becomes m, t telling whether m is solved
counts_store : (G : Game) (N : ℕ) (c : Counts) (up : List (Ancestor G.Pos)) (n m : Node G.Pos) (ks : Children G.Pos) (t : Bool)
    → n.expanded ≡ true → solved n ≡ false → m.expanded ≡ true → solved m ≡ t → (m.phi ≡ 0 → m.delta ≡ 0 → ⊥) → CountsFit N c (sizes G up n ks)
    → CountsFit N (counts c.allocated (c.freed + cond t (size ks) 0) (c.proved + cond (eqb (proof_of G m) 0) 1 0) (c.disproved + cond (eqb (disproof_of G m) 0) 1 0) c.expanded)
    (sizes G up m (cond t none ks))
unfolding sizes size tally
counts_store G N c up n m ks true e u x s d b = record {
  live = omega (arith, b.live);
  roomy = omega (arith, b.roomy, room_inner G n (tally (room_at G) ks) e, room_inner G m 0 x);
  spent = b.spent;
  solved_once = omega (arith, b.solved_once, inner_inner n (tally inner_at ks) u e, inner_solved m 0 s, counted_once G m d, ap (λ (w : Bool). cond {A = ℕ} w 1 0) s);
}
counts_store G N c up n m ks false e u x s d b = record {
  live = omega (arith, b.live);
  roomy = omega (arith, b.roomy, room_inner G n (tally (room_at G) ks) e, room_inner G m (tally (room_at G) ks) x);
  spent = b.spent;
  solved_once = omega (arith, b.solved_once, inner_inner n (tally inner_at ks) u e, inner_inner m (tally inner_at ks) s x, counted_once G m d, ap (λ (w : Bool). cond {A = ℕ} w 1 0) s);
}

module _ (G : Game) (c : Counts) (n : Node G.Pos) (ks : Children G.Pos) where
  pub climb_stay : (up : List (Ancestor G.Pos)) → unchanged G n ks ≡ true → climb G up c n ks ≡ state c up n ks
  unfolding climb
  climb_stay [] e = rw (e, climb)
  climb_stay (a ∷ up) e = rw (e, climb)

  pub climb_root : unchanged G n ks ≡ false → climb G [] c n ks ≡ store G c [] n ks
  unfolding climb
  climb_root e = rw (e, climb)

  pub climb_next : (a : Ancestor G.Pos) (up : List (Ancestor G.Pos)) → unchanged G n ks ≡ false
      → climb G (a ∷ up) c n ks ≡ climb G up (store G c up n ks).counts a.node (append a.before (child (store G c up n ks).node (store G c up n ks).below a.after))
  unfolding climb
  climb_next a up e = rw (e, climb)

module _ (G : Game) (L : Lawful G) (r : G.Pos) where
  -- The node with the numbers x and y, where its children give them and neither is 0
  worked_out : (x y : ℕ) (up : List (Ancestor G.Pos)) (n : Node G.Pos) (ks : Children G.Pos) → Climbing G r up n ks → x ≡ least_delta ks → y ≡ min (sum_phi ks) u32_max → 0 < x → 0 < y
      → Inner G (record { pos = n.pos; phi = x; delta = y; move = n.move; expanded = n.expanded; remembered = n.remembered }) ks
  worked_out x y up n ks h p d a b = record {
    opened = h.opened;
    phi_pos = a;
    delta_pos = b;
    phi_is = p;
    delta_is = d;
    by_moves = h.by_moves;
    all_moves = h.all_moves (omega (arith, a));
    no_move_twice = h.no_move_twice;
  }

  -- A node stored anew, with what is kept below it, is as it should be
  stored_ok : (c : Counts) (up : List (Ancestor G.Pos)) (n : Node G.Pos) (ks : Children G.Pos) → Climbing G r up n ks
      → NodeOk G (store G c up n ks).node (store G c up n ks).below × Good G (store G c up n ks).below
  unfolding store renumber
  stored_ok c up n ks h = go (is_solved (renumber G n ks))
    where
      go : Solved (renumber G n ks) → NodeOk G (renumber G n ks) (cond (solved (renumber G n ks)) none ks) × Good G (cond (solved (renumber G n ks)) none ks)
      go (yes e (inl z)) = let q = some_zero G L n.pos ks h.good h.by_moves z in rw e (won refl z (omega (arith, q.0)) q.1, tt)
      go (yes e (inr z)) = let q = all_zero G L n.pos ks h.good h.by_moves (omega arith) in
          rw e (lost refl z q.0 (value_all G L n.pos h.some h.legal (λ m i. q.1 m (h.all_moves (omega (arith, q.0)) m i))), tt)
      go (no e a b) = rw e (inner (worked_out _ _ up n ks h refl refl a b), h.good)

  stored_counts : (N : ℕ) (c : Counts) (up : List (Ancestor G.Pos)) (n : Node G.Pos) (ks : Children G.Pos) → Climbing G r up n ks → CountsFit N c (sizes G up n ks)
      → CountsFit N (store G c up n ks).counts (sizes G up (store G c up n ks).node (store G c up n ks).below)
  unfolding store renumber
  stored_counts N c up n ks h b =
      counts_store G N c up n (renumber G n ks) ks (solved (renumber G n ks)) h.opened (unsolved n h.phi_pos h.delta_pos) h.opened refl
      (λ z y. omega (arith, (some_zero G L n.pos ks h.good h.by_moves z).0)) b

  pub stored_size : (c : Counts) (up : List (Ancestor G.Pos)) (n : Node G.Pos) (ks : Children G.Pos)
      → (sizes G up (store G c up n ks).node (store G c up n ks).below).nodes ≤ (sizes G up n ks).nodes
  unfolding store sizes size
  stored_size c up n ks = go (solved (renumber G n ks))
    where
      go : (t : Bool) → suc (size (cond t none ks) + size_above up) ≤ suc (size ks + size_above up)
      go true = omega arith
      go false = omega arith

  -- What a climb from a tree of so many nodes comes to
  pub record Climbed (N expanded nodes : ℕ) (s : State G.Pos) : Type 0 where
    pub tree_ok : TreeOk G r s
    pub counts_fit : CountsFit N s.counts (sizes_of G s)
    pub expanded_same : s.counts.expanded ≡ expanded
    pub no_larger : (sizes_of G s).nodes ≤ nodes

  -- Unchanged: the whole tree is right
  stay_ok : (N : ℕ) (up : List (Ancestor G.Pos)) (c : Counts) (n : Node G.Pos) (ks : Children G.Pos) → Climbing G r up n ks → CountsFit N c (sizes G up n ks)
      → unchanged G n ks ≡ true → Climbed N c.expanded (sizes G up n ks).nodes (state c up n ks)
  unfolding unchanged renumber
  stay_ok N up c n ks h b e =
      let t = and_both _ _ e in
      let p : n.phi ≡ least_delta ks = eqb-true _ _ t.0 in
      let d : n.delta ≡ min (sum_phi ks) u32_max = eqb-true _ _ t.1 in
      record {
        tree_ok = record {
          ok = inner (worked_out n.phi n.delta up n ks h p d h.phi_pos h.delta_pos);
          good = h.good;
          above = h.above;
          unsolved_or_root = unsolved_or_root up;
        };
        counts_fit = b;
        expanded_same = refl;
        no_larger = omega arith;
      }
    where
      unsolved_or_root : (as' : List (Ancestor G.Pos)) → UnsolvedOrRoot as' n
      unsolved_or_root [] = tt
      unsolved_or_root (a ∷ as') = (h.phi_pos, h.delta_pos)

  alike : (n : Node G.Pos) (ks : Children G.Pos) → Alike n (renumber G n ks)
  unfolding renumber
  alike n ks = record { pos = refl; move = refl }

  -- Changed: the node above is next
  pub climb_up : (a : Ancestor G.Pos) (up : List (Ancestor G.Pos)) (c : Counts) (n : Node G.Pos) (ks : Children G.Pos) → Climbing G r (a ∷ up) n ks
      → Climbing G r up a.node (append a.before (child (store G c up n ks).node (store G c up n ks).below a.after))
  unfolding store
  climb_up a up c n ks h =
      let m = h.above.0.mid in
      let q = stored_ok c (a ∷ up) n ks h in
      record {
        opened = m.opened;
        good = good_append G a.before _ h.above.0.before_good (q.0, q.1, h.above.0.after_good);
        by_moves = by_moves_swap G a.after n (renumber G n ks) none _ a.node.pos a.before (alike n ks) m.by_moves;
        all_moves = λ l x i. has_move_swap a.after n (renumber G n ks) none _ x a.before (alike n ks).move (m.all_moves x i);
        no_move_twice = no_move_twice_swap a.after n (renumber G n ks) none _ a.before (alike n ks).move m.no_move_twice;
        some = n.move;
        legal = (by_moves_at G a.node.pos a.before a.after n none m.by_moves).0;
        above = h.above.1;
        phi_pos = m.phi_pos;
        delta_pos = m.delta_pos;
      }

  pub climb_ok : (N : ℕ) (up : List (Ancestor G.Pos)) (c : Counts) (n : Node G.Pos) (ks : Children G.Pos) → Climbing G r up n ks → CountsFit N c (sizes G up n ks)
      → Climbed N c.expanded (sizes G up n ks).nodes (climb G up c n ks)
  unfolding store renumber
  climb_ok N [] c n ks h b = go (unchanged G n ks) refl
    where
      go : (t : Bool) → unchanged G n ks ≡ t → Climbed N c.expanded (sizes G [] n ks).nodes (climb G [] c n ks)
      go true e = rw (climb_stay G c n ks [] e) (stay_ok N [] c n ks h b e)
      go false e = let q = stored_ok c [] n ks h in rw (climb_root G c n ks e) (record {
        tree_ok = record { ok = q.0; good = q.1; above = h.above; unsolved_or_root = tt };
        counts_fit = stored_counts N c [] n ks h b;
        expanded_same = refl;
        no_larger = stored_size c [] n ks;
      })
  climb_ok N (a ∷ up) c n ks h b = go (unchanged G n ks) refl (climb_ok N up _ _ _ (climb_up a up c n ks h) (subst (CountsFit N _) (sym same) (stored_counts N c (a ∷ up) n ks h b)))
    where
      t : State G.Pos
      t = store G c up n ks

      there : Children G.Pos
      there = append a.before (child t.node t.below a.after)

      same : sizes G up a.node there ≡ sizes G (a ∷ up) t.node t.below
      same = let m = h.above.0.mid in sizes_up G a up t.node t.below m.opened (unsolved a.node m.phi_pos m.delta_pos)

      go : (b : Bool) → unchanged G n ks ≡ b → Climbed N c.expanded (sizes G up a.node there).nodes (climb G up t.counts a.node there)
          → Climbed N c.expanded (sizes G (a ∷ up) n ks).nodes (climb G (a ∷ up) c n ks)
      go true e w = rw (climb_stay G c n ks (a ∷ up) e) (stay_ok N (a ∷ up) c n ks h b e)
      go false e w = rw (climb_next G c n ks a up e) (record {
        tree_ok = w.tree_ok;
        counts_fit = w.counts_fit;
        expanded_same = w.expanded_same;
        no_larger = omega (arith, w.no_larger, ap (λ (z : Sizes). z.nodes) same, stored_size c (a ∷ up) n ks);
      })
