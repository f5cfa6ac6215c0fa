-- The third condition's mathematics: two searches of one position by the machine, for any game with the stated laws and any sane policy. Rests on Reached.
use Rattle.std.specs.Prelude.{◌≡◌, ◌↔◌, List, [], ◌∷◌, Bool, not, ◌&&◌, eqb}
use Rattle.std.proofs.Math.Path.{refl, ap, sym}
use Rattle.std.proofs.Common.{◌∙◌, subst, true≢false}
use Rattle.std.proofs.Math.Bool.{true, false, cond}
use Prim.Native.Nat.{ℕ, zero, suc, ◌+◌, ◌-◌, ◌%◌, ◌≤◌, ◌<◌}
use native.Mathlib.Omega.{arith}
use borrow.Author.Tests.{ltb-true}
use Rattle.machine.specs.Game.{Game, value, sequences}
use Rattle.machine.specs.Tree.{Node, solved, proof_of, disproof_of, Children, none, size}
use Rattle.machine.specs.Machine.{Settings, live, Ancestor, State, root_of, root, start, Policy, to_leaf, short, round, over_limit, True, False, Unknown, result, run, ends, search}
use Rattle.machine.specs.Value.{extra}
use Rattle.machine.proofs.Value.{Lawful}
use Rattle.machine.specs.Numbers.{NodeOk, open_leaf, inner, won, lost, tally}
use Rattle.machine.proofs.Numbers.{unsolved, sound}
use Rattle.machine.specs.Place.{pool_max, Above, room_at, size_above, sizes, sizes_of}
use Rattle.machine.proofs.Place.{Sane}
use Rattle.machine.specs.Climb.{TreeOk}
use Rattle.machine.specs.Rounds.{StateOk}
use Rattle.machine.proofs.Rounds.{start_ok, found_leaf, leaf_state, round_ok}
use Rattle.machine.proofs.Runs.{Judged, jtrue, jfalse, junknown, judged, verdict_unknown, unsolved_unknown, solved_known}
use Rattle.machine.proofs.Runs.{run_solved, run_next, Course, at_end, lacking, stopped, onward, course, NoLess, monotone}
use Rattle.machine.proofs.Reached.{PoolInRange, ends_reached, reached_ok}

-- One search: a True or False is the value; Unknown exactly when neither proof nor disproof is 0; with pool, limit and budget at least N it is never Unknown
pub record Answers (G : Game) (P : Policy G) (p : G.Pos) (S : Settings) : Type 0 where
  pub true_value : (search G P S p).verdict ≡ True → value G p ≡ true
  pub false_value : (search G P S p).verdict ≡ False → value G p ≡ false
  pub unknown : ((search G P S p).verdict ≡ Unknown) ↔ ((0 < (search G P S p).proof) × (0 < (search G P S p).disproof))
  pub decided : sequences G p ≤ S.pool → sequences G p ≤ S.limit → sequences G p ≤ S.budget → (search G P S p).verdict ≡ Unknown → ⊥

-- Two searches: each answers so; and if the first is not Unknown, and the second has the same interval and no less pool, limit and budget, they are alike in every field
pub record Third (G : Game) (P : Policy G) (p : G.Pos) (S T : Settings) : Type 0 where
  pub first : Answers G P p S
  pub second : Answers G P p T
  pub alike : NoLess S T → ((search G P S p).verdict ≡ Unknown → ⊥) → search G P T p ≡ search G P S p

-- The root: a number of its that is 0 tells the value, and once it is solved it is the whole tree
pub record RootOk (G : Game) (r : G.Pos) (s : State G.Pos) : Type 0 where
  pub place : (root s).pos ≡ r
  pub proves : (root s).phi ≡ 0 → value G r ≡ G.mine r
  pub refutes : (root s).delta ≡ 0 → value G r ≡ not (G.mine r)
  pub alone : solved (root s) ≡ true → (sizes_of G s).nodes ≡ 1

bare_of : (G : Game) (n : Node G.Pos) (ks : Children G.Pos) → NodeOk G n ks → solved n ≡ true → ks ≡ none
bare_of G n ks (open_leaf o) e = o.bare
bare_of G n ks (inner i) e = absurd (true≢false (sym e ∙ unsolved n i.phi_pos i.delta_pos))
bare_of G n ks (won q p d v) e = q
bare_of G n ks (lost q d p v) e = q

-- Below the root, the root is one of the nodes above: unsolved
above_root : (G : Game) (r : G.Pos) (a : Ancestor G.Pos) (up : List (Ancestor G.Pos)) (n : Node G.Pos) → Above G r (a ∷ up) n
    → ((root_of up a.node).pos ≡ r) × (0 < (root_of up a.node).phi) × (0 < (root_of up a.node).delta)
unfolding root_of
above_root G r a [] n u = (u.1, u.0.mid.phi_pos, u.0.mid.delta_pos)
above_root G r a (b ∷ up) n u = above_root G r b up a.node u.1

pub root_ok : (G : Game) (L : Lawful G) (r : G.Pos) (s : State G.Pos) → TreeOk G r s → RootOk G r s
unfolding root root_of sizes size size_above
root_ok G L r s h = go s.above refl h.above
  where
    go : (up : List (Ancestor G.Pos)) → s.above ≡ up → Above G r up s.node → RootOk G r s
    go [] e u =
        let p : root s ≡ s.node = rw (e, root_of) in
        let q : s.node.pos ≡ r = u in
        let w = sound G L s.node s.below h.ok in
        record {
          place = ap (λ (n : Node G.Pos). n.pos) p ∙ q;
          proves = λ z. subst (λ (x : G.Pos). value G x ≡ G.mine x) q (w.0 (sym (ap (λ (n : Node G.Pos). n.phi) p) ∙ z));
          refutes = λ z. subst (λ (x : G.Pos). value G x ≡ not (G.mine x)) q (w.1 (sym (ap (λ (n : Node G.Pos). n.delta) p) ∙ z));
          alone = λ z. omega (arith, ap size (bare_of G s.node s.below h.ok (sym (ap solved p) ∙ z)), ap (size_above {Pos = G.Pos}) e);
        }
    go (a ∷ up) e u =
        let p : root s ≡ root_of up a.node = rw (e, root_of) in
        let w = above_root G r a up s.node u in
        record {
          place = ap (λ (n : Node G.Pos). n.pos) p ∙ w.0;
          proves = λ z. absurd (omega (arith, ap (λ (n : Node G.Pos). n.phi) p, w.1));
          refutes = λ z. absurd (omega (arith, ap (λ (n : Node G.Pos). n.delta) p, w.2));
          alone = λ z. absurd (true≢false (sym z ∙ ap solved p ∙ unsolved (root_of up a.node) w.1 w.2));
        }

and_right : (a b : Bool) → a && b ≡ true → b ≡ true
and_right true b e = e
and_right false b e = absurd (true≢false (sym e))

module _ (G : Game) (L : Lawful G) (P : Policy G) (Q : Sane G P) (r : G.Pos) (S : Settings) (small : S.pool ≤ pool_max) where
  -- With N nodes none is missing at step 3, and with N for the limit step 6 does not stop
  not_short : sequences G r ≤ S.pool → (s : State G.Pos) → StateOk G r S.pool s → solved (root s) ≡ false → short G P S (to_leaf G P s) ≡ true → ⊥
  unfolding short live sizes room_at
  not_short a s h e t =
      let l = found_leaf G L P Q r S small s h e in
      let u = to_leaf G P s in
      omega (
        arith,
        (leaf_state G L P Q r S small s h e).counts_fit.roomy,
        Q.within u.node.pos,
        ap (λ (b : Bool). cond b (tally (room_at G) u.below) (extra G u.node.pos)) l.shut,
        ltb-true (S.pool - (u.counts.allocated - u.counts.freed)) (P.need u.node.pos) t,
      )

  not_over : sequences G r ≤ S.limit → (s : State G.Pos) → StateOk G r S.pool s → over_limit S s ≡ true → ⊥
  unfolding over_limit live
  not_over b s h o =
      omega (arith, h.counts_fit.roomy, ltb-true S.limit (s.counts.allocated - s.counts.freed) (and_right (eqb (s.counts.expanded % S.interval) 0) _ o))

  -- N is enough
  enough : sequences G r ≤ S.pool → sequences G r ≤ S.limit → (k : ℕ) (s : State G.Pos) → StateOk G r S.pool s → sequences G r ≤ k + s.counts.expanded
      → (result G (run G P S k s)).verdict ≡ Unknown → ⊥
  unfolding run
  enough a b zero s h d = go (solved (root s)) refl
    where
      go : (t : Bool) → solved (root s) ≡ t → (result G (s, 1)).verdict ≡ Unknown → ⊥
      go true e v = solved_known G (s, 1) e v
      go false e v = omega (arith, h.counts_fit.roomy, h.counts_fit.spent)
  enough a b (suc k) s h d = go (course G P S s) (λ w z. enough a b k (round G P s) w z)
    where
      as_before : (e : State G.Pos × ℕ) → run G P S (suc k) s ≡ e → (result G (run G P S (suc k) s)).verdict ≡ Unknown → (result G e).verdict ≡ Unknown
      as_before e q v = sym (ap (λ (x : State G.Pos × ℕ). (result G x).verdict) q) ∙ v

      go : Course G P S s
          → (StateOk G r S.pool (round G P s) → sequences G r ≤ k + (round G P s).counts.expanded → (result G (run G P S k (round G P s))).verdict ≡ Unknown → ⊥)
          → (result G (run G P S (suc k) s)).verdict ≡ Unknown → ⊥
      go (at_end e) f v = solved_known G (s, 0) e (as_before (s, 0) (run_solved G P S k s e) v)
      go (lacking e t) f v = not_short a s h e t
      go (stopped e t o) f v = not_over b (round G P s) (round_ok G L P Q r S small s h e t).0 o
      go (onward e t o) f v = let w = round_ok G L P Q r S small s h e t in f w.0 (omega (arith, w.1)) (as_before _ (run_next G P S k s e t o) v)

module _ (G : Game) (L : Lawful G) (P : Policy G) (Q : Sane G P) (p : G.Pos) (ours : G.mine p ≡ true) where
  -- At the root phi is proof and delta disproof
  root_judged : (s : State G.Pos) (c : ℕ) → (root s).pos ≡ p → Judged (result G (s, c)).verdict (root s).phi (root s).delta
  unfolding result proof_of disproof_of
  root_judged s c e =
      let m : G.mine (root s).pos ≡ true = ap G.mine e ∙ ours in
      rw (ap (λ (b : Bool). cond b (root s).phi (root s).delta) m, ap (λ (b : Bool). cond b (root s).delta (root s).phi) m) (judged (root s).phi (root s).delta)

  answers : (S : Settings) → PoolInRange S → Answers G P p S
  unfolding search ends result
  answers S f = record {
    true_value = λ v. true_is here v;
    false_value = λ v. false_is here v;
    unknown = verdict_unknown _ _;
    decided = λ a b c. enough G L P Q p S f.most a b S.budget (start G p) (start_ok G L p S.pool f.some) (omega (arith, c));
  }
    where
      s : State G.Pos
      s = (ends G P S p).0

      w : RootOk G p s
      w = root_ok G L p s (reached_ok G L P Q S f p s (ends_reached G P S p)).tree_ok

      here : Judged (search G P S p).verdict (root s).phi (root s).delta
      here = root_judged s (ends G P S p).1 w.place

      true_is : Judged (search G P S p).verdict (root s).phi (root s).delta → (search G P S p).verdict ≡ True → value G p ≡ true
      true_is (jtrue q z) v = w.proves z ∙ ours
      true_is (jfalse q a z) v = absurd (let y : ◌≡◌ {A = ℕ} 0 1 = cc in omega arith)
      true_is (junknown q a b) v = absurd (let y : ◌≡◌ {A = ℕ} 0 1 = cc in omega arith)

      false_is : Judged (search G P S p).verdict (root s).phi (root s).delta → (search G P S p).verdict ≡ False → value G p ≡ false
      false_is (jtrue q z) v = absurd (let y : ◌≡◌ {A = ℕ} 0 1 = cc in omega arith)
      false_is (jfalse q a z) v = w.refutes z ∙ ap not ours
      false_is (junknown q a b) v = absurd (let y : ◌≡◌ {A = ℕ} 0 1 = cc in omega arith)

  -- THEOREM: the third condition of two searches
  pub third : (S T : Settings) → PoolInRange S → PoolInRange T → Third G P p S T
  third S T f g = record { first = answers S f; second = answers T g; alike = λ h v. monotone G P S T h p v }

  -- A solved search has live 1
  pub solved_live : (S : Settings) → PoolInRange S → ((search G P S p).verdict ≡ Unknown → ⊥) → (search G P S p).allocated ≡ suc (search G P S p).freed
  unfolding search result
  solved_live S f v = go (solved (root s)) refl
    where
      s : State G.Pos
      s = (ends G P S p).0

      h : StateOk G p S.pool s
      h = reached_ok G L P Q S f p s (ends_reached G P S p)

      go : (b : Bool) → solved (root s) ≡ b → s.counts.allocated ≡ suc s.counts.freed
      go true q = omega (arith, h.counts_fit.live, (root_ok G L p s h.tree_ok).alone q)
      go false q = absurd (v (unsolved_unknown G (ends G P S p) q))
