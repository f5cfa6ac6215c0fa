-- Sets that turn out: if the positions at the leaves of a proof set have the value true, so has the root's; likewise false and a disproof set. Rests on Leaves, Lines, Sets and
-- Verdicts, and on Numbers and Value of the machine.
use Rattle.std.specs.Prelude.{◌≡◌, refl, ◌⊎◌, Bool, true, false, not, ℕ, ◌<◌}
use Rattle.std.proofs.Math.Path.{ap, sym}
use Rattle.std.proofs.Common.{◌∙◌, subst, inl, inr, true≢false, arith}
use mathlib.Core.List.Memᴰ
use mathlib.Core.List.{List, [], ◌∷◌, map, Memᴰ}
use Rattle.std.proofs.Math.Bool.{not-not}
use Rattle.rules.specs.Rules.{any, all}
use Rattle.rules.proofs.Tests.{both_true, one_true}
use Rattle.machine.specs.Game.{Game, value}
use Rattle.machine.specs.Tree.{Node, solved, Children, none, child, sum_phi}
use Rattle.machine.specs.Machine.{Verdict}
use Rattle.machine.proofs.Value.{Lawful, value_some, value_all}
use Rattle.machine.specs.Numbers.{HasMove, ByMoves, NodeOk, open_leaf, inner, won, lost, Inner, Good}
use Rattle.machine.proofs.Numbers.{unsolved, zero_solved, sound}
use Rattle.meaning.specs.Meaning.{Line, lines_at, lines_in, is_in, from_children, verdicts_in, root_verdict, Settles}
use Rattle.meaning.specs.Leaves.{position_after}
use Rattle.meaning.proofs.Sets.{in_list}
use Rattle.meaning.proofs.Lines.{lines_inner, lines_leaf}
use Rattle.meaning.proofs.Verdicts.{verdict_for, comes_to, comes_is, one_needed, all_needed, same_or_not, towards, towards_own, towards_other}
use Rattle.meaning.proofs.Verdicts.{verdict_zero, verdict_solved, verdict_below, verdict_inner, verdict_leaf, leaf_taken}

module _ (G : Game) (L : Lawful G) (t : Bool) where
  -- The leaves that pass a test have the value t, played from p
  abbrev TurnOut : (Line → Bool) → G.Pos → List Line → Type 0
  TurnOut test p lines = (l : Line) → Memᴰ l lines → test l ≡ true → value G (position_after G p l) ≡ t

  -- If one child of p comes to t, some legal move of p leads to the value t; if all do, each child's move does
  abbrev Follows : Children G.Pos → Type 0
  Follows ks = (p : G.Pos) (test : Line → Bool) → ByMoves G p ks → TurnOut test p (lines_in ks)
      → (any (comes_to t) (verdicts_in G (verdict_for t) test ks) ≡ true → (m : ℕ) × Memᴰ m (G.moves p) × (value G (G.play p m) ≡ t))
      × (all (comes_to t) (verdicts_in G (verdict_for t) test ks) ≡ true → (m : ℕ) → HasMove m ks → value G (G.play p m) ≡ t)

  some_move : (p : G.Pos) (ks : Children G.Pos) → 0 < sum_phi ks → ByMoves G p ks → (m : ℕ) × Memᴰ m (G.moves p)
  unfolding sum_phi
  some_move p none z m = absurd (omega arith)
  some_move p (child n b ks) z m = (n.move, m.0)

  solved_value : (n : Node G.Pos) (b : Children G.Pos) (test : Line → Bool) → NodeOk G n b → solved n ≡ true → verdict_below G t test n b ≡ verdict_for t → value G n.pos ≡ t
  solved_value n b test k e q = go (same_or_not (G.mine n.pos) t)
    where
      z : towards G t n ≡ 0
      z = verdict_zero G t n (sym (verdict_solved G (verdict_for t) test n _ e) ∙ q)

      go : (G.mine n.pos ≡ t) ⊎ (G.mine n.pos ≡ not t) → value G n.pos ≡ t
      go (inl m) = (sound G L n b k).0 (sym (towards_own G t n m) ∙ z) ∙ m
      go (inr m) = (sound G L n b k).1 (sym (towards_other G t n m) ∙ z) ∙ ap not m ∙ not-not t

  inner_value : (n : Node G.Pos) (b : Children G.Pos) (test : Line → Bool) → Inner G n b → Follows b → TurnOut test n.pos (lines_at n (lines_in b)) → verdict_below G t test n b ≡ verdict_for t
      → value G n.pos ≡ t
  inner_value n b test i f h q = go (same_or_not (G.mine n.pos) t)
    where
      e : solved n ≡ false
      e = unsolved n i.phi_pos i.delta_pos

      turns_out : TurnOut test n.pos (lines_in b)
      turns_out l j = h l (rw (lines_inner n (lines_in b) e i.opened) j)

      made : {u : Bool} → G.mine n.pos ≡ u → from_children u (verdicts_in G (verdict_for t) test b) ≡ verdict_for t
      made m = subst (λ (u : Bool). from_children u (verdicts_in G (verdict_for t) test b) ≡ verdict_for t) m (sym (verdict_inner G (verdict_for t) test n _ e i.opened) ∙ q)

      go : (G.mine n.pos ≡ t) ⊎ (G.mine n.pos ≡ not t) → value G n.pos ≡ t
      go (inl m) =
          let c = (f n.pos test i.by_moves turns_out).0 (one_needed t _ (made m)) in
          value_some G L n.pos c.0 c.1 (c.2 ∙ sym m) ∙ m
      go (inr m) =
          let c = (f n.pos test i.by_moves turns_out).1 (all_needed t _ (made m)) in
          let x = some_move n.pos b (omega (arith, i.delta_pos, i.delta_is)) i.by_moves in
          let other : not (G.mine n.pos) ≡ t = ap not m ∙ not-not t in
          value_all G L n.pos x.0 x.1 (λ k j. c k (i.all_moves k j) ∙ sym other) ∙ other

  node_value : (n : Node G.Pos) (b : Children G.Pos) (test : Line → Bool) → NodeOk G n b → Follows b → TurnOut test n.pos (lines_at n (lines_in b))
      → verdict_below G t test n b ≡ verdict_for t → value G n.pos ≡ t
  unfolding position_after
  node_value n b test (open_leaf o) f h q =
      let e = unsolved n (omega (arith, o.phi_is)) (omega (arith, o.delta_is)) in
      h [] (rw (lines_leaf n (lines_in b) e o.closed) (Memᴰ.head refl)) (leaf_taken t (test []) (sym (verdict_leaf G (verdict_for t) test n _ e o.closed) ∙ q))
  node_value n b test (inner i) f h q = inner_value n b test i f h q
  node_value n b test (won e p d v) f h q = solved_value n b test (won e p d v) (zero_solved n (inl p)) q
  node_value n b test (lost e d p v) f h q = solved_value n b test (lost e d p v) (zero_solved n (inr d)) q

  pub list_follows : (ks : Children G.Pos) → Good G ks → Follows ks
  unfolding verdicts_in lines_in position_after
  list_follows none g p test m h = (λ q. absurd (true≢false (sym q)), λ q k i. absurd i)
  list_follows (child n b ks) g p test m h =
      let first : verdict_below G t (λ l. test (n.move ∷ l)) n b ≡ verdict_for t → value G (G.play p n.move) ≡ t =
      λ q. sym (ap (value G) m.1) ∙ node_value n b _ g.0 (list_follows b g.1) onward q in
      let rest = list_follows ks g.2 p test m.2 (λ l i. h l (Memᴰ.append_right (map (λ (r : Line). n.move ∷ r) (lines_at n (lines_in b))) i)) in (
        λ q. one first rest.0 (one_true _ _ q),
        λ q. let w = both_true _ _ q in each first rest.1 w.0 w.1,
      )
    where
      onward : TurnOut (λ l. test (n.move ∷ l)) n.pos (lines_at n (lines_in b))
      onward l i e = ap (λ (x : G.Pos). value G (position_after G x l)) m.1 ∙ h (n.move ∷ l) (Memᴰ.append_left (lines_in ks) (Memᴰ.map (λ (r : Line). n.move ∷ r) i)) e

      vs : List Verdict
      vs = verdicts_in G (verdict_for t) test ks

      here : Verdict
      here = verdict_below G t (λ l. test (n.move ∷ l)) n b

      one : (here ≡ verdict_for t → value G (G.play p n.move) ≡ t) → (any (comes_to t) vs ≡ true → (k : ℕ) × Memᴰ k (G.moves p) × (value G (G.play p k) ≡ t))
          → (comes_to t here ≡ true) ⊎ (any (comes_to t) vs ≡ true) → (k : ℕ) × Memᴰ k (G.moves p) × (value G (G.play p k) ≡ t)
      one f r (inl q) = (n.move, m.0, f (comes_is t _ q))
      one f r (inr q) = r q

      each : (here ≡ verdict_for t → value G (G.play p n.move) ≡ t) → (all (comes_to t) vs ≡ true → (k : ℕ) → HasMove k ks → value G (G.play p k) ≡ t)
          → comes_to t here ≡ true → all (comes_to t) vs ≡ true → (k : ℕ) → HasMove k (child n b ks) → value G (G.play p k) ≡ t
      each f r q w k (inl e) = ap (λ (x : ℕ). value G (G.play p x)) e ∙ f (comes_is t _ q)
      each f r q w k (inr i) = r w k i

  -- Of a tree: if the positions at the leaves of a set that makes the root t have the value t, so has the root's
  pub tree_value : (n : Node G.Pos) (b : Children G.Pos) → NodeOk G n b → Good G b → (set : List Line) → Settles G (verdict_for t) (child n b none) set
      → ((l : Line) → Memᴰ l set → value G (position_after G n.pos l) ≡ t) → value G n.pos ≡ t
  unfolding root_verdict
  tree_value n b k g set s h = node_value n b (is_in set) k (list_follows b g) (λ l i e. h l (in_list set l e)) s.makes
