-- Laws of specs/Descent.antt. Step 2 keeps the tree and comes to a leaf, one child at a time; and how high and deep the tree is. Rests on Place.
use Rattle.std.specs.Prelude.{◌≡◌, List, [], ◌∷◌, Bool, length}
use Rattle.std.proofs.Math.Path.{refl, ap, sym}
use Rattle.std.proofs.Common.{◌∙◌}
use Rattle.std.proofs.Math.Bool.{true, false}
use Prim.Native.Nat.{ℕ, zero, suc, ◌+◌, ◌≤◌}
use native.Mathlib.Omega.{arith}
use Rattle.machine.specs.Game.{Game}
use Rattle.machine.specs.Tree.{INFINITY, Node, Children, none, child, append}
use Rattle.machine.specs.Machine.{Ancestor, State, Policy, down, descend, to_leaf}
use Rattle.machine.proofs.Value.{Lawful}
use Rattle.machine.specs.Numbers.{ByMoves, NodeOk, open_leaf, inner, won, lost, Good, open_leaves}
use Rattle.machine.proofs.Numbers.{inner_of, open_size, bounded}
use Rattle.machine.specs.Place.{pool_max, Above, sizes, sizes_of, AtUnsolved, UnsolvedAt}
use Rattle.machine.proofs.Place.{by_moves_at, Infinite, Choosable, Sane, Moved, into_ok}
use Rattle.machine.specs.Descent.{height}

infinite : (G : Game) (ks : Children G.Pos) → Good G ks → Infinite ks
infinite G none g = tt
infinite G (child n b ks) g = (go g.0, infinite G ks g.2)
  where
    go : NodeOk G n b → n.phi ≡ 0 → INFINITY ≤ n.delta
    go (open_leaf o) z = absurd (omega (arith, o.phi_is))
    go (inner i) z = absurd (omega (arith, i.phi_pos))
    go (won q p d v) z = d
    go (lost q d p v) z = absurd (omega arith)

-- What step 2 leaves as it was
pub record Found (G : Game) (r : G.Pos) (s t : State G.Pos) : Type 0 where
  pub rest : AtUnsolved G r t
  pub shut : t.node.expanded ≡ false
  pub counts_same : t.counts ≡ s.counts
  pub sizes_same : sizes_of G t ≡ sizes_of G s

module _ (G : Game) (P : Policy G) where
  by_flag : ℕ → State G.Pos → Bool → State G.Pos
  by_flag k s t = elim t [ true ↦ descend G P k (down G P s) | false ↦ s ]

  descend_in : (k : ℕ) (s : State G.Pos) → s.node.expanded ≡ true → descend G P (suc k) s ≡ descend G P k (down G P s)
  unfolding descend by_flag
  descend_in k s e = ap (by_flag k s) e

  descend_out : (k : ℕ) (s : State G.Pos) → s.node.expanded ≡ false → descend G P k s ≡ s
  unfolding descend by_flag
  descend_out zero s e = refl
  descend_out (suc k) s e = ap (by_flag k s) e

  -- Once at a leaf it stays there
  descend_stays : (j k : ℕ) (s : State G.Pos) → j ≤ k → (descend G P j s).node.expanded ≡ false → descend G P k s ≡ descend G P j s
  unfolding descend
  descend_stays zero k s h e = descend_out k s e
  descend_stays (suc j) zero s h e = absurd (omega arith)
  descend_stays (suc j) (suc k) s h e = go s.node.expanded refl (λ q. descend_stays j k (down G P s) (omega arith) q)
    where
      go : (t : Bool) → s.node.expanded ≡ t
          → ((descend G P j (down G P s)).node.expanded ≡ false → descend G P k (down G P s) ≡ descend G P j (down G P s))
          → descend G P (suc k) s ≡ descend G P (suc j) s
      go true q f = descend_in k s q ∙ f (ap (λ (t : State G.Pos). t.node.expanded) (sym (descend_in j s q)) ∙ e) ∙ sym (descend_in j s q)
      go false q f = descend_out (suc k) s q ∙ sym (descend_out (suc j) s q)

  pub leaf_here : (s : State G.Pos) → s.node.expanded ≡ false → to_leaf G P s ≡ s
  unfolding to_leaf
  leaf_here s e = descend_out (G.left s.node.pos) s e

-- What step 2 meets at an unsolved expanded node
pub choosable : (G : Game) (r : G.Pos) (s : State G.Pos) → AtUnsolved G r s → (sizes_of G s).nodes ≤ pool_max → s.node.expanded ≡ true → Choosable s.node s.below
unfolding sizes
choosable G r s h z e =
    let i = inner_of G s.node s.below h.ok h.phi_pos h.delta_pos e in
    let b = bounded G s.below h.good (omega (arith, i.phi_pos, i.phi_is)) in
    let most : s.node.phi ≤ open_leaves s.below = omega (arith, i.phi_is, b.1 (omega (arith, i.delta_is, i.delta_pos))) in
    record { phi_pos = i.phi_pos; phi_small = omega (arith, open_size s.below); phi_is = i.phi_is; infinite = infinite G s.below h.good }

module _ (G : Game) (L : Lawful G) (P : Policy G) (Q : Sane G P) (r : G.Pos) where
  -- The child that step 2 takes is there and unsolved
  pub taken : (s : State G.Pos) → AtUnsolved G r s → (sizes_of G s).nodes ≤ pool_max → s.node.expanded ≡ true → UnsolvedAt s.below (P.select s.node s.below)
  taken s h z e = Q.selects s.node s.below (choosable G r s h z e)

  pub down_ok : (s : State G.Pos) → AtUnsolved G r s → (sizes_of G s).nodes ≤ pool_max → s.node.expanded ≡ true → Moved G r s.counts s.above s.node s.below (down G P s)
  unfolding down append
  down_ok s h z e = into_ok G L r s.counts s.above s.node none s.below _ (inner_of G s.node s.below h.ok h.phi_pos h.delta_pos e) tt h.good h.above (taken s h z e)

  small : (s t : State G.Pos) → sizes_of G t ≡ sizes_of G s → (sizes_of G s).nodes ≤ pool_max → (sizes_of G t).nodes ≤ pool_max
  small s t e h = rw e h

  found_here : (k : ℕ) (s : State G.Pos) → AtUnsolved G r s → s.node.expanded ≡ false → Found G r s (descend G P k s)
  found_here k s h e = rw (descend_out G P k s e) (record { rest = h; shut = e; counts_same = refl; sizes_same = refl })

  descend_ok : (k : ℕ) (s : State G.Pos) → AtUnsolved G r s → (sizes_of G s).nodes ≤ pool_max → G.left s.node.pos ≤ k → Found G r s (descend G P k s)
  descend_ok zero s h z d = go s.node.expanded refl
    where
      go : (b : Bool) → s.node.expanded ≡ b → Found G r s (descend G P zero s)
      go true e = absurd (omega (arith, (down_ok s h z e).nearer))
      go false e = found_here zero s h e
  descend_ok (suc k) s h z d = go s.node.expanded refl (λ m. descend_ok k (down G P s) m.rest (small s (down G P s) m.sizes_same z) (omega (arith, m.nearer)))
    where
      go : (b : Bool) → s.node.expanded ≡ b
          → (Moved G r s.counts s.above s.node s.below (down G P s) → Found G r (down G P s) (descend G P k (down G P s)))
          → Found G r s (descend G P (suc k) s)
      go false e f = found_here (suc k) s h e
      go true e f =
          let m = down_ok s h z e in
          let t = f m in
          rw (descend_in G P k s e) (record { rest = t.rest; shut = t.shut; counts_same = t.counts_same ∙ m.counts_same; sizes_same = t.sizes_same ∙ m.sizes_same })

  pub leaf_ok : (s : State G.Pos) → AtUnsolved G r s → (sizes_of G s).nodes ≤ pool_max → Found G r s (to_leaf G P s)
  unfolding to_leaf
  leaf_ok s h z = descend_ok (G.left s.node.pos) s h z (omega arith)

  -- One child at a time: the law of a loop that does step 2
  pub leaf_down : (s : State G.Pos) → AtUnsolved G r s → (sizes_of G s).nodes ≤ pool_max → s.node.expanded ≡ true → to_leaf G P s ≡ to_leaf G P (down G P s)
  unfolding to_leaf
  leaf_down s h z e =
      let m = down_ok s h z e in
      let j = G.left (down G P s).node.pos in
      let f = leaf_ok (down G P s) m.rest (small s (down G P s) m.sizes_same z) in
      descend_stays G P (suc j) (G.left s.node.pos) s m.nearer (ap (λ (t : State G.Pos). t.node.expanded) (descend_in G P j s e) ∙ f.shut)
      ∙ descend_in G P j s e

module _ (G : Game) (L : Lawful G) where
  below_height : (n : Node G.Pos) (b : Children G.Pos) → NodeOk G n b → (ByMoves G n.pos b → height b ≤ G.left n.pos) → height b ≤ G.left n.pos
  unfolding height
  below_height n b k f = go k
    where
      bare : b ≡ none → height b ≤ G.left n.pos
      bare e = rw e (omega arith)

      go : NodeOk G n b → height b ≤ G.left n.pos
      go (open_leaf o) = bare o.bare
      go (inner i) = f i.by_moves
      go (won e p d v) = bare e
      go (lost e d p v) = bare e

  -- No tree is higher than what is left at its root
  pub height_left : (p : G.Pos) (ks : Children G.Pos) → Good G ks → ByMoves G p ks → height ks ≤ G.left p
  unfolding height
  height_left p none g h = omega arith
  height_left p (child n b ks) g h =
      omega (arith, below_height n b g.0 (λ i. height_left n.pos b g.1 i), height_left p ks g.2 h.2, L.falls p n.move h.0, ap G.left h.1)

  pub node_height : (n : Node G.Pos) (b : Children G.Pos) → NodeOk G n b → Good G b → height b ≤ G.left n.pos
  node_height n b k g = below_height n b k (λ i. height_left n.pos b g i)

  -- No more nodes are above than what was left at the root
  pub depth_left : (r : G.Pos) (up : List (Ancestor G.Pos)) (n : Node G.Pos) → Above G r up n → length up + G.left n.pos ≤ G.left r
  depth_left r [] n u = omega (arith, ap G.left u)
  depth_left r (a ∷ up) n u =
      let k = by_moves_at G a.node.pos a.before a.after n none u.0.mid.by_moves in
      omega (arith, depth_left r up a.node u.1, L.falls a.node.pos n.move k.0, ap G.left k.1)
