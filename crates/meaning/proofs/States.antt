-- THE MEANING OF THE NUMBERS, for any game with the stated laws and any sane policy: of every state that a search reaches, and of every Unknown.
-- Rests on Lines, Values and Smallest, and on Reached, Runs and Third of the machine.
use Rattle.std.specs.Prelude.{◌≡◌, Bool, ◌<◌}
use Rattle.std.proofs.Math.Path.{refl, ap, subst}
use mathlib.Core.List.{List, Memᴰ}
use Rattle.std.proofs.Math.Bool.{true, false}
use Rattle.std.proofs.Common.{arith}
use Rattle.machine.specs.Game.{Game, value}
use Rattle.machine.specs.Tree.{solved, proof_of, disproof_of, Children, none, child, size}
use Rattle.machine.specs.Machine.{Settings, State, Policy, root, tree, Unknown, result, ends, search}
use Rattle.machine.proofs.Value.{Lawful}
use Rattle.machine.specs.Numbers.{Good}
use Rattle.machine.specs.Place.{pool_max, sizes}
use Rattle.machine.proofs.Place.{Sane}
use Rattle.machine.proofs.Runs.{solved_known}
use Rattle.machine.proofs.Reached.{Reached, PoolInRange, ends_reached, reached_ok, tree_root, tree_good, tree_size}
use Rattle.machine.proofs.Third.{root_ok}
use Rattle.meaning.specs.Meaning.{Line, Settles, Smallest, Meaning}
use Rattle.meaning.specs.Leaves.{position_after, LeavesNamed}
use Rattle.meaning.proofs.Lines.{tree_named}
use Rattle.meaning.proofs.Verdicts.{verdict_for, towards}
use Rattle.meaning.proofs.Values.{tree_value}
use Rattle.meaning.proofs.Smallest.{tree_least}

module _ (G : Game) (L : Lawful G) (P : Policy G) (Q : Sane G P) (S : Settings) (in_range : PoolInRange S) (p : G.Pos) where
  -- OF EVERY STATE that a search reaches: its tree, as the root with what is below it, is right
  abbrev below : State G.Pos → Children G.Pos
  below s = (tree_root s).0

  good : (s : State G.Pos) → Reached G P S p s → Good G (child (root s) (below s) none)
  unfolding tree
  good s h =
      let k = (reached_ok G L P Q S in_range p s h).tree_ok in
      subst (Good G) (tree_root s).1 (tree_good G p s.above s.node s.below k.ok k.good k.above)

  small : (s : State G.Pos) → Reached G P S p s → size (below s) < pool_max
  unfolding size sizes tree
  small s h =
      omega (arith, ap (size {Pos = G.Pos}) (tree_root s).1, tree_size s.above s.node s.below, (reached_ok G L P Q S in_range p s h).fits, in_range.most)

  place : (s : State G.Pos) → Reached G P S p s → (root s).pos ≡ p
  place s h = (root_ok G L p s (reached_ok G L P Q S in_range p s h).tree_ok).place

  -- THEOREM: the lines of its tree name its open leaves
  pub leaves_named : (s : State G.Pos) → Reached G P S p s → LeavesNamed G (tree s) p
  leaves_named s h = let g = good s h in rw (tree_root s).1 (subst (LeavesNamed G (child (root s) (below s) none)) (place s h) (tree_named G (root s) (below s) g.0 g.1))

  -- THEOREM: if the positions at the leaves of a set that makes its root t have the value t, so has p
  pub turns_out : (s : State G.Pos) → Reached G P S p s → (t : Bool) (set : List Line) → Settles G (verdict_for t) (tree s) set
      → ((l : Line) → Memᴰ l set → value G (position_after G p l) ≡ t) → value G p ≡ t
  turns_out s h t set k v =
      let g = good s h in
      subst (λ (q : G.Pos). ((l : Line) → Memᴰ l set → value G (position_after G q l) ≡ t) → value G q ≡ t) (place s h)
      (tree_value G L t (root s) (below s) g.0 g.1 set (rw (tree_root s).1 at k)) v

  -- THEOREM: what the numbers of its root mean, while that is unsolved
  pub root_meaning : (s : State G.Pos) → Reached G P S p s → solved (root s) ≡ false → Meaning G (tree s) (proof_of G (root s)) (disproof_of G (root s))
  unfolding towards
  root_meaning s h e = record { proof_is = least true; disproof_is = least false }
    where
      least : (t : Bool) → Smallest G (verdict_for t) (tree s) (towards G t (root s))
      least t = let g = good s h in rw (tree_root s).1 (tree_least G L t (root s) (below s) g.0 g.1 (small s h) e)

  -- THEOREM: what the numbers of an Unknown mean
  pub meaning : (search G P S p).verdict ≡ Unknown → Meaning G (tree (ends G P S p).0) (search G P S p).proof (search G P S p).disproof
  unfolding search result
  meaning v = go (solved (root (ends G P S p).0)) refl
    where
      go : (w : Bool) → solved (root (ends G P S p).0) ≡ w → Meaning G (tree (ends G P S p).0) (search G P S p).proof (search G P S p).disproof
      go true e = absurd (solved_known G (ends G P S p) e v)
      go false e = root_meaning (ends G P S p).0 (ends_reached G P S p) e
