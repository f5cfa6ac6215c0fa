-- The words of a new leaf, by what evaluation gave and by whose turn it is. Rests on Packed.
use Rattle.std.specs.Prelude.{◌≡◌, List, [], ◌∷◌, Bool, true, false, not, cond, ℕ}
use Rattle.std.proofs.Math.Path.{refl}
use Rattle.std.specs.Bool.{beq}
use Rattle.machine.specs.Game.{Game}
use Rattle.machine.specs.Tree.{INFINITY, bound, leaf}
use Rattle.machine.specs.Machine.{Verdict, True, False, Unknown}
use Rattle.prove.specs.Numbers.{verdict_number}
use Rattle.words.specs.Packed.{pack, bit, evaluated, view, packed}

-- phi of a leaf with this value for the root's side, at a node of the other side if `and`; delta is phi with the sides changed
unfoldable pub leaf_phi : Verdict → Bool → ℕ
leaf_phi Unknown and = 1
leaf_phi True and = cond and INFINITY 0
leaf_phi False and = cond and 0 INFINITY

by_value : (final mine : Bool) (ms : List ℕ) → (bound (beq final mine) ms ≡ leaf_phi (evaluated final ms) (not mine)) × (bound (not (beq final mine)) ms ≡ leaf_phi (evaluated final ms) mine)
unfolding bound leaf_phi evaluated
by_value true true [] = (refl, refl)
by_value true false [] = (refl, refl)
by_value false true [] = (refl, refl)
by_value false false [] = (refl, refl)
by_value true true (m ∷ ms) = (refl, refl)
by_value true false (m ∷ ms) = (refl, refl)
by_value false true (m ∷ ms) = (refl, refl)
by_value false false (m ∷ ms) = (refl, refl)

module _ (G : Game) (p : G.Pos) (m : ℕ) where
  pub leaf_phi_is : (leaf G p m).phi ≡ leaf_phi (evaluated (G.final p) (G.moves p)) (not (G.mine p))
  unfolding leaf
  leaf_phi_is = (by_value (G.final p) (G.mine p) (G.moves p)).0

  pub leaf_delta : (leaf G p m).delta ≡ leaf_phi (evaluated (G.final p) (G.moves p)) (G.mine p)
  unfolding leaf
  leaf_delta = (by_value (G.final p) (G.mine p) (G.moves p)).1

  pub leaf_packed : packed (view G) (leaf G p m) ≡ pack (verdict_number (evaluated (G.final p) (G.moves p))) 0 (bit (not (G.mine p))) 0 m 255
  unfolding leaf packed
  leaf_packed = refl
