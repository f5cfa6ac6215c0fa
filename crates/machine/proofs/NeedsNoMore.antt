-- Where step 3 asks for no more nodes, only results with cause 2 can change: of any two policies that choose the same child, and of the plain machine against the one that asks for a
-- node for each legal move. Rests on Needs, RunsAlike and Rounds.
use Rattle.std.specs.Prelude.{◌≡◌, refl, false, ◌-◌}
use Rattle.std.proofs.Math.Path.{ap}
use Rattle.std.proofs.Common.{arith}
use borrow.Author.Tests.{ltb-false, le-ltb}
use Rattle.machine.specs.Game.{Game}
use Rattle.machine.specs.Machine.{Stay, Settings, live, State, start, Policy, standard, short, result, ends, search}
use Rattle.machine.proofs.Value.{Lawful}
use Rattle.machine.proofs.Rounds.{children_ok}
use Rattle.machine.proofs.RunsAlike.{run_alike}
use Rattle.machine.specs.Needs.{AsksNoLess, asking_for_moves}

module _ (G : Game) (P Q : Policy G) (h : AsksNoLess G P Q) (S : Settings) where
  not_short : (s : State G.Pos) → short G P S s ≡ false → short G Q S s ≡ false
  unfolding short
  not_short s e = le-ltb (S.pool - live s.counts) (Q.need s.node.pos) (omega (arith, h.no_less s.node.pos, ltb-false (S.pool - live s.counts) (P.need s.node.pos) e))

  -- THEOREM: a search by P that has another cause than 2 has the same result by Q, in all nine fields
  pub asking_no_more : (p : G.Pos) → ((search G P S p).cause ≡ 2 → ⊥) → search G Q S p ≡ search G P S p
  unfolding search ends
  asking_no_more p v = ap (result G) (run_alike G P Q h.same_child S S not_short (λ s. refl) S.budget (start G p) (λ two. absurd (v two)))

-- The plain machine asks for no more nodes than there are legal moves
pub no_more_than_moves : (G : Game) → Lawful G → (y : Stay) → AsksNoLess G (asking_for_moves G y) (standard G y)
unfolding asking_for_moves standard
no_more_than_moves G L y = record { same_child = λ n ks. refl; no_less = λ p. omega (arith, (children_ok G L p).most) }
