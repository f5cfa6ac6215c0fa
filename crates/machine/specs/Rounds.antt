-- Step 4, and the whole round: what holds between rounds holds at the start and is kept. Rests on Descent and Climb.
use Prim.Native.Nat.{ℕ, ◌≤◌}
use Rattle.machine.specs.Game.{Game, sequences}
use Rattle.machine.specs.Machine.{State}
use Rattle.machine.specs.Place.{sizes_of}
use Rattle.machine.specs.Climb.{TreeOk, CountsFit}

-- What holds between rounds: the tree is right, the counts fit it, and it fits the pool
pub record StateOk (G : Game) (r : G.Pos) (pool : ℕ) (s : State G.Pos) : Type 0 where
  pub tree_ok : TreeOk G r s
  pub counts_fit : CountsFit (sequences G r) s.counts (sizes_of G s)
  pub fits : (sizes_of G s).nodes ≤ pool
