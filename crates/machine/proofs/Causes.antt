-- The four causes: whatever stops a run, its number is 0, 1, 2 or 3. Rests on Runs.
use Rattle.std.specs.Prelude.{Bool, true, false, cond}
use Prim.Native.Nat.{ℕ, zero, suc, ◌≤◌}
use native.Mathlib.Omega.{arith}
use Rattle.machine.specs.Game.{Game}
use Rattle.machine.specs.Tree.{solved}
use Rattle.machine.specs.Machine.{Settings, State, root, start, Policy, round, result, run, ends, search}
use Rattle.machine.proofs.Runs.{run_solved, run_short, run_over, run_next, Course, at_end, lacking, stopped, onward, course}

module _ (G : Game) (P : Policy G) (S : Settings) where
  run_stopped : (k : ℕ) (s : State G.Pos) → (run G P S k s).1 ≤ 3
  run_stopped zero s = unfold run in (omega arith)
  run_stopped (suc k) s = go (course G P S s) (run_stopped k (round G P s))
    where
      go : Course G P S s → (run G P S k (round G P s)).1 ≤ 3 → (run G P S (suc k) s).1 ≤ 3
      go (at_end e) l = rw (run_solved G P S k s e) (omega arith)
      go (lacking e t) l = rw (run_short G P S k s e t) (omega arith)
      go (stopped e t o) l = rw (run_over G P S k s e t o) (omega arith)
      go (onward e t o) l = rw (run_next G P S k s e t o) l

  -- THEOREM: a search's result has one of the four causes
  pub one_of_four : (p : G.Pos) → (search G P S p).cause ≤ 3
  unfolding search ends result
  one_of_four p = go (solved (root (ends G P S p).0))
    where
      go : (b : Bool) → cond b 0 (ends G P S p).1 ≤ 3
      go true = omega arith
      go false = run_stopped S.budget (start G p)
