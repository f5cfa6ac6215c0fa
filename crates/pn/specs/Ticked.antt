-- Step 6 by its three answers. Rests on the code's state of a search.
use Rattle.std.specs.Prelude.{◌≡◌, ℕ, ◌-◌, ◌<◌, ◌≤◌, Some, IsNone}
use Rattle.prover.specs.declared.Prover.{Prover}
use Rattle.pn.specs.Results.{Limit}
use Rattle.pn.specs.declared.Settings.{Settings}
use Rattle.pn.specs.declared.Running.{Running}

pub record Ticked (x : Prover) (left : ℕ) (s : Settings) (r : Running) : Type 0 where
  pub prover_is : r.prover ≡ x
  pub on : (left ≡ 1 → ⊥) → IsNone r.stop × (r.tick ≡ left - 1)
  pub over : left ≡ 1 → s.limit < x.pool.allocated - x.pool.freed → r.stop ≡ Some Limit
  pub under : left ≡ 1 → x.pool.allocated - x.pool.freed ≤ s.limit → IsNone r.stop × (r.tick ≡ s.interval)
