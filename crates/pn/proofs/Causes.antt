-- A search goes on, or has stopped for one of the four causes. Rests on Results and Ticked.
use Rattle.std.specs.Prelude.{ℕ, ◌-◌, ◌<◌, ◌≡◌, Option, Some, None, IsNone}
use Rattle.std.proofs.Common.{true≢false}
use Rattle.std.proofs.Math.Decide.{ℕ_discrete, dec_lt}
use native.Mathlib.Omega.{arith}
use Rattle.prover.specs.declared.Prover.{Prover}
use Rattle.pn.specs.Results.{OneOfFour}
use Rattle.pn.specs.Ticked.{Ticked}
use Rattle.pn.specs.declared.Settings.{Settings}
use Rattle.pn.specs.declared.Running.{Running}
use Rattle.pn.specs.declared.Cause.{Cause}

-- one that goes on
pub none_four : (o : Option Cause) → IsNone o → OneOfFour o
none_four None e = tt
none_four (Some c) e = absurd (true≢false e)

-- one that step 6 stops, or lets go on
pub ticked_four : (x : Prover) (left : ℕ) (s : Settings) (r : Running) → Ticked x left s r → OneOfFour r.stop
ticked_four x left s r t = go (ℕ_discrete left 1) (dec_lt s.limit (x.pool.allocated - x.pool.freed))
  where
    go : Dec (left ≡ 1) → Dec (s.limit < x.pool.allocated - x.pool.freed) → OneOfFour r.stop
    go (no n) d = none_four r.stop (t.on n).0
    go (yes e) (yes l) = rw (t.over e l) (omega arith)
    go (yes e) (no n) = none_four r.stop (t.under e (omega (arith, n))).0
