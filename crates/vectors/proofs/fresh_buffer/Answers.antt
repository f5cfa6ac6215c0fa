-- `vectors::fresh_buffer` meets its contract: a repeat is as long as it says. Assumes nothing.
use Prim.Native.Nat.{ℕ}
use mathlib.Core.Path.{sym}
use lib.ListN.{length-replicate}
use Rattle.vectors.proofs.fresh_buffer.Goals as goal

pub returns : goal.returns
returns c = sym (length-replicate {A = ℕ} 655360 0)
