-- `record::store` meets its contract: the loop has written the first k bytes, and left the rest. Assumes nothing.
use Prim.Native.Nat.{◌≤◌, ◌-◌}
use mathlib.Core.Path.{◌≡◌}
use mathlib.Core.List.{◌++◌}
use lib.ListN.{length, drop}
use Rattle.rules.specs.Rules.{Position, answers}
use Rattle.game.specs.Words.{Holds}
use Rattle.record.proofs.Storing.{record_byte}
use Rattle.record.proofs.store.Given as goal

abbrev pub invariant-loop-k : goal.invariant-loop-k
invariant-loop-k l = (l.k ≤ 21) × (length l.out ≡ length l.initial.out) × ((p : Position) → Holds p l.g.words 0 → l.out ≡ answers (record_byte p) 0 l.k ++ drop l.k l.initial.out)

abbrev pub decreases-loop-k : goal.decreases-loop-k
decreases-loop-k l = 21 - l.k
