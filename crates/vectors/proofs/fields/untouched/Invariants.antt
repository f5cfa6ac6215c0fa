-- `vectors::fields::untouched` meets its contract: every word that was looked at is the pattern. Assumes nothing.
use Rattle.std.specs.Prelude.{◌≡◌, ℕ, ◌≤◌, ◌<◌, get_or}
use Rattle.vectors.proofs.fields.untouched.Given as goal

abbrev pub invariant-loop-i : goal.invariant-loop-i
invariant-loop-i l = (k : ℕ) → l.fn.from ≤ k → k < l.i → get_or l.pool k 0 ≡ 2779096485
