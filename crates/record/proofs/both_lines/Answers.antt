-- `record::both_lines` meets its contract: the masks are nine bits. Assumes nothing.
use native.Mathlib.Omega.{arith}
use Rattle.record.proofs.Marks.{whole_lt}
use Rattle.record.proofs.both_lines.Goals as goal

pub line-requires : goal.line-requires
line-requires c = omega (arith, whole_lt _ c.requires)

pub line-requires-then-line : goal.line-requires-then-line
line-requires-then-line c = omega (arith, whole_lt _ c.requires)
