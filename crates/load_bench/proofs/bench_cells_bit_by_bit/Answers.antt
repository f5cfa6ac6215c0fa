-- `load_bench::bench_cells_bit_by_bit` meets its contract: what the reading bit by bit ensures. Assumes nothing.
use native.Mathlib.Omega.{arith}
use Rattle.load_bench.proofs.bench_cells_bit_by_bit.Goals as goal

pub returns : goal.returns
returns c = (λ h. rw (c.into.ensures.0, c.into.ensures.1) c.cells.ensures, λ h. absurd (omega (arith, c.if-bytes-lt-RECORD_LENGTH.false)))
