-- `load_bench::bench_cells_from_words` meets its contract: the law of the cells taken from the words. Assumes nothing.
use native.Mathlib.Omega.{arith}
use Rattle.cells.proofs.CellLaws.{words_read}
use Rattle.load_bench.proofs.bench_cells_from_words.Goals as goal

pub returns : goal.returns
returns c = (
  λ h.
      rw (c.into.ensures.0, c.into.ensures.1)
      (words_read _ (λ k. (c.type_inv.bytes k).fits) _ c.record_words.ensures _ c.from.ensures),
  λ h. absurd (omega (arith, c.if-bytes-lt-RECORD_LENGTH.false)),
)
