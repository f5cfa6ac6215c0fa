-- `load_bench::refused_words` gives what it reads to a function that asks for a reading of a position's fields. Assumes nothing.
use mathlib.Core.Path.{ap, ◌∙◌}
use Prim.Native.Nat.{◌/◌, ◌%◌, ◌^◌}
use Rattle.cells.proofs.WordLaws.{side_in, target_in}
use Rattle.cells.proofs.CellLaws.{words_read}
use Rattle.record.proofs.Loading.{fields}
use Rattle.load_bench.proofs.refused_words.Goals as goal

pub read_words-requires : goal.read_words-requires
read_words-requires c =
    fields c.args.bytes.now _ _ _ (words_read _ (λ k. (c.type_inv.bytes k).fits) _ c.record_words-w.ensures _ c.from.ensures)
    (ap (λ w. w.first / 2 ^ 59 % 16) c.record_words-w.ensures ∙ target_in _ (λ k. (c.type_inv.bytes k).fits))
    (ap (λ w. w.first / 2 ^ 63) c.record_words-w.ensures ∙ side_in _ (λ k. (c.type_inv.bytes k).fits))
