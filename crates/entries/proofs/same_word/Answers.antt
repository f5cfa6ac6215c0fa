-- `entries::same_word` meets its contract: the words are the same exactly if their bytes are. Assumes nothing.
use Rattle.std.proofs.Common.{ap, ap₂, sym, ◌∙◌, zero-add, arith}
use lib.Dec.{eqb}
use Rattle.entries.specs.SameWords.{little_endian}
use Rattle.entries.proofs.SameWords.{same_word}
use Rattle.entries.proofs.same_word.Goals as goal

pub returns : goal.returns
returns c =
    let entry = c.args.entry.now in
    let k = c.args.k in
    same_word entry 0 c.args.bytes.now c.told-bytes (omega (arith, c.told-entry)) c.fits-entry c.fits-bytes k c.requires _
    (ap₂ eqb (c.word_at.ensures ∙ ap (λ j. little_endian entry j 8) (sym (zero-add k))) c.word_at-2.ensures)
