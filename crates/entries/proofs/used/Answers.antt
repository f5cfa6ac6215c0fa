-- `entries::used` meets its contract: the chunks of the used bytes are the first of the book. Assumes nothing.
use Rattle.std.proofs.Common.{◌≡◌, ◌*◌, ◌/◌, ◌∙◌, length, take, arith, length-take-le}
use Rattle.entries.proofs.Chunks.{first_chunks-take}
use Rattle.entries.proofs.used.Goals as goal

pub returns : goal.returns
returns c =
    let n = c.args.count in
    let book = c.args.book.now in
    let k : length (take (n * 22) book) / 22 ≡ n = omega (arith, length-take-le (n * 22) book c.requires) in
    c.as_chunks.ensures.front ∙ rw k (first_chunks-take n book)
