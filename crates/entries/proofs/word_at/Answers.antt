-- `entries::word_at` meets its contract: the library's number of eight bytes is the word. Assumes nothing.
use Rattle.std.proofs.Common.{◌∙◌}
use Rattle.entries.proofs.SameWords.{library_word}
use Rattle.entries.proofs.word_at.Goals as goal

pub returns : goal.returns
returns c = c.from_le_bytes.ensures ∙ library_word c.args.bytes.now _ c.args.k c.requires (rw c.unwrap.ensures at c.first_chunk.ensures.cases).same
