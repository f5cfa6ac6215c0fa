-- `entries::same_record` meets its contract: three words that are the same, or one that differs. Assumes nothing.
use Rattle.std.proofs.Common.{sym, ◌∙◌, arith}
use Rattle.std.proofs.lemmas.Bool.{false≢true}
use Rattle.entries.proofs.SameWords.{words_differ, words_same, three_words}
use Rattle.entries.proofs.same_record.Goals.{then-same_word, else-same_word}
use Rattle.entries.proofs.same_record.Goals as goal

pub returns-then-same_word-2 : goal.returns-then-same_word-2
returns-then-same_word-2 c =
    let entry = c.args.entry.now in
    let bytes = c.args.bytes.now in
    elim c.if-same_word.branch [
      | then-same_word w ↦ three_words entry 0 bytes c.told-bytes (omega (arith, c.told-entry)) _ (words_same entry 0 bytes 0 _ c.same_word.ensures w.if-same_word.true)
          (words_same entry 0 bytes 13 _ w.same_word-then-same_word.ensures (sym w.value-is ∙ c.if-same_word-2.true)) c.same_word-then-same_word-2.ensures
      | else-same_word w ↦ absurd (false≢true (sym w.if-same_word.false ∙ sym w.value-is ∙ c.if-same_word-2.true))
    ]

pub returns-else-same_word-2 : goal.returns-else-same_word-2
returns-else-same_word-2 c =
    let entry = c.args.entry.now in
    let bytes = c.args.bytes.now in
    c.if-same_word-2.false ∙ elim c.if-same_word.branch [
      | then-same_word w ↦ words_differ entry 0 bytes 13 _ w.same_word-then-same_word.ensures (sym w.value-is ∙ c.if-same_word-2.false)
      | else-same_word w ↦ words_differ entry 0 bytes 0 _ c.same_word.ensures w.if-same_word.false
    ]
