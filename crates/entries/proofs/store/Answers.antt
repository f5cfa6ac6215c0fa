-- `entries::store` meets its contract: the 21 bytes are copied; then comes the last byte. Assumes nothing.
use Rattle.std.proofs.Common.{◌∙◌, ◌+◌, ◌*◌, ◌-◌, ap, arith, length}
use Rattle.std.proofs.lemmas.List.Edits.{length-paste}
use Rattle.std.proofs.lemmas.Slice.{put_mid-paste}
use Rattle.entries.proofs.Storing.{stored_entry}
use Rattle.entries.proofs.store.Goals as goal

pub returns : goal.returns
returns c =
    let at = c.args.count * 22 in
    let book = c.args.book.now in
    let bytes = c.args.bytes.now in
    let copied = put_mid-paste at (at + 21 - at) book c.copy_from_slice.new.self bytes 21 c.copy_from_slice.ensures.after (omega arith) (omega (arith, c.requires.0)) in
    stored_entry _ _ _ c.args.count 21 _ _ _ c.requires.0 c.requires.1
    (record { within = omega arith; is = copied; long = ap length copied ∙ length-paste book at bytes 21 (omega (arith, c.requires.1)) (omega (arith, c.requires.0)) })
    (omega arith) c.last_byte.ensures
