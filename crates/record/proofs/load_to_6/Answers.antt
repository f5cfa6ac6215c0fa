-- `record::load_to_6` meets its contract: check 1, check 2 of the last bit, and then the checks of what was read. Assumes nothing.
use Prim.Native.Nat.{◌/◌, ◌%◌, ◌^◌}
use mathlib.Core.Path.{◌≡◌, ap, sym, ◌∙◌}
use native.Mathlib.Omega.{arith}
use Rattle.rules.specs.Record.{bit_at, position_of}
use Rattle.rules.proofs.Roundtrip.{load_whole}
use Rattle.cells.specs.Reading.{CellsRead}
use Rattle.cells.proofs.WordLaws.{side_in, target_in, last_in}
use Rattle.cells.proofs.CellLaws.{words_read}
use Rattle.record.specs.Reading.{FieldsRead}
use Rattle.record.proofs.Loading.{refused_2, refused_later, fields, some_fields}
use Rattle.record.proofs.load_to_6.Goals.{After-from, After-record_words-w}
use Rattle.record.proofs.load_to_6.Goals as goal

-- the last bit, as the third word has it
abbrev last : (c : After-record_words-w) → c.record_words-w.result.third % 2 ≡ bit_at c.args.bytes.now 167
last c = ap (λ w. w.third % 2) c.record_words-w.ensures ∙ last_in _ (λ k. (c.type_inv.bytes k).fits)

pub returns-then-w-ne0-clause-code : goal.returns-then-w-ne0-clause-code
returns-then-w-ne0-clause-code c =
    refused_2 _ (omega arith) (λ z. c.if-w-ne0.true (last (goal.at.returns-then-w-ne0-clause-code c).After-record_words-w ∙ z))

abbrev read : (c : After-from) → CellsRead (position_of c.args.bytes.now).cells c.from.result
read c = words_read _ (λ k. (c.type_inv.bytes k).fits) _ c.record_words-w.ensures _ c.from.ensures

-- a first bit is below 2, whichever word it is of
pub load_fields-requires : goal.load_fields-requires
load_fields-requires c =
    some_fields _ _ _ _ (load_whole _) (read (goal.at.load_fields-requires c).After-from) (omega (arith, c.struct_known-3-1.given.0.fits, c.struct_known-3-1.given.1.0.fits))

-- what was read of the bytes
abbrev all_read : (c : After-from) → FieldsRead c.from.result (c.record_words-w.result.first / 2 ^ 59 % 16) (c.record_words-w.result.first / 2 ^ 63)
all_read c =
    fields _ _ _ _ (read c) (ap (λ w. w.first / 2 ^ 59 % 16) c.record_words-w.ensures ∙ target_in _ (λ k. (c.type_inv.bytes k).fits))
    (ap (λ w. w.first / 2 ^ 63) c.record_words-w.ensures ∙ side_in _ (λ k. (c.type_inv.bytes k).fits))

pub returns-clause-code : goal.returns-clause-code
unfolding fields
returns-clause-code c =
    let at = goal.at.returns-clause-code c in
    c.load_fields.ensures.code (all_read at.After-from)
    ∙ refused_later _ (omega arith) (sym (last at.After-record_words-w) ∙ c.if-w-ne0.false)

pub returns-clause-position : goal.returns-clause-position
unfolding fields
returns-clause-position c = c.load_fields.ensures.position (all_read (goal.at.returns-clause-position c).After-from)
