-- `load_bench::load_bit_by_bit_to_6` meets its contract: the two checks of the bytes, and what was read bit by bit. Assumes nothing.
use mathlib.Core.Path.{sym, ◌∙◌}
use Rattle.record.specs.Reading.{FieldsRead}
use Rattle.record.proofs.Loading.{refused_1, refused_2, refused_later, fields}
use Rattle.load_bench.proofs.load_bit_by_bit_to_6.Goals.{After-cells}
use Rattle.load_bench.proofs.load_bit_by_bit_to_6.Goals as goal

pub returns-then-bytes-ne-RECORD_LENGTH-clause-code : goal.returns-then-bytes-ne-RECORD_LENGTH-clause-code
returns-then-bytes-ne-RECORD_LENGTH-clause-code c = refused_1 _ c.if-bytes-ne-RECORD_LENGTH.true

pub returns-then-bit_at-ne0-clause-code : goal.returns-then-bit_at-ne0-clause-code
returns-then-bit_at-ne0-clause-code c = refused_2 _ c.if-bytes-ne-RECORD_LENGTH.false (λ e. c.if-bit_at-ne0.true (c.bit_at.ensures ∙ e))

abbrev read : (c : After-cells) → FieldsRead c.cells.result c.number_at-target.result c.bit_at-side.result
read c = fields _ _ _ _ c.cells.ensures c.number_at-target.ensures c.bit_at-side.ensures

pub load_fields-requires : goal.load_fields-requires
load_fields-requires c = read (goal.at.load_fields-requires c).After-cells

pub returns-clause-code : goal.returns-clause-code
unfolding fields
returns-clause-code c =
    c.load_fields.ensures.code (read (goal.at.returns-clause-code c).After-cells)
    ∙ refused_later _ c.if-bytes-ne-RECORD_LENGTH.false (sym c.bit_at.ensures ∙ c.if-bit_at-ne0.false)

pub returns-clause-position : goal.returns-clause-position
unfolding fields
returns-clause-position c = c.load_fields.ensures.position (read (goal.at.returns-clause-position c).After-cells)
