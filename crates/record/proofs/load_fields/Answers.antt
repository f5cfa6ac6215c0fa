-- `record::load_fields` meets its contract: check 2 of the cells, and then the checks of the position; its words hold it. Assumes nothing.
use mathlib.Core.Path.{sym, ◌∙◌}
use Rattle.std.proofs.lemmas.Result.{err_from_is_err_and}
use Rattle.rules.specs.Rules.{board_states}
use Rattle.rules.specs.Rules.Player.{X, O}
use Rattle.record.specs.declared.Boards.{Boards}
use Rattle.record.specs.Reading.{Coded, Checking, FieldsRead}
use Rattle.record.proofs.Counted.{counted}
use Rattle.record.proofs.Loading.{refused_code, coded, checking, holds}
use Rattle.record.proofs.load_fields.Goals.{After-count_cells-2}
use Rattle.record.proofs.load_fields.Goals as goal

pub returns-then-read-ne0-clause-code : goal.returns-then-read-ne0-clause-code
returns-then-read-ne0-clause-code c g = refused_code _ _ _ g c.if-read-ne0.true

pub show-shown-requires : goal.show-shown-requires
show-shown-requires c = coded _ _ _ c.requires c.if-read-ne0.false

abbrev boards : After-count_cells-2 → Boards
boards c = record { shown = c.show-shown.result; xs = c.count_cells.result; os = c.count_cells-2.result }

abbrev checked : (c : After-count_cells-2) → FieldsRead c.args.read c.args.target c.args.side → Checking (boards c) c.args.target c.args.side
unfolding coded
checked c g =
    let cells : Coded c.args.read.words = coded _ _ _ g c.if-read-ne0.false in
    checking _ _ _ g c.if-read-ne0.false (boards c) (c.show-shown.ensures cells) (c.count_cells.ensures ∙ counted _ cells X) (c.count_cells-2.ensures ∙ counted _ cells O)

pub check-requires : goal.check-requires
check-requires c = checked (goal.at.check-requires c).After-count_cells-2 c.requires

pub returns-in_err-check-clause-code : goal.returns-in_err-check-clause-code
unfolding checking checked
returns-in_err-check-clause-code c g =
    let p = err_from_is_err_and c.from_residual.result c.from_residual.ensures.1 in
    rw (p.1, p.2) (c.in_err-check.ensures (checked (goal.at.returns-in_err-check-clause-code c).After-count_cells-2 g))

pub returns-clause-code : goal.returns-clause-code
unfolding checking checked
returns-clause-code c g = c.in_ok-check.ensures (checked (goal.at.returns-clause-code c).After-count_cells-2 g)

pub returns-clause-position : goal.returns-clause-position
unfolding checking checked coded board_states
returns-clause-position c g =
    let at = (goal.at.returns-clause-position c).After-count_cells-2 in
    let shows = c.show-shown.ensures (coded _ _ _ g c.if-read-ne0.false) in
    rw c.fill.ensures (holds _ _ _ g _ shows.states (sym (c.in_ok-check.ensures (checked at g))))
