-- `sheets::agreed_opening` meets its contract: a short output, or the legal part of what both sheets begin with and the record after it. Assumes nothing.
use Rattle.std.proofs.Common.{refl, sym, subst, rules}
use Rattle.sheets.specs.Sheets.{empty_game}
use Rattle.sheets.specs.AgreedOpening.{AgreedOpening}
use Rattle.sheets.proofs.Beginnings.{common_counted}
use Rattle.sheets.proofs.Openings.{agreed_opening}
use Rattle.sheets.proofs.Steps.{short_called, made_called, common_called, played_within}
use Rattle.sheets.proofs.agreed_opening.Goals as goal

pub returns-then-out-lt-RECORD_LENGTH : goal.returns-then-out-lt-RECORD_LENGTH
returns-then-out-lt-RECORD_LENGTH c =
    let e = short_called _ _ _ c.if-out-lt-RECORD_LENGTH.true in
    record { out_after = e; place = tt; opening = subst (AgreedOpening _ _ _) (sym e) (agreed_opening _ _ _) }

pub store-requires : goal.store-requires
store-requires c =
    let l = (c.play_line-line.ensures empty_game c.empty_game.ensures).place in
    (c.if-out-lt-RECORD_LENGTH.false, (l.pos, l.holds))

pub slice_bounds-result-end : goal.slice_bounds-result-end
slice_bounds-result-end c =
    let within = played_within _ _ _ _ _ (c.play_line-line.ensures empty_game c.empty_game.ensures) in
    search rules

pub returns : goal.returns
returns c =
    let played = c.play_line-line.ensures empty_game c.empty_game.ensures in
    let stored = c.store.ensures played.place.pos played.place.holds in
    let counted = c.common_length.ensures in
    let alike = common_counted _ _ _ counted.within.0 counted.within.1 counted.alike counted.differ in
    let e = common_called _ _ _ _ alike _ (made_called _ _ _ _ _ _ played c.if-out-lt-RECORD_LENGTH.false stored) in
    record { out_after = e; place = refl; opening = subst (AgreedOpening _ _ _) (sym e) (agreed_opening _ _ _) }
