-- `calls::referee` meets its contract: refused by the record, or by what is checked after it, or the value. Assumes nothing.
use Rattle.std.proofs.Common.{sym}
use Rattle.std.proofs.lemmas.Result.{err_from_is_err_and}
use Rattle.rules.specs.Record.{position_of}
use Rattle.rules.proofs.Checks.{loads, loads_accepted}
use Rattle.refusals.proofs.Passes.{number_positive}
use Rattle.calls.proofs.Turned.{referee_record, referee_late, referee_refused, referee_answered}
use Rattle.calls.proofs.referee.Goals as goal

pub returns-in_err-pos : goal.returns-in_err-pos
returns-in_err-pos c =
    let p = err_from_is_err_and c.from_residual.result c.from_residual.ensures.1 in
    let e = c.in_err-pos.ensures.code in
    rw (p.1, p.2) (referee_refused _ _ _ (referee_record _ _ _ e (number_positive _)) (number_positive _))

pub returns-in_err-first : goal.returns-in_err-first
returns-in_err-first c =
    let p = err_from_is_err_and c.from_residual-in_err-first.result c.from_residual-in_err-first.ensures.1 in
    let late = referee_late _ _ (sym c.in_ok-pos.ensures.code) _ _ (c.open_cells.ensures _ c.in_ok-pos.ensures.position) c.in_err-first.ensures in
    rw (p.1, p.2) (referee_refused _ _ _ late (number_positive _))

pub value-requires : goal.value-requires
value-requires c = (position_of _, c.in_ok-pos.ensures.position, loads_accepted _ (loads _ (sym c.in_ok-pos.ensures.code)))

pub returns : goal.returns
returns c =
    let none = sym c.in_ok-pos.ensures.code in
    let late = referee_late _ _ none _ 0 (c.open_cells.ensures _ c.in_ok-pos.ensures.position) c.in_ok-first.ensures in
    referee_answered _ _ (sym late) _ (c.value.ensures _ c.in_ok-pos.ensures.position (loads_accepted _ (loads _ none)))
