-- `games::judge_games` meets its contract, check by check, and then by both passes. Assumes nothing.
use Rattle.std.proofs.Common.{ap, sym, ◌∙◌, arith, div-le_self}
use Rattle.std.proofs.lemmas.Result.{err_from_is_err_and}
use Rattle.std.specs.Prelude.{Ok}
use Rattle.refusals.proofs.Passes.{number_positive}
use Rattle.games_checks.specs.Checks.{games, shares_of, settings_refusal}
use Rattle.games_checks.specs.Common.{common_of}
use Rattle.games_checks.specs.Earliest.{of_no_game}
use Rattle.games_checks.proofs.Passing.{counted}
use Rattle.games.proofs.Calling.{call_number, call_record, call_settings, to_play, passes_answer}
use Rattle.games.proofs.Promising.{keeps, keeps_refused}
use Rattle.games.proofs.judge_games.Goals as goal

pub returns-in_err-check_number : goal.returns-in_err-check_number
returns-in_err-check_number c =
    let p = err_from_is_err_and c.from_residual.result c.from_residual.ensures.1 in
    let q =
    keeps_refused c.args.bytes.now c.args.shares.now (common_of c.args.c) c.args.words.now (of_no_game _)
    (call_number c.args.bytes.now _ c.args.shares.now (common_of c.args.c) _ c.in_err-check_number.ensures (number_positive _)) in
    rw (p.1, p.2) (record { result_value = q.0; pool = q.1.0; promised = q.1.1 })

pub earliest-requires : goal.earliest-requires
earliest-requires c = let k = counted c.args.bytes.now (sym c.in_ok-check_number.ensures) in (k.few, omega arith)

pub returns-in_err-earliest : goal.returns-in_err-earliest
returns-in_err-earliest c =
    let p = err_from_is_err_and c.from_residual-in_err-earliest.result c.from_residual-in_err-earliest.ensures.1 in
    let q =
    keeps_refused c.args.bytes.now c.args.shares.now (common_of c.args.c) c.args.words.now _
    (call_record c.args.bytes.now _ c.args.shares.now (common_of c.args.c) (sym c.in_ok-check_number.ensures) _ _ c.in_err-earliest.ensures (number_positive _)) in
    rw (p.1, p.2) (record { result_value = q.0; pool = q.1.0; promised = q.1.1 })

pub check_settings-requires : goal.check_settings-requires
check_settings-requires c = let k = counted c.args.bytes.now (sym c.in_ok-check_number.ensures) in (k.some, k.few)

pub returns-in_err-check_settings : goal.returns-in_err-check_settings
returns-in_err-check_settings c =
    let p = err_from_is_err_and c.from_residual-in_err-check_settings.result c.from_residual-in_err-check_settings.ensures.1 in
    let q =
    keeps_refused c.args.bytes.now c.args.shares.now (common_of c.args.c) c.args.words.now (of_no_game _)
    (call_settings c.args.bytes.now _ c.args.shares.now (common_of c.args.c) (sym c.in_ok-check_number.ensures) (sym c.in_ok-earliest.ensures.code_is) _
    (c.in_err-check_settings.ensures ∙ ap (λ k. settings_refusal k (games c.args.bytes.now) (shares_of c.args.shares.now (games c.args.bytes.now)) (common_of c.args.c)) c.capacity-nodes.ensures)
    (number_positive _)) in
    rw (p.1, p.2) (record { result_value = q.0; pool = q.1.0; promised = q.1.1 })

pub nonzero_div-size : goal.nonzero_div-size
nonzero_div-size c = (counted c.args.bytes.now (sym c.in_ok-check_number.ensures)).some

pub overflow_mul-size : goal.overflow_mul-size
overflow_mul-size c = omega (arith, div-le_self c.capacity-nodes.result (games c.args.bytes.now), c.capacity-nodes.ensures)

pub both_passes-results-requires : goal.both_passes-results-requires
both_passes-results-requires c =
    to_play c.args.bytes.now c.args.words.now c.args.shares.now c.args.c (sym c.in_ok-check_number.ensures) (sym c.in_ok-earliest.ensures.code_is) _ c.capacity-nodes.ensures
    (sym c.in_ok-check_settings.ensures)

pub returns : goal.returns
returns c =
    let passes = passes_answer c.args.bytes.now c.args.words.now c.args.shares.now c.args.c (sym c.in_ok-check_number.ensures) (sym c.in_ok-earliest.ensures.code_is) _
    c.capacity-nodes.ensures (sym c.in_ok-check_settings.ensures) _ _ _ _ c.both_passes-results.ensures.first_passed c.both_passes-results.ensures.second_passed
    c.both_passes-results.ensures.long (c.both_passes-results.auto.words ∙ sym c.both_passes-results.ensures.long) in
    let q =
    keeps c.args.bytes.now c.args.shares.now (common_of c.args.c) c.args.words.now c.both_passes-results.new.words
    (Ok (record { count = games c.args.bytes.now; results = c.both_passes-results.result })) passes.0 passes.1 in
    record { result_value = q.0; pool = q.1.0; promised = q.1.1 }
