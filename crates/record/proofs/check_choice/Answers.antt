-- `record::check_choice` meets its contract: a refusal by 1 to 6 stays, and otherwise check 22 decides. Assumes nothing.
use Rattle.std.specs.Prelude.{refl}
use Rattle.std.proofs.Math.Path.{sym}
use Rattle.std.proofs.lemmas.Result.{err_from_is_err_and}
use Rattle.rules.specs.Refusals.{first_refusal}
use Rattle.rules.proofs.RefusalLaws.{first_refuses}
use Rattle.refusals.proofs.Passes.{number_positive}
use Rattle.record.proofs.check_choice.Goals as goal

pub returns-in_err-game-clause-code : goal.returns-in_err-game-clause-code
returns-in_err-game-clause-code c p h =
    let q = err_from_is_err_and c.from_residual.result c.from_residual.ensures.1 in
    rw (q.1, q.2, c.in_err-game.was) (sym (first_refuses _ _ (number_positive _)))

pub returns-then-impossible_choice-clause-code : goal.returns-then-impossible_choice-clause-code
unfolding first_refusal
returns-then-impossible_choice-clause-code c p h =
    let found = c.impossible_choice.ensures p (rw (c.in_ok-game.was) at h) in
    rw (c.in_ok-game.was, ← found, c.if-impossible_choice.true) refl

pub returns-clause-code : goal.returns-clause-code
unfolding first_refusal
returns-clause-code c p h =
    let found = c.impossible_choice.ensures p (rw (c.in_ok-game.was) at h) in
    rw (c.in_ok-game.was, ← found, c.if-impossible_choice.false) refl
