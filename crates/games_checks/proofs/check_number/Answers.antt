-- `games_checks::check_number` meets its contract, check by check. Assumes nothing.
use Rattle.games_checks.specs.Checks.{number_refusal}
use Rattle.games_checks.proofs.check_number.Goals as goal

pub returns : goal.returns
unfolding number_refusal
returns c = c.first.ensures
