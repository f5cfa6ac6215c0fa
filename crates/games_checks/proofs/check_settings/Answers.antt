-- `games_checks::check_settings` meets its contract, check by check. Assumes nothing.
use Rattle.games_checks.specs.Checks.{shares_of}
use Rattle.games_checks.specs.Common.{common_of}
use Rattle.games_checks.proofs.Passing.{settings_refuse}
use Rattle.games_checks.proofs.check_settings.Goals as goal

pub returns : goal.returns
returns c =
    rw (c.first.ensures, c.in_range.ensures, c.unwrap_or.ensures)
    (settings_refuse c.args.nodes c.args.n (shares_of c.args.shares.now c.args.n) (common_of c.args.c) _ _ c.summed-sum.ensures c.is_none.ensures)
