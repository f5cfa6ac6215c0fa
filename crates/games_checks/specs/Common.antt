-- What the code's Common holds, as the checks have it.
use Rattle.games_checks.specs.Checks as checks
use Rattle.games_checks.specs.declared.Common as code

abbrev pub common_of : code.Common → checks.Common
common_of c = record { rule = c.rule; limit = c.limit; allowance = c.allowance; interval = c.interval; stay = c.stay }
