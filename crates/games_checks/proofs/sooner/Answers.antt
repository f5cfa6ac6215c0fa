-- `games_checks::sooner` meets its contract. Assumes nothing.
use native.Mathlib.Omega.{arith}
use Rattle.games_checks.proofs.EarliestLaws.{sooner_passed, sooner_alone, sooner_kept, sooner_here}
use Rattle.games_checks.proofs.sooner.Goals as goal

pub returns-in_default : goal.returns-in_default
returns-in_default c j e ns h = sooner_passed _ _ e ns _ _ h _ c.in_default.is

pub returns-in-Ok : goal.returns-in-Ok
returns-in-Ok c j e ns h = sooner_alone _ _ e ns _ _ h _ c.in-Err.is _ c.in-Ok.is

pub returns-then-number : goal.returns-then-number
returns-then-number c j e ns h =
    sooner_kept _ _ e ns _ _ h _ c.in-Err.is _ c.in-Err-later.is (omega (arith, c.if-number.true, c.number.ensures, c.number-in-Err-later.ensures))

pub returns-else-number : goal.returns-else-number
returns-else-number c j e ns h =
    sooner_here _ _ e ns _ _ h _ c.in-Err.is _ c.in-Err-later.is (omega (arith, c.if-number.false, c.number.ensures, c.number-in-Err-later.ensures))
