-- `pn::run` meets its contract: what is left of the search comes to its end. Assumes nothing.
use Rattle.pn.specs.Results.{OneOfFour}
use Rattle.pn.specs.Stepping.{left}
use Rattle.pn.specs.Searches.{Loop}
use Rattle.pn.proofs.run.Given as goal

abbrev pub invariant-loop-s : goal.invariant-loop-s
invariant-loop-s l = Loop l.initial.words l.initial.line l.initial.positions l.initial.x l.s l.attacker l.words l.line l.positions l.x × OneOfFour l.x.stop

abbrev pub decreases-loop-s : goal.decreases-loop-s
decreases-loop-s l = left l.x l.s
