-- `stay::within` meets its contract: the product loses no digit, and so the comparison is that of whole numbers. Rests on Exact.
use native.Mathlib.Omega.{arith}
use Rattle.stay.proofs.Steps.{margin_at}
use Rattle.stay.proofs.Exact.{exact}
use Rattle.stay.proofs.within.Goals as goal

pub returns : goal.returns
returns c =
    exact c.args.phi c.args.delta _ c.factor.result c.requires.0 (margin_at c.args.margin c.requires.1).0 (omega (arith, c.ranges.delta)) c.factor.ensures
