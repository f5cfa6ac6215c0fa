-- `stay::factor` meets its contract: the sum is exact. Rests on Exact.
use Rattle.stay.proofs.Steps.{margin_at}
use Rattle.stay.proofs.Exact.{one_more}
use Rattle.stay.proofs.factor.Goals as goal

pub returns : goal.returns
returns c = let m = margin_at c.args.margin c.requires in one_more c.args.margin _ m.0 m.1
