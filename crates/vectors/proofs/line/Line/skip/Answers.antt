-- Where another word stands than the one asked for, that one does not stand there too.
use Rattle.std.proofs.Common.{rules, ◌≡◌}
use Rattle.vectors.proofs.Words.{leads_once}
use Rattle.vectors.proofs.line.Line.skip.Goals as goal

pub returns-in_default-clause-all : goal.returns-in_default-clause-all
returns-in_default-clause-all c after h = let same : c.in-Ok.word.now ≡ c.args.asked.now = leads_once _ _ _ _ _ c.in-Ok.ensures.next.1 h.1 in search rules
