-- Each turn takes an input off the text.
use Rattle.std.proofs.Common.{length}
use Rattle.judge_cases.proofs.run.Given as goal

abbrev pub decreases-loop-length : goal.decreases-loop-length
decreases-loop-length g l = length l.rest
