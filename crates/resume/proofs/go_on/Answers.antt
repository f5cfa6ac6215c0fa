-- `resume::go_on` meets its contract: it takes the search up again and runs it. Assumes nothing.
use Rattle.resume.specs.Keeping.{to_resume, resumed}
use Rattle.resume.proofs.go_on.Goals as goal

pub run-k-requires : goal.run-k-requires
run-k-requires c = (to_resume c.requires).0

pub returns : goal.returns
returns c g = resumed g _ _ _ _ c.run-k.ensures.ran.0 c.run-k.ensures.ran.1
