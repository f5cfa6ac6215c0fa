-- `printed::Line::put_fields`: the first numbers are written, each in at most 21 bytes. Assumes nothing.
use Rattle.printed.proofs.Texts.{Listed}
use Rattle.printed.proofs.Line.put_fields.Given as goal

abbrev pub invariant-loop-n : goal.invariant-loop-n
invariant-loop-n l = Listed l.numbers l.initial.self l.self l.n-index
