-- `printed::Line::put_number` ends, since n falls.
use Rattle.printed.proofs.Line.+put_number.Given as goal

abbrev pub decreases-put_number : goal.decreases-put_number
decreases-put_number l = l.n
