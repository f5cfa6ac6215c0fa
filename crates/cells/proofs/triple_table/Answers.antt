-- `cells::triple_table` meets its contract: its 64 entries, computed. Assumes nothing.
use mathlib.Core.Path.{refl}
use Rattle.cells.specs.Triples.{triple_table}
use Rattle.cells.proofs.triple_table.Goals as goal

pub returns : goal.returns
unfolding triple_table
returns c = refl
