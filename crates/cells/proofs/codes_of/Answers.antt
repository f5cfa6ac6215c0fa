-- `cells::codes_of` meets its contract: the sum of three entries of the table. Assumes nothing.
use mathlib.Core.Path.{refl}
use Rattle.cells.proofs.Triples.{three_law}
use Rattle.cells.proofs.codes_of.Goals as goal

pub returns : goal.returns
returns c =
    three_law _ c.requires _ _ (rw (c.triple.ensures.0, c.triple-2.ensures.0, c.triple-3.ensures.0)) refl refl refl
