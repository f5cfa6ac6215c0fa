-- `cells::nine_boards` meets its contract: the loop has read the first b boards. Assumes nothing.
use Rattle.std.specs.Prelude.{List, ℕ, ◌<◌}
use Rattle.rules.specs.Rules.{board}
use Rattle.cells.specs.declared.Codes.{Codes}
use Rattle.cells.specs.Reading.{Masks, BoardsRead}
use Rattle.cells.proofs.nine_boards.Given as goal

abbrev pub invariant-loop-b : goal.invariant-loop-b
invariant-loop-b g l =
    (cs : List ℕ) → ((b : ℕ) (r : Codes) → b < 9 → goal.F-post g l.each b r → Masks (board cs b) r) → BoardsRead cs l.b l.words l.rest
