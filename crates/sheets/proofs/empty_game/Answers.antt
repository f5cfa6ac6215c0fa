-- `sheets::empty_game` meets its contract: its bytes are the record of the empty game. Assumes nothing.
use Rattle.std.proofs.Common.{refl}
use Rattle.std.proofs.lemmas.Result.{IfOk-at_ok}
use Rattle.sheets.proofs.Steps.{empty_read, empty_held}
use Rattle.sheets.proofs.empty_game.Goals as goal

pub unwrap-requires : goal.unwrap-requires
unwrap-requires c = let g = empty_read _ c.load.ensures.code in rw g.1 refl

pub returns : goal.returns
returns c = empty_held _ (IfOk-at_ok _ c.unwrap.ensures c.load.ensures.position)
