-- `players::drawn_place` meets its contract: a remainder is below its divisor. Assumes nothing.
use Rattle.std.proofs.Common.{refl, mod-lt}
use Rattle.matches.specs.Matches.{drawn_place}
use Rattle.players.proofs.drawn_place.Goals as goal

pub returns : goal.returns
unfolding drawn_place
returns c = (refl, mod-lt _ c.requires)
