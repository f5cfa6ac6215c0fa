-- `players::after` meets its contract: it is game's move, in the words of the position. Assumes nothing.
use Rattle.players.proofs.after.Goals as goal

pub returns : goal.returns
returns c p h e = (c.apply_move.ensures p h e).holds
