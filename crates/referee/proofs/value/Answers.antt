-- `referee::value` meets its contract: at the root it is the attacker's turn. Assumes nothing.
use Rattle.referee.proofs.Deciding.{root_turn, root_value}
use Rattle.referee.proofs.value.Goals as goal

pub attack-requires : goal.attack-requires
attack-requires c = root_turn c.requires.0 _ _ c.side_to_move.ensures.0 c.requires.1 c.requires.2

pub returns : goal.returns
returns c p h a = root_value p _ _ c.side_to_move.ensures.0 h a _ _ c.attack.ensures
