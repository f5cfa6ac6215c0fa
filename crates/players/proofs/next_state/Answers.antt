-- `players::next_state` meets its contract: it is std's wrapping sum. Assumes nothing.
use Rattle.std.proofs.Common.{rules}
use Rattle.matches.specs.Matches.{next_state}
use Rattle.players.proofs.next_state.Goals as goal

pub returns : goal.returns
unfolding next_state
returns c = search rules
