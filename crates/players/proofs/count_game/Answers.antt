-- `players::count_game` meets its contract: each number goes up by one where the state is its own. Assumes nothing.
use Rattle.std.proofs.Common.{◌∙◌}
use Rattle.players.proofs.Matching.{counts}
use Rattle.players.proofs.count_game.Goals as goal

pub returns : goal.returns
returns c p h =
    counts c.args.r c.args.g (c.state_number-state.ensures ∙ c.game_state.ensures p h) c.one.ensures.0 c.one-2.ensures.0 c.one-3.ensures.0
