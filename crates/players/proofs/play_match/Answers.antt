-- `players::play_match` meets its contract: the games played and those that are left make the report. Assumes nothing.
use Rattle.players.proofs.Matching.{matching_start, matching_ready, matching_countable, matching_next, matching_done}
use Rattle.players.proofs.play_match.Goals as goal

pub loop-i-init : goal.loop-i-init
loop-i-init c = matching_start _ _ _ _ _ c.requires.0 c.requires.1

pub play_game-g-requires : goal.play_game-g-requires
play_game-g-requires c = matching_ready c.loop-i.invariant

pub count_game-report-requires : goal.count_game-report-requires
count_game-report-requires c =
    matching_countable c.loop-i.invariant c.loop-i-test.true _ _ c.play_game-g.ensures

pub loop-i-preserved : goal.loop-i-preserved
loop-i-preserved c =
    matching_next c.loop-i.invariant c.loop-i-test.true _ _ c.play_game-g.ensures c.play_game-g.auto.words _ c.count_game-report.ensures

pub returns : goal.returns
returns c = matching_done c.loop-i.invariant c.loop-i-test.false
