-- `games::second_pass` meets its contract: the games before i have had their turns. Assumes nothing.
use Rattle.std.specs.Prelude.{refl}
use Rattle.std.proofs.Common.{ap, ◌∙◌, arith}
use lib.ListN.{get_or-replicate}
use Rattle.pn.specs.Results.{result_of}
use Rattle.games.proofs.SecondPasses.{to_second, second_start, second_next, second_done}
use Rattle.games.proofs.second_pass.Goals as goal

pub loop-i-init : goal.loop-i-init
loop-i-init c = second_start _ _ _ _ _ _ _ _ refl (λ k l d. ap result_of (get_or-replicate 8 k _ d l) ∙ c.no_result-results.ensures) c.requires

pub second-turn-requires : goal.second-turn-requires
second-turn-requires c =
    rw c.settings_of-s.ensures (to_second c.loop-i.invariant c.loop-i-test.true _)

pub loop-i-preserved : goal.loop-i-preserved
loop-i-preserved c =
    second_next c.loop-i.invariant c.loop-i-test.true _ c.second-turn.new.words c.second-turn.result c.second-turn.auto.words
    (rw c.settings_of-s.ensures at c.second-turn.ensures) _ (omega arith)

pub returns : goal.returns
returns c = second_done _ _ _ _ _ _ _ _ _ _ _ c.loop-i-test.false c.loop-i.invariant
