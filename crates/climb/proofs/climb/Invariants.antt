-- `climb::climb` meets its contract: what is left of the climb comes to the whole. Rests on Turns.
use Rattle.std.proofs.Common.{◌≡◌, suc, length}
use Rattle.plain.specs.Plain.{game}
use Rattle.words.specs.Words.{Beyond}
use Rattle.climb.specs.Asks.{climbed, Climbable, Going}
use Rattle.climb.proofs.climb.Given as goal

abbrev pub invariant-loop-next : goal.invariant-loop-next
invariant-loop-next l = record {
  long : length l.words ≡ length l.initial.words;
  past : Beyond l.initial.words l.words;
  going : (g : Climbable l.initial.words l.path l.initial.k.prover l.initial.k.bounds.phi l.initial.k.bounds.delta) → Going g.rule g.side l.words l.path g.ps l.k.prover l.k.bounds.phi l.k.bounds.delta (climbed (game g.rule g.side) g.at);
}

abbrev pub decreases-loop-next : goal.decreases-loop-next
decreases-loop-next l = suc l.k.prover.depth
