-- `climb::climb` meets its contract: what is left of the climb comes to the whole. Rests on Turns.
use Rattle.std.proofs.Common.{refl, arith, ◌∙◌}
use Rattle.words.proofs.Words.{beyond_trans}
use Rattle.climb.specs.Turns.{starts, goes_on}
use Rattle.climb.proofs.climb.Goals as goal

pub loop-next-init : goal.loop-next-init
loop-next-init c = record { long = refl; past = λ j l. refl; going = λ g. starts g }

pub climb_step-requires : goal.climb_step-requires
climb_step-requires c = goes_on (c.loop-next.invariant.going c.requires)

pub loop-next-smaller : goal.loop-next-smaller
loop-next-smaller c = omega (arith, (c.in-Continue.ensures (goes_on (c.loop-next.invariant.going c.requires))).less)

pub loop-next-preserved : goal.loop-next-preserved
unfolding goes_on
loop-next-preserved c =
    let l = c.loop-next.invariant in record {
      long = c.climb_step.auto.words ∙ l.long;
      past = beyond_trans _ _ _ l.long l.past (c.in-Continue.ensures (goes_on (l.going c.requires))).past;
      going = λ g. (c.in-Continue.ensures (goes_on (l.going g))).way;
    }

pub returns-in-Break : goal.returns-in-Break
unfolding goes_on
returns-in-Break c =
    λ g.
    let l = c.loop-next.invariant in
    let r = c.in-Break.ensures (goes_on (l.going g)) in
    record { stands = r.way; past = beyond_trans _ _ _ l.long l.past r.past }
