-- `climb::recompute` meets its contract: the numbers so far and what is left of the list give the whole list's. Rests on words.
use mathlib.Core.Path.{◌≡◌}
use native.Mathlib.Omega.{arith}
use Rattle.words.specs.Words.{NONE}
use Rattle.words.proofs.Walks.{Standing, standing, summing_start, summing_step, summing_end, summing_walks}
use Rattle.node_pool.specs.Exists.{exists_yes, exists_no}
use Rattle.climb.proofs.recompute.Goals.{In-loop-id}
use Rattle.climb.proofs.recompute.Goals as goal

-- The node that a turn stands at
some : (c : In-loop-id) → c.loop-id.id.0 ≡ NONE → ⊥
some c = exists_yes _ _ c.exists.ensures c.loop-id-test.true

here : (c : In-loop-id) → Standing c.requires.view c.args.words.now c.loop-id.id.0
here c =
    standing c.requires.view _ _ (summing_walks c.requires.view _ c.requires.walk.list _ _ _ (c.loop-id.invariant.2 c.requires)) (some c)

pub loop-id-init : goal.loop-id-init
loop-id-init c = (omega arith, omega arith, λ g. summing_start g.view _ g.walk.list _ g.walk.part g.walk.few)

pub delta-d-requires : goal.delta-d-requires
delta-d-requires c = (here (goal.at.delta-d-requires c).In-loop-id).slot

pub phi-p-requires : goal.phi-p-requires
phi-p-requires c = (here (goal.at.phi-p-requires c).In-loop-id).slot

pub sibling-id-requires : goal.sibling-id-requires
sibling-id-requires c = (here (goal.at.sibling-id-requires c).In-loop-id).slot

pub loop-id-smaller : goal.loop-id-smaller
loop-id-smaller c = rw c.sibling-id.ensures (here (goal.at.loop-id-smaller c).In-loop-id).fewer

pub loop-id-preserved : goal.loop-id-preserved
loop-id-preserved c =
    let phi : _ ≡ _ = c.least-phi.ensures in
    let delta : _ ≡ _ = c.held_sum-delta.ensures in (
      omega (arith, c.loop-id.invariant.0),
      omega arith,
      λ g. rw c.sibling-id.ensures (summing_step g.view _ g.walk.list _ _ _ _ _ (some (goal.at.loop-id-preserved c).In-loop-id) (omega (arith, c.delta-d.ensures)) (omega (arith, c.phi-p.ensures)) (c.loop-id.invariant.2 g)),
    )

pub returns : goal.returns
returns c =
    λ g.
    let e = summing_end g.view _ g.walk.list _ _ _ (exists_no _ _ c.exists.ensures c.loop-id-test.false) c.loop-id.invariant.0 c.loop-id.invariant.1 (c.loop-id.invariant.2 g) in
    record { phi_is = e.0; delta_is = e.1 }
