-- `record::show` meets its contract: the loop has what the first b boards show. Assumes nothing.
use mathlib.Core.Path.{◌≡◌}
use native.Mathlib.Omega.{arith}
use Rattle.record.proofs.Added.{nothing_shown, board_coded}
use Rattle.record.proofs.show.Goals as goal

pub loop-b-init : goal.loop-b-init
loop-b-init c = (omega arith, λ g. nothing_shown g.cells)

pub add-shown-requires : goal.add-shown-requires
add-shown-requires c =
    (record { place = c.loop-b-test.true; cells = c.requires.cells; whole = c.requires.whole; shows = c.loop-b.invariant.1 c.requires; board_masks = board_coded _ c.requires _ c.loop-b-test.true })

pub loop-b-smaller : goal.loop-b-smaller
loop-b-smaller c = omega (arith, c.loop-b-test.true)

pub loop-b-preserved : goal.loop-b-preserved
loop-b-preserved c = (
  omega (arith, c.loop-b-test.true),
  λ g. c.add-shown.ensures (record { place = c.loop-b-test.true; cells = g.cells; whole = g.whole; shows = c.loop-b.invariant.1 g; board_masks = board_coded _ g _ c.loop-b-test.true }),
)

pub returns : goal.returns
returns c g = let e : c.loop-b.b ≡ 9 = omega arith in rw e at (c.loop-b.invariant.1 g)
