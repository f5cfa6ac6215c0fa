-- `expand::add_child` meets its contract: a node is allocated with the words of the child's leaf. Assumes nothing.
use mathlib.Core.Path.{refl}
use native.Mathlib.Omega.{arith}
use Rattle.expand.specs.Progress.{add_asks, added}
use Rattle.expand.proofs.add_child.Goals as goal

pub alloc-node-requires : goal.alloc-node-requires
alloc-node-requires c = add_asks _ _ _ _ _ c.requires

pub returns : goal.returns
returns c g =
    added _ _ _ _ _ g _ _ _ _ c.leaf_bounds-bounds.ensures c.pack-packed.ensures (c.alloc-node.ensures (add_asks _ _ _ _ _ g)) _
    (record {
      head_is = refl;
      used_is = refl;
      made_is = omega arith;
      last_is = refl;
      phi_is = c.least.ensures;
      delta_is = c.held_sum.ensures;
      ended_is = refl;
    })
