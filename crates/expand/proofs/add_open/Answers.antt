-- `expand::add_open` meets its contract: a node is allocated with the words of an open leaf. Assumes nothing.
use mathlib.Core.Path.{refl}
use native.Mathlib.Omega.{arith}
use Rattle.expand.specs.Progress.{add_asks}
use Rattle.expand.specs.Opened.{open_added}
use Rattle.expand.proofs.add_open.Goals as goal

pub alloc-child-requires : goal.alloc-child-requires
alloc-child-requires c = add_asks _ _ _ _ _ c.requires.1

pub returns : goal.returns
returns c = record { open_adds = λ m g since. open_added _ _ _ _ m g since _ c.unity.ensures _ (omega arith) _ _ _ c.pack-packed.ensures (c.alloc-child.ensures (add_asks _ _ _ _ _ g)) refl refl refl; made_value = refl }
