-- `pn::begin` meets its contract: one node is taken, and holds the root. Assumes nothing.
use mathlib.Core.Path.{ap, ◌∙◌}
use mathlib.Core.Bool.{false}
use Prim.Native.Nat.{ℕ}
use native.Mathlib.Omega.{arith}
use lib.ListN.{length-set}
use lib.Seq.{get_or-set_same}
use Rattle.prove.specs.Numbers.{number}
use Rattle.words.specs.Packed.{pack, bit}
use Rattle.words.proofs.Free.{all_spare}
use Rattle.pn.specs.Beginning.{root_and, begun}
use Rattle.pn.proofs.begin.Goals as goal

pub root_value-value-requires : goal.root_value-value-requires
root_value-value-requires c =
    (c.requires.pos, c.start.ensures c.requires.pos c.requires.holds)

pub alloc-node-requires : goal.alloc-node-requires
alloc-node-requires c =
    all_spare _ c.requires.some c.requires.few

pub returns : goal.returns
returns c p h a =
    let here = c.start.ensures p h in
    let value = c.root_value-value.ensures p here a in
    let node = c.alloc-node.ensures (all_spare _ c.requires.some c.requires.few) in
    begun c.args.rule p _ c.requires.some c.requires.few _ _ _ _ _ _ _ _ _ value
    (c.leaf_bounds-bounds.ensures c.args.rule p.side p 255 value (root_and c.args.rule p))
    (c.pack-packed.ensures ∙ ap (λ (m : ℕ). pack (number c.root_value-value.result) 0 (bit false) 0 m 255) c.none.ensures)
    node.number node.filled node.past
    (get_or-set_same c.args.path.now 0 _ 0 (omega (arith, c.told-path))) (length-set c.args.path.now 0 _ ∙ c.told-path) c.start.array_long here
