-- `descend::descend` meets its contract: what stands at each turn leads to the leaf of the start; the places left on the path fall. Assumes nothing.
use mathlib.Core.Path.{◌≡◌, refl, sym, ◌∙◌}
use native.Mathlib.Omega.{arith}
use borrow.Author.Tests.{eqb-true, eqb-false}
use Rattle.words.specs.Packed.{expanded_in}
use Rattle.descend.specs.Descending.{Descending, current, descending_start, descending_step, descending_done}
use Rattle.descend.proofs.descend.Goals.{At-loop-stay, In-loop-stay}
use Rattle.descend.proofs.descend.Goals as goal

turn : (c : At-loop-stay) → Descending c.args.stay c.requires.0.0 c.loop-stay.words c.loop-stay.path c.loop-stay.positions c.loop-stay.depth c.loop-stay.node
turn c = c.loop-stay.invariant c.requires.0.0 c.requires.0.1

open-there : (c : In-loop-stay) → expanded_in c.loop-stay.node.packed ≡ 1
open-there c = eqb-true _ _ (sym c.expanded_in.ensures ∙ c.loop-stay-test.true)

pub packed-requires : goal.packed-requires
packed-requires c = c.requires.0.0.stands.tree.tree.node.slot

pub loop-stay-init : goal.loop-stay-init
loop-stay-init c g e = descending_start c.args.stay g e refl c.packed.ensures

pub expanded_in-requires : goal.expanded_in-requires
expanded_in-requires c = tt

pub down-node-requires : goal.down-node-requires
down-node-requires c =
    let h = turn (goal.at.down-node-requires c).At-loop-stay in
    record { node = (h.id_is, h.packed_is, open-there (goal.at.down-node-requires c).In-loop-stay); unsolved = (current c.args.stay c.requires.0.0 h, c.requires.1) }

pub overflow_add-depth : goal.overflow_add-depth
overflow_add-depth c = let h = turn (goal.at.overflow_add-depth c).At-loop-stay in omega arith

pub loop-stay-smaller : goal.loop-stay-smaller
loop-stay-smaller c = let h = turn (goal.at.loop-stay-smaller c).At-loop-stay in omega arith

pub loop-stay-preserved : goal.loop-stay-preserved
loop-stay-preserved c g e =
    descending_step c.args.stay g (c.loop-stay.invariant g e) (open-there (goal.at.loop-stay-preserved c).In-loop-stay) c.down-node.ensures

pub returns : goal.returns
returns c g e =
    descending_done c.args.stay g (c.loop-stay.invariant g e) (eqb-false _ _ (sym c.expanded_in.ensures ∙ c.loop-stay-test.false))
