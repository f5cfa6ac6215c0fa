-- `descend::down` meets its contract: the child that step 2 takes is chosen, its move remembered and made, its number stored on the path. Assumes nothing.
use mathlib.Core.Path.{refl}
use Prim.Native.Nat.{◌<◌}
use native.Mathlib.Omega.{arith}
use Rattle.words.specs.Packed.{remembered_in}
use Rattle.descend.specs.Down.{Read, ReadChild, choosing, shallow, child_slot, movable, went_down}
use Rattle.descend.proofs.down.Goals.{After-move_in-mv, After-phi-phi, After-push}
use Rattle.descend.proofs.down.Goals as goal

read : (c : After-phi-phi) → Read c.args.words.now c.args.path.now c.args.depth c.args.node.id.0 c.first_child-first.result.0 c.phi-phi.result c.args.node.packed
read c = record { id_is = c.requires.node.0; packed_is = c.requires.node.1; flag = c.requires.node.2; first_is = c.first_child-first.ensures; phi_is = c.phi-phi.ensures }

above_leaves : (c : After-phi-phi) → c.args.depth < 81
above_leaves c = shallow c.requires.unsolved.0 (read c)

read-child : (c : After-move_in-mv)
    → ReadChild c.args.stay c.args.words.now c.first_child-first.result.0 c.phi-phi.result (remembered_in c.args.node.packed)
    c.choose-child.result.0 c.packed-packed.result c.move_in-mv.result.0
read-child c = record { chooses = c.choose-child.ensures; packed_is = c.packed-packed.ensures; move_is = c.move_in-mv.ensures }

pub choose-child-requires : goal.choose-child-requires
choose-child-requires c = (choosing c.requires.unsolved.0 (read (goal.at.choose-child-requires c).After-phi-phi), c.requires.unsolved.1)

pub packed-packed-requires : goal.packed-packed-requires
packed-packed-requires c = child_slot c.requires.unsolved.0 (read (goal.at.packed-packed-requires c).After-phi-phi) c.args.stay c.choose-child.ensures

pub push-requires : goal.push-requires
push-requires c =
    (above_leaves (goal.at.push-requires c).After-phi-phi, movable c.requires.unsolved.0 (read (goal.at.push-requires c).After-phi-phi) (read-child (goal.at.push-requires c).After-move_in-mv))

pub overflow_add-path : goal.overflow_add-path
overflow_add-path c = omega (arith, above_leaves (goal.at.overflow_add-path c).After-phi-phi)

pub offset_bounds-path-depth : goal.offset_bounds-path-depth
offset_bounds-path-depth c = omega (arith, above_leaves (goal.at.offset_bounds-path-depth c).After-phi-phi)

pub bounds-path-depth : goal.bounds-path-depth
bounds-path-depth c = let l = above_leaves (goal.at.bounds-path-depth c).After-phi-phi in omega (arith, l)

pub returns : goal.returns
returns c g = went_down g (read (goal.at.returns c).After-phi-phi) (read-child (goal.at.returns c).After-move_in-mv) _ c.remember.ensures refl (omega arith) c.push.ensures refl refl
