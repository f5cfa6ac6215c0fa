-- `expand::expand` meets its contract: all children are made and are the leaf's own then. Assumes nothing.
use mathlib.Core.Path.{refl, ap}
use mathlib.Core.List.{[]}
use mathlib.Core.Bool.{not}
use Rattle.expand.specs.Progress.{Progress, progress_few}
use Rattle.expand.specs.Expandable.{Expandable}
use Rattle.expand.specs.Expanding.{leaf_at, leaf_stands_at, unmade, leaf_slot, leaf_shut, expansion}
use Rattle.expand.proofs.expand.Goals.{After-make_children-m}
use Rattle.expand.proofs.expand.Goals as goal

-- After it all children are made
all_made : (c : After-make_children-m)
    (g : Expandable c.args.words.now c.args.path.now c.args.positions.now c.args.x c.args.rule c.args.attacker)
    → Progress (leaf_at _ _ _ _ _ _ g) c.make_children-m.new.words c.make_children-m.result []
unfolding unmade
all_made c g =
    c.make_children-m.ensures
    (unmade _ _ _ _ _ _ g _ c.nothing.ensures _ _ (c.read.ensures _ (leaf_stands_at _ _ _ _ _ _ g _ c.base-base.ensures)) c.base-base.ensures refl refl (ap not c.and_in.ensures) c.packed.ensures)

pub read-requires : goal.read-requires
read-requires c = (_, leaf_stands_at _ _ _ _ _ _ c.requires _ c.base-base.ensures)

pub make_children-m-requires : goal.make_children-m-requires
make_children-m-requires c =
    unmade _ _ _ _ _ _ c.requires _ c.nothing.ensures _ _ (c.read.ensures _ (leaf_stands_at _ _ _ _ _ _ c.requires _ c.base-base.ensures)) c.base-base.ensures refl refl (ap not c.and_in.ensures) c.packed.ensures

pub attach-requires : goal.attach-requires
attach-requires c =
    (leaf_slot _ _ _ _ _ _ c.requires _ _ (all_made (goal.at.attach-requires c).After-make_children-m c.requires), leaf_shut _ _ _ _ _ _ c.requires _ _ (all_made (goal.at.attach-requires c).After-make_children-m c.requires))

pub count-requires : goal.count-requires
count-requires c =
    (c.requires.few_allocated, c.requires.few_expanded, progress_few (all_made (goal.at.count-requires c).After-make_children-m c.requires))

pub returns : goal.returns
returns c g = expansion _ _ _ _ _ _ g _ _ (all_made (goal.at.returns c).After-make_children-m g) _ c.attach.ensures _ c.count.ensures refl refl
