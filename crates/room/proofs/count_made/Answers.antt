-- `room::count_made` meets its contract: no move stands before the target's board. Assumes nothing.
use mathlib.Core.Path.{refl}
use Rattle.std.proofs.Common.{rules}
use Rattle.children.specs.Children.{target_passed}
use Rattle.room.specs.ChildCount.{Countable, AllFrom}
use Rattle.room.proofs.count_made.Goals.{Joined-o-lt9, in-0-to-8, in_default}
use Rattle.room.proofs.count_made.Goals as goal

all_from : (c : Joined-o-lt9) (l : Countable c.args.words.now c.args.base c.args.attacker) → AllFrom l c.read-o.result c.if-o-lt9.start
all_from c l =
    let outer = c.read-o.ensures _ l.holds in
    (outer, elim c.if-o-lt9.branch [ in-0-to-8 w ↦ rw w.start-is (target_passed outer (search rules)).0 | in_default w ↦ rw w.start-is refl ])

pub count_from-requires : goal.count_from-requires
count_from-requires c = (c.requires, all_from c c.requires)

pub returns : goal.returns
returns c l = c.count_from.ensures l (all_from (goal.at.returns c).Joined-o-lt9 l)
