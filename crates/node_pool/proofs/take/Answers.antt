-- `node_pool::take` meets its contract: by cases on the head of the freed nodes. Rests on Exists and words.
use mathlib.Core.Path.{sym, subst}
use Prim.Native.Nat.{ℕ}
use Rattle.words.specs.Free.{Number}
use Rattle.words.proofs.Free.{take_freed, take_fresh}
use Rattle.node_pool.specs.Exists.{exists_yes, exists_no}
use Rattle.node_pool.proofs.take.Goals as goal

pub first_child-head-requires : goal.first_child-head-requires
first_child-head-requires c = (take_freed _ _ _ c.requires (exists_yes _ _ c.exists.ensures c.if-exists.true)).slot

pub returns-then-exists : goal.returns-then-exists
returns-then-exists c = λ g.
    subst (λ (h : ℕ). Number _ _ _ g c.args.vacant.head.0 h c.args.vacant.used) (sym c.first_child-head.ensures)
    (take_freed _ _ _ g (exists_yes _ _ c.exists.ensures c.if-exists.true))

pub returns-else-exists : goal.returns-else-exists
returns-else-exists c = λ g. take_fresh _ _ _ g (exists_no _ _ c.exists.ensures c.if-exists.false)
