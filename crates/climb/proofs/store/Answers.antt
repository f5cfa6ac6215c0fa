-- `climb::store` meets its contract: by cases on whether the node is solved. Rests on Storing.
use Rattle.climb.specs.Storing.{unsolved_stored, countable, freeable, solved_stored}
use Rattle.climb.proofs.store.Goals as goal

pub free_siblings-pool-requires : goal.free_siblings-pool-requires
free_siblings-pool-requires c =
    freeable _ _ _ _ _ c.requires _ c.set_bounds.ensures _ c.first_child-first.ensures _ c.none.ensures _ c.set_first_child.ensures

pub count-requires : goal.count-requires
count-requires c = countable _ _ _ _ _ c.requires _ c.set_bounds.ensures

pub returns-then-not-solved : goal.returns-then-not-solved
returns-then-not-solved c = λ g. unsolved_stored _ _ _ _ _ g _ c.set_bounds.ensures _ c.solved.ensures c.if-not-solved.true

pub returns : goal.returns
returns c =
    λ g. solved_stored _ _ _ _ _ g _ c.set_bounds.ensures _ c.first_child-first.ensures _ c.none.ensures _ c.set_first_child.ensures _ c.solved.ensures
    c.if-not-solved.false _ c.packed.ensures _ c.and_in-and.ensures _ _ (c.free_siblings-pool.ensures _) _ c.count.ensures
