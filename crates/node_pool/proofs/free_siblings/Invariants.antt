-- `node_pool::free_siblings` meets its contract: at each turn the last of the nodes waiting is freed. Rests on words.
use mathlib.Core.Path.{◌≡◌}
use Prim.Native.Nat.{◌-◌}
use Rattle.rules.specs.Rules.{Position}
use Rattle.words.specs.Freeing.{Freeable, Freeing}
use Rattle.node_pool.proofs.free_siblings.Given as goal

abbrev pub invariant-loop-top : goal.invariant-loop-top
invariant-loop-top l =
    ((g : Freeable Position l.initial.words l.fn.first.0 l.initial.p.vacant.head.0 l.initial.p.freed l.initial.p.allocated) → Freeing Position l.initial.words l.fn.first.0 l.initial.p.vacant.head.0 l.initial.p.freed l.initial.p.allocated g l.words l.todo l.p.vacant.head.0 l.p.freed l.top)
    × (l.p.vacant.used ≡ l.initial.p.vacant.used)
    × (l.p.allocated ≡ l.initial.p.allocated)

abbrev pub decreases-loop-top : goal.decreases-loop-top
decreases-loop-top l = l.p.allocated - l.p.freed
