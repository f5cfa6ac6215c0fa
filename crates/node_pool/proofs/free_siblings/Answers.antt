-- `node_pool::free_siblings` meets its contract: at each turn the last of the nodes waiting is freed. Rests on words.
use mathlib.Core.Path.{refl, ap, sym, ◌∙◌, subst}
use Prim.Native.Nat.{ℕ, ◌-◌}
use native.Mathlib.Omega.{arith}
use Rattle.rules.specs.Rules.{Position}
use Rattle.words.proofs.Trees.{part_agree}
use Rattle.words.specs.Freeing.{Freeing, Turn}
use Rattle.words.proofs.Freeing.{freeing_start, freeing_end, turn, below_room, step}
use Rattle.node_pool.specs.declared.NodeID.{NodeID}
use Rattle.node_pool.proofs.free_siblings.Goals.{In-loop-top}
use Rattle.node_pool.proofs.free_siblings.Goals as goal

abbrev Still : In-loop-top → Type 0
Still c = Freeing Position c.args.words.now c.args.first.0 c.args.pool.vacant.head.0 c.args.pool.freed c.args.pool.allocated c.requires
    c.loop-top.words c.loop-top.todo c.loop-top.p.vacant.head.0 c.loop-top.p.freed c.loop-top.top

still : (c : In-loop-top) → Still c
still c = c.loop-top.invariant.0 c.requires

abbrev Here : In-loop-top → Type 0
Here c = Turn Position c.args.words.now c.args.first.0 c.args.pool.vacant.head.0 c.args.pool.freed c.args.pool.allocated c.requires
    c.loop-top.words c.loop-top.todo c.loop-top.p.freed (c.loop-top.top - 1)

here : (c : In-loop-top) → Here c
here c = turn Position _ _ _ _ _ c.requires _ _ _ _ _ (omega arith) (still c)

pub wait-top-requires : goal.wait-top-requires
wait-top-requires c = λ z. omega arith

pub loop-top-init : goal.loop-top-init
loop-top-init c =
    ((λ g. freeing_start _ _ _ _ _ _ g _ _ _ c.wait-top.ensures), refl, refl)

pub offset_bounds-todo-at : goal.offset_bounds-todo-at
offset_bounds-todo-at c = omega (arith, (here (goal.at.offset_bounds-todo-at c).In-loop-top).low)

pub bounds-todo-at : goal.bounds-todo-at
bounds-todo-at c = (here (goal.at.bounds-todo-at c).In-loop-top).low

pub sibling-next-requires : goal.sibling-next-requires
sibling-next-requires c = (here (goal.at.sibling-next-requires c).In-loop-top).slot

pub first_child-child-requires : goal.first_child-child-requires
first_child-child-requires c = (here (goal.at.first_child-child-requires c).In-loop-top).slot

pub wait-above-requires : goal.wait-above-requires
wait-above-requires c = λ z. (here (goal.at.wait-above-requires c).In-loop-top).low

pub free-p-requires : goal.free-p-requires
free-p-requires c =
    ((here (goal.at.free-p-requires c).In-loop-top).slot, omega (arith, (here (goal.at.free-p-requires c).In-loop-top).more, c.loop-top.invariant.2))

pub loop-top-smaller : goal.loop-top-smaller
loop-top-smaller c =
    let r = c.free-p.ensures in
    omega (arith, r.freed_is, r.allocated_is, (here (goal.at.loop-top-smaller c).In-loop-top).more, c.loop-top.invariant.2)

pub loop-top-preserved : goal.loop-top-preserved
loop-top-preserved c =
    let r = c.free-p.ensures in
    let w₁ = c.wait-above.ensures in
    let w₂ = c.wait-top-in-loop-top.ensures in (
      (λ g. step Position _ _ _ _ _ g _ _ _ _ _ (omega arith) (c.loop-top.invariant.0 g) _ _ c.sibling-next.ensures
          c.first_child-child.ensures _ _ w₁ _ _ w₂ _ r.released _ _ (ap (λ (i : NodeID). i.0) r.head_is) r.freed_is),
      r.used_is ∙ c.loop-top.invariant.1,
      r.allocated_is ∙ c.loop-top.invariant.2,
    )

pub returns : goal.returns
returns c g =
    let l = c.loop-top in
    let f = freeing_end Position _ _ _ _ _ g _ _ _ _ (subst (λ (t : ℕ). Freeing Position _ _ _ _ _ g l.words l.todo l.p.vacant.head.0 l.p.freed t) (omega arith) (l.invariant.0 g)) in
    record { freed = f; used_is = l.invariant.1; allocated_is = l.invariant.2; trees = λ K ks i e z h. (part_agree K _ _ f.long ks i e (λ x p. f.kept x (z x p)) h).0 }

pub wait-top-requires-in-loop-top : goal.wait-top-requires-in-loop-top
wait-top-requires-in-loop-top c =
    (below_room _ _ _ _ _ _ _ _ _ _ _ _ (omega arith) (still (goal.at.wait-top-requires-in-loop-top c).In-loop-top) _ _ c.sibling-next.ensures
    c.first_child-child.ensures _ _ c.wait-above.ensures (sym c.wait-above.ensures.long ∙ c.wait-above.array_long)).1
