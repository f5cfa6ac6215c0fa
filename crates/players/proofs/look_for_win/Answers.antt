-- `players::look_for_win` meets its contract: the moves before a place are passed over. Assumes nothing.
use Rattle.std.proofs.Common.{sym, ◌∙◌, arith}
use Rattle.players.specs.Turning.{looking_searchable, looking_fits, looking_wins, looking_next}
use Rattle.players.proofs.Turning.{looking_start, looking_movable, looking_none}
use Rattle.players.proofs.look_for_win.Goals as goal

pub loop-place-init : goal.loop-place-init
loop-place-init c = looking_start _ _ _ _ _ c.requires

pub after-requires : goal.after-requires
after-requires c = looking_movable c.loop-place.invariant c.loop-place-test.true

pub search-r-requires : goal.search-r-requires
search-r-requires c = looking_searchable c.loop-place.invariant c.loop-place-test.true _ c.after.ensures

pub overflow_add-expanded : goal.overflow_add-expanded
overflow_add-expanded c = omega (arith, looking_fits c.loop-place.invariant c.loop-place-test.true _ c.after.ensures _ _ c.search-r.ensures)

pub returns-then-is_false : goal.returns-then-is_false
returns-then-is_false c =
    looking_wins c.loop-place.invariant c.loop-place-test.true _ c.after.ensures _ _ c.search-r.ensures (sym c.is_false.ensures ∙ c.if-is_false.true)

pub loop-place-preserved : goal.loop-place-preserved
loop-place-preserved c =
    looking_next c.loop-place.invariant c.loop-place-test.true _ c.after.ensures _ _ c.search-r.ensures c.search-r.auto.words (sym c.is_false.ensures ∙ c.if-is_false.false)

pub returns : goal.returns
returns c = looking_none c.loop-place.invariant c.loop-place-test.false
