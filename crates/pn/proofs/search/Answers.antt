-- `pn::search` meets its contract: it starts, and reads off the result at the end. Assumes nothing.
use Rattle.pn.specs.Searches.{search_done}
use Rattle.pn.proofs.search.Goals as goal

pub finish-requires : goal.finish-requires
finish-requires c =
    let end = c.start-last.ensures.started.1 c.requires.startable.pos c.requires.startable.holds c.requires.startable.accepted in
    ((c.requires.startable.pos, _, end.going), c.start-last.ensures.started.0)

pub returns : goal.returns
returns c p h a =
    search_done p _ _ _ _ _ _ _ c.start-last.auto.words (c.start-last.ensures.started.1 p h a) c.finish.ensures
