-- `searches::search_accepted` meets its contract: it is pn's search, of a position that passed every check. Assumes nothing.
use Rattle.searches.specs.Answers.{limits_of}
use Rattle.searches.proofs.Accepting.{passed_accepted, to_search}
use Rattle.searches.proofs.Pools.{untouched}
use Rattle.searches.proofs.search_accepted.Goals as goal

pub search-requires : goal.search-requires
search-requires c =
    to_search _ _ _ _ (limits_of c.args.l) c.requires.1

pub returns : goal.returns
returns c =
    let L = limits_of c.args.l in
    let past = (c.search.ensures _ c.requires.1.holds (passed_accepted _ L c.requires.1)).past in
    (λ bytes h. (c.search.ensures _ h.holds (passed_accepted _ L h)).result_is, untouched c.args.words.now c.search.new.words c.search.auto.words past)
