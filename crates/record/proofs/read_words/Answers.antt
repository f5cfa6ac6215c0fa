-- `record::read_words` meets its contract: the states of the boards that the cells show. Assumes nothing.
use Rattle.rules.specs.Rules.{board_states}
use Rattle.record.proofs.Loading.{coded}
use Rattle.record.proofs.read_words.Goals as goal

pub show-requires : goal.show-requires
show-requires c = coded _ _ _ c.requires c.if-rest-ne0.false

pub returns : goal.returns
unfolding coded board_states
returns c g e = record {
  states = c.show.result.states;
  masks = (c.show.ensures (coded _ _ _ g e)).states;
  words = c.fill.ensures;
}
