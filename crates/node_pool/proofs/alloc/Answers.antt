-- `node_pool::alloc` meets its contract: a number is taken and filled. Rests on words.
use Rattle.words.proofs.Words.{only_beyond}
use Rattle.words.proofs.Free.{taken_free}
use Rattle.words.proofs.Making.{filled_as}
use Rattle.node_pool.proofs.alloc.Goals as goal

pub fill-requires : goal.fill-requires
fill-requires c = (c.take-node.ensures c.requires).slot

pub returns : goal.returns
returns c = λ g.
    let n = c.take-node.ensures g in
    let f = c.fill.ensures in
    record {
      number = n;
      filled = f;
      list = taken_free _ _ _ _ g _ _ _ n f.only;
      trees = λ K m ks p d k b z h. filled_as K _ _ _ _ _ _ _ m ks n.slot f p d k b z h;
      past = only_beyond n.slot f.only;
    }
