-- `node_pool::find` meets its contract: the list goes on from here, and no node passed the test. Rests on Seeking.
use Rattle.words.proofs.Walks.{standing}
use Rattle.node_pool.specs.Exists.{exists_yes, exists_no}
use Rattle.node_pool.proofs.Seeking.{seeking_start, seeking_next, seeking_found, seeking_none}
use Rattle.node_pool.proofs.find.Goals as goal

pub loop-id-init : goal.loop-id-init
loop-id-init g c = record { walk = c.requires.walks; seeking = seeking_start _ _ _ }

pub test-requires : goal.test-requires
test-requires g c =
    let k = c.loop-id.invariant.walk in
    c.requires.tests _ (standing k.0 _ _ k.1 (exists_yes _ _ c.exists.ensures c.loop-id-test.true)).slot

pub returns-then-test : goal.returns-then-test
returns-then-test g c = seeking_found _ _ _ _ (exists_yes _ _ c.exists.ensures c.loop-id-test.true) c.if-test.ensures c.loop-id.invariant.seeking

pub sibling-id-requires : goal.sibling-id-requires
sibling-id-requires g c =
    let k = c.loop-id.invariant.walk in
    (standing k.0 _ _ k.1 (exists_yes _ _ c.exists.ensures c.loop-id-test.true)).slot

pub loop-id-smaller : goal.loop-id-smaller
loop-id-smaller g c =
    let k = c.loop-id.invariant.walk in
    rw c.sibling-id.ensures (standing k.0 _ _ k.1 (exists_yes _ _ c.exists.ensures c.loop-id-test.true)).fewer

pub loop-id-preserved : goal.loop-id-preserved
loop-id-preserved g c =
    let k = c.loop-id.invariant.walk in
    let z = exists_yes _ _ c.exists.ensures c.loop-id-test.true in record {
      walk = (k.0, rw c.sibling-id.ensures (standing k.0 _ _ k.1 z).next);
      seeking = seeking_next _ _ _ _ _ z c.if-test.ensures c.sibling-id.ensures c.loop-id.invariant.seeking;
    }

pub returns : goal.returns
returns g c = seeking_none _ _ _ _ (exists_no _ _ c.exists.ensures c.loop-id-test.false) c.loop-id.invariant.seeking
