-- `pn::finish` meets its contract: the root's two words and the counts. Assumes nothing.
use mathlib.Core.Path.{refl}
use Rattle.pn.specs.Going.{going_root, going_result}
use Rattle.pn.proofs.finish.Goals as goal

pub phi-proof-requires : goal.phi-proof-requires
phi-proof-requires c = (going_root _ _ _ _ _ _ c.requires.0.2).slot

pub delta-disproof-requires : goal.delta-disproof-requires
delta-disproof-requires c = (going_root _ _ _ _ _ _ c.requires.0.2).slot

pub returns : goal.returns
returns c p ps g = going_result _ _ _ _ _ _ g c.unwrap.result c.unwrap.ensures
    (record { verdict = c.verdict_of.result; proof = _; disproof = _; allocated = _; freed = _; proved = _; disproved = _; expanded = _; cause = c.cause_of.result })
    c.phi-proof.ensures c.delta-disproof.ensures c.verdict_of.ensures refl refl refl refl refl c.cause_of.ensures
