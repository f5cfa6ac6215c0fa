-- `node_pool::free` meets its contract: two stores and the count. Rests on words.
use mathlib.Core.Path.{refl}
use native.Mathlib.Omega.{arith}
use Rattle.words.proofs.Words.{stored, slot_long, only_beyond}
use Rattle.words.proofs.Trees.{part_only}
use Rattle.words.proofs.Free.{released, free_push}
use Rattle.node_pool.proofs.free.Goals as goal

pub returns : goal.returns
returns c =
    let s₁ = c.requires.0 in
    let r = released (stored _ _ _ _ _ s₁ (omega arith) c.put.ensures) (stored _ _ _ _ _ (slot_long c.put.auto.words s₁) (omega arith) c.put-2.ensures) in
    record {
      released = r;
      head_is = refl;
      used_is = refl;
      allocated_is = refl;
      freed_is = refl;
      list = λ xs z f. free_push _ _ _ _ xs r s₁ z f;
      trees = λ K ks i e z h. (part_only K _ _ _ r.only ks i e z h).0;
      past = only_beyond s₁ r.only;
    }
