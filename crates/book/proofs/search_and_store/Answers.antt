-- `book::search_and_store` meets its contract: the search's verdict, stored if it is True or False. Assumes nothing.
use mathlib.Core.Path.{ap, sym, ◌∙◌}
use native.Mathlib.Omega.{arith}
use Prim.Native.Nat.{◌<◌}
use Rattle.rules.proofs.Checks.{loads_length}
use Rattle.machine.specs.Machine.{Result}
use Rattle.prove.specs.Numbers.{verdict, verdict_number}
use Rattle.searches.proofs.Accepting.{accepts}
use Rattle.book.specs.Book.{book_of}
use Rattle.book.proofs.ByCheck.{number_few, none_stored, one_stored}
use Rattle.book.proofs.search_and_store.Goals as goal

pub overflow_cast-v : goal.overflow_cast-v
overflow_cast-v c = let h : c.number-v.result < 4 = rw c.number-v.ensures (number_few (verdict c.search_accepted-verdict.result.verdict)) in omega arith

pub returns-then-v-eq-UNKNOWN : goal.returns-then-v-eq-UNKNOWN
returns-then-v-eq-UNKNOWN c =
    let v = ap (λ (r : Result). verdict_number r.verdict) (c.search_accepted-verdict.ensures.0 _ c.requires.0) in
    record { count_after = none_stored (book_of c.args.book.now c.args.count) _ _ v (sym c.number-v.ensures ∙ c.if-v-eq-UNKNOWN.true); pool = c.search_accepted-verdict.ensures.1 }

pub store-requires : goal.store-requires
store-requires c =
    let a = accepts _ _ _ _ c.requires.0.none in
    let few : c.number-v.result < 4 = rw c.number-v.ensures (number_few (verdict c.search_accepted-verdict.result.verdict)) in
    (loads_length _ a.loads, c.requires.1, omega (arith, a.rule_most), few)

pub returns : goal.returns
returns c =
    let v = c.number-v.ensures ∙ ap (λ (r : Result). verdict_number r.verdict) (c.search_accepted-verdict.ensures.0 _ c.requires.0) in
    record {
      count_after = rw (← c.number-v.ensures) (one_stored (book_of c.args.book.now c.args.count) _ _ _ v c.if-v-eq-UNKNOWN.false c.store.ensures);
      pool = c.search_accepted-verdict.ensures.1;
    }
