-- `record::store` meets its contract: the loop has written the first k bytes, and left the rest. Assumes nothing.
use mathlib.Core.Path.{◌≡◌, refl, ap, ap₂, ◌∙◌}
use mathlib.Core.List.{◌++◌}
use native.Mathlib.Omega.{arith}
use lib.ListN.{set, drop, length-set}
use Rattle.rules.specs.Rules.{answers}
use Rattle.rules.specs.Record.{record_of}
use Rattle.record.proofs.Storing.{record_byte, write_next}
use Rattle.record.proofs.store.Goals as goal

pub loop-k-init : goal.loop-k-init
loop-k-init c = (omega arith, refl, λ p h. refl)

pub record_byte-requires : goal.record_byte-requires
record_byte-requires c = (c.requires.1, omega arith)

pub bounds-out-k : goal.bounds-out-k
bounds-out-k c = omega (arith, c.requires.0)

pub loop-k-preserved : goal.loop-k-preserved
loop-k-preserved c = (
  omega arith,
  simp length-set c.loop-k.invariant.1,
  λ p h.
      ap₂ (λ l v. set l c.loop-k.k v) (c.loop-k.invariant.2 p h) (c.record_byte.ensures p h)
      ∙ write_next (record_byte p) c.loop-k.k c.args.out.now (omega (arith, c.requires.0)),
)

pub returns : goal.returns
unfolding record_of
returns c p h =
    let e : c.loop-k.k ≡ 21 = omega arith in
    c.loop-k.invariant.2 p h ∙ ap (λ n. answers (record_byte p) 0 n ++ drop n c.args.out.now) e
