-- `games::first_pass` meets its contract: the games before i have stopped in their parts. Assumes nothing.
use Rattle.std.specs.Prelude.{◌≡◌, refl, List, ℕ}
use Rattle.std.proofs.Common.{subst, arith}
use Rattle.std.proofs.lemmas.Result.{IfOk-at_ok}
use Rattle.rules.specs.Rules.{Position}
use Rattle.pn.specs.declared.Settings.{Settings}
use Rattle.resume.specs.Keeping.{Stopped}
use Rattle.resume.specs.declared.Kept.{Kept}
use Rattle.games.proofs.FirstPasses.{record_read, record_holds, to_first, first_accepted, unspent_enough, first_start, first_next, first_done}
use Rattle.games.proofs.first_pass.Goals as goal

-- The same search, its settings by an equation
stopped-with : {p : Position} {s t : Settings} {v : List ℕ} {k : Kept} → s ≡ t → Stopped p s v k → Stopped p t v k
stopped-with {p} {s} {t} {v} {k} e h = subst (λ (r : Settings). Stopped p r v k) e h

pub loop-i-init : goal.loop-i-init
loop-i-init c = rw c.requires.2 (first_start _ _ _ _ _ _ _ c.requires.1 c.requires.0)

pub unwrap-root-requires : goal.unwrap-root-requires
unwrap-root-requires c = rw (record_read c.loop-i.invariant.from _ _ c.loop-i-test.true c.load.ensures.code).1 refl

pub first-k-requires : goal.first-k-requires
first-k-requires c =
    rw c.settings_of-s.ensures (to_first c.loop-i.invariant c.loop-i-test.true _ (record_holds c.loop-i.invariant.from _ _ (IfOk-at_ok _ c.unwrap-root.ensures c.load.ensures.position)))

pub overflow_sub-pass : goal.overflow_sub-pass
overflow_sub-pass c =
    unspent_enough c.loop-i.invariant c.loop-i-test.true _ _ c.first-k.auto.words
    (stopped-with c.settings_of-s.ensures (c.first-k.ensures.stopped _ (record_holds c.loop-i.invariant.from _ _ (IfOk-at_ok _ c.unwrap-root.ensures c.load.ensures.position)) (first_accepted c.loop-i.invariant c.loop-i-test.true)))

pub loop-i-preserved : goal.loop-i-preserved
loop-i-preserved c =
    first_next c.loop-i.invariant c.loop-i-test.true _ _ c.first-k.auto.words
    (stopped-with c.settings_of-s.ensures (c.first-k.ensures.stopped _ (record_holds c.loop-i.invariant.from _ _ (IfOk-at_ok _ c.unwrap-root.ensures c.load.ensures.position)) (first_accepted c.loop-i.invariant c.loop-i-test.true))) _ (omega arith)

pub returns : goal.returns
returns c = first_done _ _ _ _ _ _ _ _ _ _ c.loop-i-test.false c.loop-i.invariant
