-- `resume::second` meets its contract, by whether its budget had stopped the game. Assumes nothing.
use Rattle.std.specs.Prelude.{◌≡◌, ◌+◌, Bool, Option, None, Some, not, true, false}
use Rattle.std.specs.Option.{option_eq}
use Rattle.std.proofs.Common.{ap, sym, ◌∙◌, true≢false}
use Rattle.std.proofs.lemmas.Bool.{eqb-true, not-false}
use Rattle.pn.specs.Results.{Budget}
use Rattle.pn.specs.Going.{with_budget, one_budget}
use Rattle.pn.specs.declared.Cause.{Cause}
use Rattle.pn.specs.contracts.CausePartialEq.TheImpl.{eq-value}
use Rattle.resume.specs.Passing.{passes_kept, passes_on, to_go_on, result_long, result_most}
use Rattle.resume.proofs.second.Goals as goal

-- The test, read: the budget stopped it, or not
spent : (o : Option Cause) (b : Bool) → b ≡ not (option_eq eq-value.it o (Some Budget)) → b ≡ false → o ≡ Some Budget
spent None b e q = absurd (true≢false (sym e ∙ q))
spent (Some c) b e q = ap (λ (d : Cause). Some d) (one_budget c (eqb-true c.0 1 (not-false _ (sym e ∙ q))))

unspent : (o : Option Cause) (b : Bool) → b ≡ not (option_eq eq-value.it o (Some Budget)) → b ≡ true → o ≡ Some Budget → ⊥
unspent o b e q h = true≢false (sym q ∙ (rw h at e))

pub finish-requires : goal.finish-requires
finish-requires c =
    ((c.requires.start, _, c.requires.stopped.going), c.requires.stopped.stop)

pub returns-then-ne : goal.returns-then-ne
returns-then-ne c p h = passes_kept h _ (unspent _ _ c.ne.ensures c.if-ne.true) c.finish.result (c.finish.ensures p _ h.going)

pub go_on-last-requires : goal.go_on-last-requires
go_on-last-requires c =
    to_go_on c.requires.stopped _ (spent _ _ c.ne.ensures c.if-ne.false) c.requires.ranges c.requires.countable

pub finish-result-requires : goal.finish-result-requires
unfolding to_go_on
finish-result-requires c =
    let end = c.go_on-last.ensures (to_go_on c.requires.stopped _ (spent _ _ c.ne.ensures c.if-ne.false) c.requires.ranges c.requires.countable) in
    ((c.requires.start, _, end.going), end.stop)

pub overflow_sub-result : goal.overflow_sub-result
unfolding to_go_on
overflow_sub-result c =
    let more = to_go_on c.requires.stopped c.args.unspent (spent _ _ c.ne.ensures c.if-ne.false) c.requires.ranges c.requires.countable in
    result_most c.requires.start (with_budget c.args.s (c.args.s.budget + c.args.unspent)) c.args.words.now c.go_on-last.new.words c.finish-result.result c.go_on-last.auto.words
    (c.finish-result.ensures c.requires.start _ (c.go_on-last.ensures more).going) more.ranges

pub returns : goal.returns
unfolding to_go_on
returns c p h =
    let n = spent _ _ c.ne.ensures c.if-ne.false in
    passes_on h c.args.unspent n c.finish-result.result
    (result_long p (with_budget c.args.s (c.args.s.budget + c.args.unspent)) c.args.words.now c.go_on-last.new.words c.finish-result.result c.go_on-last.auto.words
    (c.finish-result.ensures p _ (c.go_on-last.ensures (to_go_on h c.args.unspent n c.requires.ranges c.requires.countable)).going))
