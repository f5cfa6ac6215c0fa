-- `players::simulate` meets its contract: the checks, and then the games. Assumes nothing.
use Rattle.std.proofs.Common.{refl, ap, ◌∙◌}
use Rattle.std.proofs.lemmas.Result.{err_from_is_err_and}
use Rattle.refusals.proofs.Passes.{number_positive}
use Rattle.players.specs.Players.{simulate_refusal, in_play}
use Rattle.players.specs.Answers.{players_of}
use Rattle.players.proofs.Calling.{call_refused, pool_refused, to_play, played_answer, played_pool}
use Rattle.players.proofs.Promising.{keeps}
use Rattle.players.proofs.simulate.Goals as goal

pub returns-in_err-start : goal.returns-in_err-start
returns-in_err-start c =
    let p = err_from_is_err_and c.from_residual.result c.from_residual.ensures.1 in
    let answer = call_refused c.args.bytes.now _ (players_of c.args.c) c.args.seed c.args.games _
    (c.in_err-start.ensures.code ∙ ap (λ k. simulate_refusal c.args.bytes.now k (players_of c.args.c) c.args.games) c.capacity.ensures) (number_positive _) in
    let pool = pool_refused _ (in_play c.args.bytes.now) c.args.words.now (number_positive _) in
    rw (p.1, p.2) (record { result_value = answer; pool = pool; promised = keeps c.args.bytes.now (players_of c.args.c) c.args.seed c.args.games _ _ _ answer pool })

pub play_match-requires : goal.play_match-requires
play_match-requires c =
    to_play c.args.bytes.now c.args.words.now c.args.c c.args.seed c.args.games _ c.capacity.ensures _ c.in_ok-start.ensures.code refl _ c.in_ok-start.ensures.position

pub returns : goal.returns
returns c =
    let answer = played_answer c.args.bytes.now c.args.words.now c.args.c c.args.seed c.args.games _ c.capacity.ensures _ c.in_ok-start.ensures.code refl _ c.in_ok-start.ensures.position _ _ c.play_match.auto.words c.play_match.ensures in
    let pool = played_pool c.args.bytes.now c.args.words.now c.args.c c.args.seed c.args.games _ c.capacity.ensures _ c.in_ok-start.ensures.code refl _ c.in_ok-start.ensures.position _ _ c.play_match.auto.words c.play_match.ensures in
    record { result_value = answer; pool = pool; promised = keeps c.args.bytes.now (players_of c.args.c) c.args.seed c.args.games _ _ _ answer pool }
