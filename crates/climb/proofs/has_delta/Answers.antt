-- `climb::has_delta` meets its contract: a node is found exactly if the list has the delta. Rests on Changed.
use Rattle.std.proofs.Common.{◌≡◌, ℕ, eqb, ap, ◌∙◌, rules}
use Rattle.words.specs.Words.{DELTA, word}
use Rattle.climb.specs.Changed.{found}
use Rattle.climb.proofs.has_delta.Goals as goal

pub returns : goal.returns
returns c =
    λ g.
    c.is_some.ensures ∙ found g.view _ _ _ g.walk.list _ (c.find.ensures g.view g.walk.list _ (λ m i b h p.
    let e : b ≡ eqb (word c.args.words.now i.0 DELTA) c.args.delta = search rules in
    e ∙ ap (λ (y : ℕ). eqb y c.args.delta) h.delta_is) g.walk.part g.walk.few)
