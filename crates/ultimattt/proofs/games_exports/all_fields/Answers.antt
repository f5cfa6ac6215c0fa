-- `ultimattt::games_exports::all_fields` meets its contract: each result's fields stand in its place. Assumes nothing.
use Rattle.std.proofs.Common.{rules, sym, ◌∙◌, arith}
use Rattle.ultimattt.specs.AllFields.{fields_alike}
use Rattle.ultimattt.proofs.games_exports.all_fields.Goals as goal

pub returns : goal.returns
returns c =
    let m = c.map.ensures.items in
    fields_alike c.map.result c.args.results (m.long ∙ sym c.requires) (λ k l d e. let h = m.at k e d (omega (arith, l, m.long)) in search rules)
