-- `descend::find` meets its contract: the walk is that for the move. Rests on Finding.
use Rattle.std.proofs.Common.{◌≡◌, ℕ, eqb, ap, ◌∙◌, rules}
use Rattle.words.specs.Packed.{move_in}
use Rattle.words.specs.Words.{PACKED, word}
use Rattle.descend.specs.Finding.{found_by, move_of}
use Rattle.descend.proofs.find.Goals as goal

pub returns : goal.returns
returns c =
    λ K ks p l.
    found_by K _ _ _ ks _ (c.find.ensures K ks _ (λ m i b h q.
    let e : b ≡ eqb (move_in (word c.args.words.now i.0 PACKED)) c.args.mv.0 = search rules in
    e ∙ ap (λ (y : ℕ). eqb y c.args.mv.0) (move_of K _ m i.0 h)) p l)
