-- `printed::Line::put_bytes` keeps the zeros after the text. Assumes nothing.
use Rattle.std.proofs.Common.{◌≡◌, ◌≤◌, ap, sym, arith, length, length-take-le, ◌∙◌}
use borrow.Rule.Slice.PartMut.{same_len_mid}
use Rattle.printed.proofs.Texts.{zeros_left}
use Rattle.printed.proofs.Line.put_bytes.Goals as goal

pub invariant_of-self : goal.invariant_of-self
invariant_of-self c =
    let within : c.self.inside.length ≤ length c.self.inside.bytes = omega (arith, c.self.told, c.self.invariant.1) in
    let old : length c.args.self.now ≡ c.self.inside.length = ap length (sym c.self.view_is) ∙ length-take-le c.self.inside.length c.self.inside.bytes within in (
      same_len_mid _ _ _ _ c.copy_from_slice.ensures.len ∙ c.self.told,
      omega (arith, old, c.requires),
      zeros_left _ _ _ _ (omega arith) within (omega (arith, ap length c.copy_from_slice.ensures.after)) c.self.invariant.2,
    )
