-- `printed::Line::put_number` meets its contract: the digits of a tenth, if there are any, and the last. Assumes nothing.
use Rattle.std.proofs.Common.{◌≡◌, ap, ◌∙◌, arith, ◌++◌, length, length-append, ◌%◌}
use Rattle.printed.specs.Printed.{byte, digit, decimal}
use Rattle.printed.proofs.Texts.{tenth_shorter, one_digit, more_digits}
use Rattle.printed.proofs.Line.+put_number.Goals.{then-n-ge10, else-n-ge10}
use Rattle.printed.proofs.Line.+put_number.Goals as goal

pub put_number-requires : goal.put_number-requires
put_number-requires t c = (omega arith, omega (arith, tenth_shorter c.args.n c.if-n-ge10.true, c.requires))

pub put_bytes-requires : goal.put_bytes-requires
put_bytes-requires t c =
    let whole : c.if-n-ge10.self ++ byte (digit (c.args.n % 10)) ≡ c.args.self.now ++ decimal c.args.n =
    elim c.if-n-ge10.branch [
      | then-n-ge10 w ↦ more_digits _ _ _ w.if-n-ge10.true (w.self-is ∙ w.put_number.ensures)
      | else-n-ge10 w ↦ one_digit _ _ _ w.if-n-ge10.false w.self-is
    ] in
    omega (arith, c.requires, ap length whole, length-append c.if-n-ge10.self (byte (digit (c.args.n % 10))), length-append c.args.self.now (decimal c.args.n))

pub returns : goal.returns
returns t c =
    c.put_bytes.ensures
    ∙ elim c.if-n-ge10.branch [
      | then-n-ge10 w ↦ more_digits _ _ _ w.if-n-ge10.true (w.self-is ∙ w.put_number.ensures)
      | else-n-ge10 w ↦ one_digit _ _ _ w.if-n-ge10.false w.self-is
    ]
