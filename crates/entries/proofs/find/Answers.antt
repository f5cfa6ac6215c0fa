-- `entries::find` meets its contract: the verdict of the first entry that answers, or none. Assumes nothing.
use Rattle.std.proofs.Common.{◌*◌, arith}
use Rattle.entries.proofs.Placing.{find_at, find_none}
use Rattle.entries.proofs.Chunks.{verdict_found}
use Rattle.entries.proofs.find.Goals as goal

pub returns-in_err-at : goal.returns-in_err-at
returns-in_err-at c =
    rw c.from_residual.ensures
    (find_none c.args.who c.args.bytes.now c.args.rule c.args.count c.args.book.now {at = c.args.count * 22} (omega (arith, c.in_err-at.ensures)) (omega arith))

pub returns : goal.returns
returns c =
    let p = c.in_ok-at.ensures in
    rw c.verdict.ensures
    (verdict_found c.args.who c.args.bytes.now c.args.rule _ _ (find_at c.args.who c.args.bytes.now c.args.rule c.args.count c.args.book.now p.1 (omega (arith, p.0, p.1))))
