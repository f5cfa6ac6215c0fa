-- `cells::board_bits` meets its contract: the four cases of a board's place in the words. Assumes nothing.
use Rattle.std.proofs.Common.{◌<◌, ◌^◌, arith}
use Rattle.cells.proofs.BoardBits.{join_fits, in_first, in_both, in_second, in_third}
use Rattle.cells.proofs.board_bits.Goals as goal

pub returns-then-b-lt3 : goal.returns-then-b-lt3
returns-then-b-lt3 c = (λ i l. in_first _ _ i l c.if-b-lt3.true, omega arith)

pub returns-then-b-eq3 : goal.returns-then-b-eq3
returns-then-b-eq3 c =
    let w = c.args.w in
    let fits : w.second < 2 ^ 64 = omega arith in
    (λ i l. rw c.if-b-eq3.true (in_both w fits i l), join_fits w.first w.second fits)

pub returns-then-b-lt6 : goal.returns-then-b-lt6
returns-then-b-lt6 c = (λ i l. in_second _ _ i l (omega (arith, c.if-b-lt3.false, c.if-b-eq3.false)) c.if-b-lt6.true, omega arith)

pub returns : goal.returns
returns c = (λ i l. in_third _ _ i l c.if-b-lt6.false c.requires, omega arith)
