-- `record::impossible_choice` meets its contract: the choice is free and no board is done, and then the cells are counted. Assumes nothing.
use Rattle.std.specs.Prelude.{◌≡◌, refl, ◌&&◌, eqb, get_or}
use Rattle.std.proofs.Common.{◌∙◌, arith, ne_eqb}
use Rattle.rules.specs.Rules.{Position, board_states, count}
use Rattle.rules.specs.Rules.Player.{X, O}
use Rattle.game.specs.Masks.{mask_of, nonzero}
use Rattle.game.specs.Words.{Holds}
use Rattle.record.proofs.Counted.{counted}
use Rattle.record.proofs.Choosing.{held_cells, cells_few, choice_law}
use Rattle.record.proofs.impossible_choice.Goals.{After-count_cells-then-done_bits-eq0, Else-done_bits-eq0, then-words-eq-FREE_CHOICE, else-words-eq-FREE_CHOICE}
use Rattle.record.proofs.impossible_choice.Goals as goal

abbrev xs : (c : After-count_cells-then-done_bits-eq0) (p : Position) → Holds p c.args.words.now 0 → c.count_cells.result ≡ count 1 p.cells
unfolding held_cells
xs c p h = c.count_cells.ensures ∙ counted _ (held_cells p _ h c.told-words) X

abbrev os : (c : After-count_cells-then-done_bits-eq0) (p : Position) → Holds p c.args.words.now 0 → c.count_cells-then-done_bits-eq0.result ≡ count 2 p.cells
unfolding held_cells
os c p h = c.count_cells-then-done_bits-eq0.ensures ∙ counted _ (held_cells p _ h c.told-words) O

pub overflow_add-result : goal.overflow_add-result
overflow_add-result c =
    let at = (goal.at.overflow_add-result c).After-count_cells-then-done_bits-eq0 in
    omega (arith, xs at _ c.requires.1, os at _ c.requires.1, cells_few _ _ c.requires.1 1, cells_few _ _ c.requires.1 2)

pub returns-then-done_bits-eq0 : goal.returns-then-done_bits-eq0
returns-then-done_bits-eq0 c p h =
    let free : c.if-words-eq-FREE_CHOICE.value ≡ (eqb (get_or c.args.words.now 21 0) 15 && eqb (mask_of nonzero (board_states p.cells)) 0) =
    elim c.if-words-eq-FREE_CHOICE.branch [
      | then-words-eq-FREE_CHOICE w ↦ rw w.if-words-eq-FREE_CHOICE.true (w.value-is ∙ rw (w.done_bits.ensures p h))
      | else-words-eq-FREE_CHOICE w ↦ rw (ne_eqb _ _ w.if-words-eq-FREE_CHOICE.false) (w.value-is ∙ ne_eqb _ _ w.if-words-eq-FREE_CHOICE.false)
    ] in
    rw c.if-done_bits-eq0.true at (choice_law p _ h _ _ _ free (xs c p h) (os c p h))

pub returns-else-done_bits-eq0 : goal.returns-else-done_bits-eq0
returns-else-done_bits-eq0 c p h =
    let free : c.if-words-eq-FREE_CHOICE.value ≡ (eqb (get_or c.args.words.now 21 0) 15 && eqb (mask_of nonzero (board_states p.cells)) 0) =
    elim c.if-words-eq-FREE_CHOICE.branch [
      | then-words-eq-FREE_CHOICE w ↦ rw w.if-words-eq-FREE_CHOICE.true (w.value-is ∙ rw (w.done_bits.ensures p h))
      | else-words-eq-FREE_CHOICE w ↦ rw (ne_eqb _ _ w.if-words-eq-FREE_CHOICE.false) (w.value-is ∙ ne_eqb _ _ w.if-words-eq-FREE_CHOICE.false)
    ] in
    c.if-done_bits-eq0.false ∙ rw c.if-done_bits-eq0.false at (choice_law p _ h _ _ _ free refl refl)
