-- Check 22 as the code makes it, on the words of a position. Rests on Reading, the game's words and the rules' record.
use Rattle.std.specs.Prelude.{◌≡◌, refl, Bool, true, cond, not, ◌&&◌, List, [], ◌∷◌, ℕ, zero, suc, ◌+◌, ◌*◌, ◌<◌, ◌≤◌, eqb, ltb, length}
use Rattle.std.proofs.Common.{sym, ◌∙◌, zero-add, arith, ne_eqb, ltb-true, take_all}
use Rattle.std.proofs.Math.Path.{ap}
use Rattle.std.proofs.Math.Bool.{and_comm}
use Rattle.std.proofs.Math.Dec.{eqb-zero-suc, eqb-suc-zero}
use Rattle.std.proofs.Math.ListN.{get_or}
use Rattle.rules.specs.Rules.{Position, all, count, board_states}
use Rattle.rules.specs.Record.{side_bit, impossible_choice}
use Rattle.rules.proofs.Tests.{both_true}
use Rattle.game.specs.Masks.{bit, mask_of, nonzero}
use Rattle.game.specs.Words.{Holds}
use Rattle.record.specs.Reading.{Coded}
use Rattle.record.proofs.Counted.{count_le}

-- no bit is set exactly if every code is 0
no_bit : (cs : List ℕ) → eqb (mask_of nonzero cs) 0 ≡ all (eqb 0) cs
no_bit [] = refl
no_bit (c ∷ cs) = go c (mask_of nonzero cs) (all (eqb 0) cs) (no_bit cs)
  where
    go : (c m : ℕ) (b : Bool) → eqb m 0 ≡ b → eqb (bit (nonzero c) + m * 2) 0 ≡ (eqb 0 c && b)
    go zero zero b e = e
    go zero (suc m) b e = ne_eqb (0 + suc m * 2) 0 (λ q. omega arith) ∙ sym (ne_eqb (suc m) 0 (λ q. omega arith)) ∙ e
    go (suc c) m b e = rw (eqb-suc-zero c, eqb-zero-suc c) (ne_eqb (1 + m * 2) 0 (λ q. omega arith))

-- neither side has a cell exactly if every cell is empty
no_cell : (cs : List ℕ) → all (λ c. ltb c 3) cs ≡ true → eqb (count 1 cs + count 2 cs) 0 ≡ all (eqb 0) cs
no_cell [] h = refl
no_cell (c ∷ cs) h =
    let s = both_true (ltb c 3) _ h in
    go c (count 1 cs) (count 2 cs) (all (eqb 0) cs) (ltb-true c 3 s.0) (no_cell cs s.1)
  where
    go : (c x o : ℕ) (b : Bool) → c < 3 → eqb (x + o) 0 ≡ b → eqb (cond (eqb c 1) (suc x) x + cond (eqb c 2) (suc o) o) 0 ≡ (eqb 0 c && b)
    go zero x o b h e = e
    go (suc zero) x o b h e = ne_eqb (suc x + o) 0 (λ q. omega arith)
    go (suc (suc zero)) x o b h e = ne_eqb (x + suc o) 0 (λ q. omega arith)
    go (suc (suc (suc c))) x o b h e = absurd (omega arith)

module _ (p : Position) (ws : List ℕ) (h : Holds p ws 0) where
  -- the words of a position have its cells, to be counted for each side
  unfoldable pub held_cells : length ws ≡ 23 → Coded ws
  held_cells n = record {
    cells = p.cells;
    whole = h.whole;
    read = record {
      room = n;
      masks = λ x b l. ap (λ k. get_or ws k 0) (sym (zero-add (side_bit x * 9 + b))) ∙ h.masks x b l;
      coded = ap (all (λ c. ltb c 3)) (take_all 81 p.cells (omega (arith, h.whole))) ∙ h.codes;
    };
  }

  pub cells_few : (k : ℕ) → count k p.cells ≤ 81
  cells_few k = omega (arith, count_le k p.cells, h.whole)

  -- Check 22 in the code's terms: v says that the choice is free and no board is done, x and o count the cells.
  pub choice_law : (v : Bool) (x o : ℕ) → v ≡ (eqb (get_or ws 21 0) 15 && eqb (mask_of nonzero (board_states p.cells)) 0) → x ≡ count 1 p.cells → o ≡ count 2 p.cells
      → (v && not (eqb (x + o) 0)) ≡ impossible_choice p
  unfolding impossible_choice
  choice_law v x o e ex eo =
      let free : eqb (get_or ws 21 0) 15 ≡ eqb p.target 15 = ap (λ n. eqb n 15) (ap (λ k. get_or ws k 0) (sym (zero-add 21)) ∙ h.target) in
      rw (e, ex, eo, no_cell p.cells h.codes, no_bit (board_states p.cells), free) (ap (λ b. b && not (all (eqb 0) p.cells)) (and_comm (eqb p.target 15) (all (eqb 0) (board_states p.cells))))
