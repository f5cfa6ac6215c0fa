-- How many cells a side has, from its nine masks. Rests on Reading and Marks.
use Rattle.std.specs.Prelude.{◌≡◌, Bool, true, false, cond, List, [], ◌∷◌, eqb, length, take, drop, sum_by}
use Rattle.std.proofs.Math.Path.{refl}
use Rattle.std.proofs.Common.{ap, ap₂, ◌∙◌, add-one, take_all, length-drop}
use Rattle.std.proofs.lemmas.List.{get_or-drop}
use Prim.Native.Nat.{ℕ, zero, suc, ◌+◌, ◌*◌, ◌<◌, ◌≤◌}
use native.Mathlib.Omega.{arith}
use Rattle.std.specs.Int.Count.{ones}
use Rattle.std.proofs.lemmas.List.Sums.{sum_by_more}
use Rattle.std.proofs.Math.Seq.{take-add}
use Rattle.rules.specs.Rules.{Player, mark, count, board}
use Rattle.rules.specs.Rules.Player.{X, O}
use Rattle.rules.specs.Record.{side_bit}
use Rattle.game.specs.Masks.{ones_mask}
use Rattle.record.specs.Reading.{Coded}
use Rattle.record.proofs.Marks.{count_append}

pub count_le : (k : ℕ) (cs : List ℕ) → count k cs ≤ length cs
count_le k [] = omega arith
count_le k (c ∷ cs) = go (eqb c k) (count k cs) (count_le k cs)
  where
    go : (t : Bool) (n : ℕ) → n ≤ length cs → cond t (suc n) n ≤ suc (length cs)
    go true n h = omega arith
    go false n h = omega arith

module _ (ws : List ℕ) (g : Coded ws) (s : Player) where
  -- where the side's masks begin
  abbrev start : ℕ
  start = side_bit s * 9

  room : start + 9 ≤ length ws
  room = go s
    where
      go : (t : Player) → side_bit t * 9 + 9 ≤ length ws
      go X = omega (arith, g.read.room)
      go O = omega (arith, g.read.room)

  first_boards : (n : ℕ) → n ≤ 9 → sum_by ones (take n (drop start ws)) ≡ count (mark s) (take (n * 9) g.cells)
  unfolding board
  first_boards zero h = refl
  first_boards (suc n) h =
      let k = mark s in
      let e : suc n * 9 ≡ n * 9 + 9 = omega arith in
      let within : n < length (drop start ws) = simp length-drop (omega (arith, room)) in
      rw (e, take-add (n * 9) 9 g.cells, count_append k (take (n * 9) g.cells) (take 9 (drop (n * 9) g.cells)), ← add-one, sum_by_more ones (drop start ws) n 0 within)
      (ap₂ ◌+◌ (first_boards n (omega arith)) (ap ones (get_or-drop start ws n 0 ∙ g.read.masks s n (omega arith)) ∙ ones_mask k (board g.cells n)))

  -- The bits of the nine masks are the side's cells.
  pub counted : sum_by ones (take 9 (drop start ws)) ≡ count (mark s) g.cells
  counted = first_boards 9 (omega arith) ∙ ap (count (mark s)) (take_all 81 g.cells (omega (arith, g.whole)))
