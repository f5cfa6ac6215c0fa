-- One more board read, however its masks came about: its two words stored, and whether it has a code 3. Rests on Reading and the game's masks.
use Rattle.std.specs.Prelude.{◌≡◌, refl, Bool, true, List, [], ◌∷◌, ◌++◌, ℕ, zero, suc, ◌+◌, ◌*◌, ◌<◌, get_or, length, set, take, drop}
use Rattle.std.proofs.Math.Path.{ap}
use Rattle.std.proofs.Common.{ap₂, sym, ◌∙◌, zero-add, not-suc-le-zero, ne_eqb, lt-ltb, ltb-true, length-set, take_all, get_or-set_same, get_or-set_other}
use Rattle.std.proofs.Math.Bool.{◌&&◌, and_assoc}
use Rattle.std.proofs.Math.Decide.{dec_lt, ℕ_discrete}
use native.Mathlib.Omega.{arith}
use Rattle.std.specs.Int.Bits.{bit_or, or_zero_l, or_add_and}
use Rattle.std.proofs.lemmas.Nat.{and_le_r}
use Rattle.std.proofs.Math.Dec.{eqb, ltb, eqb-suc-zero}
use Rattle.std.proofs.Math.Seq.{take-add}
use Rattle.rules.specs.Rules.{Player, mark, all, board}
use Rattle.rules.specs.Rules.Player.{X, O}
use Rattle.rules.specs.Record.{side_bit}
use Rattle.rules.proofs.Tests.{both_true}
use Rattle.game.specs.Masks.{bit, mask}
use Rattle.cells.specs.declared.Codes.{Codes}
use Rattle.cells.specs.Reading.{Masks, BoardsRead}

twice_zero : (m : ℕ) → eqb m 0 ≡ eqb (0 + m * 2) 0
twice_zero zero = refl
twice_zero (suc m) = ne_eqb (suc m) 0 (λ e. omega arith) ∙ sym (ne_eqb (0 + suc m * 2) 0 (λ e. omega arith))

-- Codes below 4 are all below 3 if none is 3.
pub no_threes : (cs : List ℕ) → all (λ c. ltb c 4) cs ≡ true → all (λ c. ltb c 3) cs ≡ eqb (mask 3 cs) 0
no_threes [] h = refl
no_threes (c ∷ cs) h = let s = both_true (ltb c 4) _ h in rw (no_threes cs s.1) (go (dec_lt c 3))
  where
    go : Dec (c < 3) → (ltb c 3 && eqb (mask 3 cs) 0) ≡ eqb (bit (eqb c 3) + mask 3 cs * 2) 0
    go (yes l) = rw (lt-ltb c 3 l, ne_eqb c 3 (λ e. omega arith)) (twice_zero (mask 3 cs))
    go (no g) = let e : c ≡ 3 = omega (arith, ltb-true c 4 (both_true (ltb c 4) _ h).0) in rw e (sym (ne_eqb (1 + mask 3 cs * 2) 0 (λ q. omega arith)))

all_append : (f : ℕ → Bool) (l r : List ℕ) → all f (l ++ r) ≡ (all f l && all f r)
all_append f [] r = refl
all_append f (x ∷ l) r = rw (all_append f l r) (sym (and_assoc (f x) (all f l) (all f r)))

or_none : (a b : ℕ) → (eqb a 0 && eqb b 0) ≡ eqb (bit_or a b) 0
or_none zero b = ap (λ n. eqb n 0) (sym (or_zero_l b))
or_none (suc a) b = rw (eqb-suc-zero a) (sym (ne_eqb (bit_or (suc a) b) 0 (λ e. omega (arith, or_add_and (suc a) b, and_le_r (suc a) b))))

pub no_boards : (cs ws : List ℕ) → length ws ≡ 23 → BoardsRead cs 0 ws 0
no_boards cs ws e = record { room = e; masks = λ s b h. absurd (not-suc-le-zero h); coded = refl }

module _ (cs ws : List ℕ) (b rest : ℕ) (m : Codes) (h : b < 9) (g : BoardsRead cs b ws rest) (masks : Masks (board cs b) m) where
  abbrev stored : List ℕ
  stored = set (set ws b m.x) (9 + b) m.o

  -- the word at a place that was stored to, and at any other
  at_x : get_or stored b 0 ≡ m.x
  at_x =
      get_or-set_other (set ws b m.x) (9 + b) b m.o 0 (λ e. omega arith)
      ∙ get_or-set_same ws b m.x 0 (omega (arith, g.room))

  at_o : get_or stored (9 + b) 0 ≡ m.o
  at_o = get_or-set_same (set ws b m.x) (9 + b) m.o 0 (rw length-set (omega (arith, g.room)))

  at_rest : (i : ℕ) → (i ≡ b → ⊥) → (i ≡ 9 + b → ⊥) → get_or stored i 0 ≡ get_or ws i 0
  at_rest i n n' = get_or-set_other (set ws b m.x) (9 + b) i m.o 0 n' ∙ get_or-set_other ws b i m.x 0 n

  masked : (s : Player) (k : ℕ) → k < b + 1 → Dec (k ≡ b) → get_or stored (side_bit s * 9 + k) 0 ≡ mask (mark s) (board cs k)
  masked X k l (yes e) = rw (e, zero-add b) (at_x ∙ masks.x)
  masked O k l (yes e) = rw e (at_o ∙ masks.o)
  masked X k l (no n) = at_rest (0 + k) (λ e. n (omega arith)) (λ e. omega arith) ∙ g.masks X k (omega arith)
  masked O k l (no n) = at_rest (9 + k) (λ e. omega arith) (λ e. n (omega arith)) ∙ g.masks O k (omega arith)

  coded : all (λ c. ltb c 3) (take ((b + 1) * 9) cs) ≡ eqb (bit_or rest m.rest) 0
  unfolding board
  coded =
      let e : (b + 1) * 9 ≡ b * 9 + 9 = omega arith in
      rw (e, take-add (b * 9) 9 cs, all_append (λ c. ltb c 3) (take (b * 9) cs) (take 9 (drop (b * 9) cs)))
      (ap₂ ◌&&◌ g.coded (no_threes (board cs b) masks.small ∙ ap (λ n. eqb n 0) (sym masks.rest)) ∙ or_none rest m.rest)

  pub board_read : BoardsRead cs (b + 1) stored (bit_or rest m.rest)
  board_read = record { room = simp length-set g.room; masks = λ p k l. masked p k l (ℕ_discrete k b); coded = coded }

-- All nine boards: no code is 3 exactly if rest is 0.
pub cells_coded : (cs ws : List ℕ) (rest : ℕ) → length cs ≡ 81 → BoardsRead cs 9 ws rest → all (λ c. ltb c 3) cs ≡ eqb rest 0
cells_coded cs ws rest n g = ap (all (λ c. ltb c 3)) (sym (take_all 81 cs (omega arith))) ∙ g.coded
