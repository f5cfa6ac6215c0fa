-- Laws of nine codes kept as masks: their lines and their state; and of lists put together. Rests on Reading and the game's masks and lines.
use Rattle.std.proofs.Math.Path.{◌≡◌, refl}
use Rattle.std.proofs.Common.{ap, sym, arith}
use Rattle.std.specs.Prelude.{Bool, not, ◌||◌, List, [], ◌∷◌, ◌++◌, ℕ, suc, ◌+◌, ◌<◌, eqb}
use Rattle.std.proofs.Math.Bool.{true, false, cond, or-false, or_assoc}
use Rattle.rules.specs.Rules.{any, count, has_line, state}
use Rattle.game.specs.Masks.{mask, mask_of, nonzero, mask_sum, full}
use Rattle.game.specs.Words.{nine_bits}
use Rattle.game.specs.Lines.{line_in, line_of}
use Rattle.cells.specs.declared.Codes.{Codes}
use Rattle.record.specs.Reading.{Whole}

pub any_more {ℓ} : {A : Type ℓ} (f : A → Bool) (l : List A) (x : A) → any f (l ++ (x ∷ [])) ≡ (any f l || f x)
any_more f [] x = or-false (f x)
any_more f (y ∷ l) x = rw (any_more f l x) (sym (or_assoc (f y) (any f l) (f x)))

pub count_append : (k : ℕ) (l r : List ℕ) → count k (l ++ r) ≡ count k l + count k r
count_append k [] r = omega arith
count_append k (c ∷ l) r = go (eqb c k) (count k (l ++ r)) (count k l) (count_append k l r)
  where
    go : (t : Bool) (n a : ℕ) → n ≡ a + count k r → cond t (suc n) n ≡ cond t (suc a) a + count k r
    go true n a e = omega arith
    go false n a e = e

-- ---- nine codes

module _ (m : Codes) (g : Whole m) where
  pub whole_lt : (m.x < 512) × (m.o < 512) × (m.rest < 512)
  whole_lt = (below 1 g.masks.x, below 2 g.masks.o, below 3 g.masks.rest)
    where
      below : {n : ℕ} (k : ℕ) → n ≡ mask k g.codes → n < 512
      below k e = rw e (nine_bits k g.codes g.count)

  pub x_line : line_in m.x ≡ has_line 1 g.codes
  x_line = rw g.masks.x (line_of 1 g.codes g.count)

  pub o_line : line_in m.o ≡ has_line 2 g.codes
  o_line = rw g.masks.o (line_of 2 g.codes g.count)

  pub done_mask : m.x + m.o + m.rest ≡ mask_of nonzero g.codes
  done_mask = rw (g.masks.x, g.masks.o, g.masks.rest) (sym (mask_sum g.codes g.masks.small))

  -- the state of nine codes, from their masks
  pub state_law : state g.codes ≡ cond (line_in m.x) 1 (cond (line_in m.o) 2 (cond (eqb (m.x + m.o + m.rest) 511) 3 0))
  unfolding state
  state_law = rw (x_line, o_line, done_mask, full g.codes g.count) (ap (λ n. cond (has_line 1 g.codes) 1 (cond (has_line 2 g.codes) 2 n)) (swap (any (eqb 0) g.codes)))
    where
      swap : (t : Bool) → ◌≡◌ {A = ℕ} (cond t 0 3) (cond (not t) 3 0)
      swap true = refl
      swap false = refl
