-- Laws of codes kept as masks, one more at a time. Rests on Reading and the game's masks.
use Rattle.std.specs.Prelude.{◌≡◌, refl, Bool, ◌&&◌, List, [], ◌∷◌, ◌++◌, ℕ, ◌+◌, ◌*◌, ◌^◌, ◌<◌, ◌≤◌, eqb, ltb, length}
use Rattle.std.proofs.Common.{sym, ◌∙◌, arith, lt-ltb, pow_mono}
use Rattle.std.proofs.Math.Bool.{and-true, and_assoc}
use Rattle.std.proofs.Math.Nat.{pow-succ', pow-zero}
use Rattle.rules.specs.Rules.{answers, all}
use Rattle.rules.proofs.Answers.{length_answers, answers_next}
use Rattle.game.specs.Masks.{bit, mask, mask_of, mask_lt}
use Rattle.cells.specs.declared.Codes.{Codes}
use Rattle.cells.specs.Reading.{Masks, Putting}

mask_more : (f : ℕ → Bool) (cs : List ℕ) (v : ℕ) → mask_of f (cs ++ (v ∷ [])) ≡ mask_of f cs + bit (f v) * 2 ^ length cs
mask_more f [] v = rw (pow-zero 2) (omega arith)
mask_more f (c ∷ cs) v = rw (mask_more f cs v, pow-succ' 2 (length cs)) (omega arith)

all_more {ℓ} : {A : Type ℓ} (f : A → Bool) (l : List A) (x : A) → all f (l ++ (x ∷ [])) ≡ (all f l && f x)
all_more f [] x = and-true (f x)
all_more f (y ∷ l) x = rw (all_more f l x) (sym (and_assoc (f y) (all f l) (f x)))

pub no_codes : Masks [] (record { x = 0; o = 0; rest = 0 })
no_codes = record { small = refl; x = refl; o = refl; rest = refl }

-- room for one more bit
pub mask_room : (m : Codes) (c : ℕ) (g : Putting m c) (k : ℕ) → mask k g.codes < 256
mask_room m c g k =
    let h : mask k g.codes < 2 ^ length g.codes = mask_lt (λ v. eqb v k) g.codes in
    let q : length g.codes ≤ 8 = omega (arith, g.place, g.count) in
    let p : 2 ^ length g.codes ≤ 2 ^ 8 = pow_mono q in
    omega arith

-- one more code, which adds its bit b to the mask of its own code
module _ (m : Codes) (c v b : ℕ) (p : b ≡ 2 ^ c) (g : Putting m c) where
  put_law : (r : Codes) → v < 4 → r.x ≡ m.x + bit (eqb v 1) * b → r.o ≡ m.o + bit (eqb v 2) * b → r.rest ≡ m.rest + bit (eqb v 3) * b
      → Masks (g.codes ++ (v ∷ [])) r
  put_law r h ex eo er = record {
    small = all_more (λ a. ltb a 4) g.codes v ∙ rw g.masks.small (lt-ltb v 4 h);
    x = ex ∙ more 1 m.x g.masks.x;
    o = eo ∙ more 2 m.o g.masks.o;
    rest = er ∙ more 3 m.rest g.masks.rest;
  }
    where
      more : (k n : ℕ) → n ≡ mask k g.codes → n + bit (eqb v k) * b ≡ mask k (g.codes ++ (v ∷ []))
      more k n e = rw (e, mask_more (λ a. eqb a k) g.codes v, g.count, p)

  pub put_zero : v ≡ 0 → Masks (g.codes ++ (v ∷ [])) m
  put_zero e = put_law m (omega arith) (rw e (omega arith)) (rw e (omega arith)) (rw e (omega arith))

  pub put_one : v ≡ 1 → Masks (g.codes ++ (v ∷ [])) (record { x = m.x + b; o = m.o; rest = m.rest })
  put_one e = put_law _ (omega arith) (rw e (omega arith)) (rw e (omega arith)) (rw e (omega arith))

  pub put_two : v ≡ 2 → Masks (g.codes ++ (v ∷ [])) (record { x = m.x; o = m.o + b; rest = m.rest })
  put_two e = put_law _ (omega arith) (rw e (omega arith)) (rw e (omega arith)) (rw e (omega arith))

  pub put_three : v ≡ 3 → Masks (g.codes ++ (v ∷ [])) (record { x = m.x; o = m.o; rest = m.rest + b })
  put_three e = put_law _ (omega arith) (rw e (omega arith)) (rw e (omega arith)) (rw e (omega arith))

-- codes that a function gives, one after the other
module _ (f : ℕ → ℕ) (c : ℕ) (m : Codes) (h : c < 9) (now : Masks (answers f 0 c) m) where
  unfoldable pub putting : Putting m c
  putting = record { place = h; codes = answers f 0 c; count = length_answers f 0 c; masks = now }

  pub put_next : (v : ℕ) (r : Codes) → v ≡ f c → ((g : Putting m c) → Masks (g.codes ++ (v ∷ [])) r) → Masks (answers f 0 (c + 1)) r
  unfolding putting
  put_next v r e put = rw (answers_next f c, ← e) (put putting)
