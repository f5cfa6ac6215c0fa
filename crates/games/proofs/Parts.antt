-- Laws of specs/Parts.antt. Equal parts of a list of words, one of them changed. Rests on the laws of a part of a slice.
use Rattle.std.specs.Prelude.{◌≡◌, refl, List, [], ◌∷◌, ◌++◌, ℕ, zero, suc, ◌+◌, ◌*◌, ◌-◌, ◌≤◌, ◌<◌, length, take, drop}
use Rattle.std.proofs.Common.{ap, sym, ◌∙◌, subst, mul-le-mul_right, suc-mul, arith, length-take-le, drop-drop, take-take, take_at, drop_at}
use borrow.Rule.Slice.PartMut.{put_mid, take_put, drop_put}
use Rattle.games.specs.Parts.{cut}

-- equal parts lie one after the other
pub next_part : (k i size : ℕ) → k < i → k * size + size ≤ i * size
next_part k i size l = omega (arith, mul-le-mul_right {m = suc k} {n = i} size l, suc-mul k size)

-- what lies before a place
take_cut : (n s m : ℕ) (w : List ℕ) → s + m ≤ n → take m (drop s (take n w)) ≡ take m (drop s w)
take_cut n zero m w l = take-take m n w (omega arith)
take_cut zero (suc s) m w l = absurd (omega arith)
take_cut (suc n) (suc s) m [] l = refl
take_cut (suc n) (suc s) m (x ∷ w) l = take_cut n s m w (omega arith)

module _ (a e : ℕ) (w v : List ℕ) (le : a ≤ e) (fits : e ≤ length w) (long : length v ≡ e - a) where
  pub cut_put : cut a e (put_mid a (e - a) w v) ≡ v
  cut_put = ap (take (e - a)) (drop_at (take a w) (v ++ drop (e - a) (drop a w)) a (length-take-le a w (omega arith))) ∙ take_at v (drop (e - a) (drop a w)) (e - a) long

  pub cut_before : (s b : ℕ) → s ≤ b → b ≤ a → cut s b (put_mid a (e - a) w v) ≡ cut s b w
  cut_before s b sb ba =
      sym (take_cut a s (b - s) (put_mid a (e - a) w v) (omega arith))
      ∙ ap (λ l. take (b - s) (drop s l)) (take_put a (e - a) w v (omega arith))
      ∙ take_cut a s (b - s) w (omega arith)

  pub drop_after : (s : ℕ) → e ≤ s → drop s (put_mid a (e - a) w v) ≡ drop s w
  drop_after s l =
      let q : e + (s - e) ≡ s = omega arith in
      subst (λ k. drop k (put_mid a (e - a) w v) ≡ drop k w) q
      (sym (drop-drop (s - e) e (put_mid a (e - a) w v)) ∙ ap (drop (s - e)) (drop_put a e w v le fits long) ∙ drop-drop (s - e) e w)

  pub cut_after : (s b : ℕ) → e ≤ s → cut s b (put_mid a (e - a) w v) ≡ cut s b w
  cut_after s b l = ap (take (b - s)) (drop_after s l)
