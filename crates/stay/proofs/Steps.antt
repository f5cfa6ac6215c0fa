-- A margin is a float that is k / 256 for one k from 0 to 256. Rests on Margin.
use Rattle.std.specs.Prelude.{◌≡◌, refl, Bool, true, false, not, ◌&&◌, ◌||◌, ℕ, ◌*◌, ◌/◌, ◌≤◌, eqb, Float}
use Rattle.std.proofs.Common.{ap, sym, ◌∙◌, true≢false, mul-div_cancel, arith, eqb-true, eq-eqb, leb-true, le-leb}
use Rattle.std.specs.Float.{nan, inf, fin}
use Rattle.std.specs.Float.Ieee.{up, down}
use Rattle.std.specs.Float.Ieee.Fits.{down_pos}
use Rattle.stay.specs.Margin.{steps_in, is_margin, IsAt}

-- Two tests that both pass
pub both : (a b : Bool) → (a && b) ≡ true → (a ≡ true) × (b ≡ true)
both true b e = (refl, e)
both false b e = absurd (true≢false (sym e))

pub margin_at : (x : Float) → is_margin x ≡ true → (steps_in x ≤ 256) × IsAt x (steps_in x)
margin_at nan h = absurd (true≢false (sym h))
margin_at (inf s) h = absurd (true≢false (sym h))
margin_at (fin s m e) h =
    let a = both _ _ h in
    let b = both _ _ a.1 in
    (leb-true _ _ b.0, (eqb-true _ _ a.0, λ q. sign s q b.1))
  where
    sign : (t : Bool) → t ≡ true → (not t || eqb (m * up e) 0) ≡ true → m * up e ≡ 0
    sign true q w = eqb-true _ _ w
    sign false q w = absurd (true≢false (sym q))

-- Whatever is k / 256 for a k of at most 256 is a margin of k steps
pub at_margin : (x : Float) (k : ℕ) → k ≤ 256 → IsAt x k → (is_margin x ≡ true) × (steps_in x ≡ k)
at_margin nan k l h = absurd h
at_margin (inf s) k l h = absurd h
at_margin (fin s m e) k l h =
    let q : m * up e * 256 / down e ≡ k = ap (λ (x : ℕ). x / down e) h.0 ∙ mul-div_cancel k (down_pos e) in
    (rw (eq-eqb (m * up e * 256) (m * up e * 256 / down e * down e) (h.0 ∙ ap (λ (x : ℕ). x * down e) (sym q)), le-leb (m * up e * 256 / down e) 256 (omega arith)) (sign s h.1), q)
  where
    sign : (t : Bool) → (t ≡ true → m * up e ≡ 0) → (not t || eqb (m * up e) 0) ≡ true
    sign true w = eq-eqb _ _ (w refl)
    sign false w = refl
