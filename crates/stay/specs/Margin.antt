-- The setting of staying on a line as the code holds it, its range, and the machine's setting that it stands for (MANUAL, Staying on a line). Rests on the machine.
use Rattle.std.specs.Prelude.{◌≡◌, Bool, true, false, not, ◌&&◌, ◌||◌, ℕ, ◌*◌, ◌/◌, eqb, leb, Float}
use Rattle.std.specs.Float.{nan, inf, fin}
use Rattle.std.specs.Float.Ieee.{up, down}
use Rattle.machine.specs.Machine as machine
use Rattle.stay.specs.declared.Stay.{Stay}
use Rattle.stay.specs.declared.Stay.TheVariants.{Off, Margin}

-- The 256ths in a float without its sign, rounded down. A finite float is m * up e / down e, and s says whether it is negative
abbrev pub steps_in : Float → ℕ
steps_in nan = 0
steps_in (inf s) = 0
steps_in (fin s m e) = m * up e * 256 / down e

-- A margin: so many 256ths and no more, 256 at most, and not negative; negative zero counts as 0
abbrev pub is_margin : Float → Bool
is_margin nan = false
is_margin (inf s) = false
is_margin (fin s m e) = eqb (m * up e * 256) (steps_in (fin s m e) * down e) && (leb (steps_in (fin s m e)) 256 && (not s || eqb (m * up e) 0))

-- The float is k / 256, and negative only if it is zero. A margin is just such a float, for one k from 0 to 256 (Steps.antt)
abbrev pub IsAt : Float → ℕ → Type 0
IsAt nan k = ⊥
IsAt (inf s) k = ⊥
IsAt (fin s m e) k = (m * up e * 256 ≡ k * down e) × (s ≡ true → m * up e ≡ 0)

-- Check 21 lets it pass
abbrev pub stay_in_range : Stay → Bool
stay_in_range Off = true
stay_in_range (Margin x) = is_margin x

abbrev pub StayInRange : Stay → Type 0
StayInRange y = stay_in_range y ≡ true

-- What a caller in C gives: whether to stay, and a margin, which counts only then
abbrev pub given : Bool → Float → Stay
given false x = Off
given true x = Margin x

-- The machine's setting: with 0.0 and with -0.0 the same
abbrev pub stay_of : Stay → machine.Stay
stay_of Off = machine.off
stay_of (Margin x) = machine.margin (steps_in x)
