-- Computed cases of staying on a line: the child that step 2 takes, and whole searches of heaps with each kind of setting. Rests on Cases.
use Rattle.std.specs.Prelude.{◌≡◌, refl, true, false, ℕ}
use Rattle.machine.specs.Tree.{INFINITY, Node, Children, none, child, solved}
use Rattle.machine.specs.Machine.{Stay, off, margin, first_that, holds_at, within_margin, choice, True, fields}
use Rattle.machine.specs.Compute.{settings, with_margin}
use Rattle.machine.proofs.Cases.{nim}

-- An expanded node with this phi that remembers a move, and a child with a move and its numbers
abbrev at : ℕ → ℕ → Node (Unit {0})
at phi remembered = record { pos = tt; phi = phi; delta = 1; move = 255; expanded = true; remembered = remembered }

abbrev by : ℕ → ℕ → ℕ → Children (Unit {0}) → Children (Unit {0})
by move phi delta ks = child (record { pos = tt; phi = phi; delta = delta; move = move; expanded = false; remembered = 255 }) none ks

unfoldable taken : Stay → Node (Unit {0}) → Children (Unit {0}) → ℕ
unfolding solved first_that holds_at within_margin choice
taken y n ks = choice y n ks

-- Of two level children off takes the first listed; margin 0 takes again the one that the remembered move names. Where none is remembered it is as with off
level_off : taken off (at 3 7) (by 8 1 3 (by 7 1 3 none)) ≡ 0
unfolding taken
level_off = refl

level_0 : taken (margin 0) (at 3 7) (by 8 1 3 (by 7 1 3 none)) ≡ 1
unfolding taken
level_0 = refl

none_yet : taken (margin 256) (at 3 255) (by 8 1 3 (by 7 1 3 none)) ≡ 0
unfolding taken
none_yet = refl

-- Its delta is the product, 4 times 1 and 1/2; and one more
at_product : taken (margin 128) (at 4 7) (by 7 1 6 (by 8 1 4 none)) ≡ 0
unfolding taken
at_product = refl

past_product : taken (margin 128) (at 4 7) (by 7 1 7 (by 8 1 4 none)) ≡ 1
unfolding taken
past_product = refl

-- The product is no whole number: 3 times 1 and 1/2
below_product : taken (margin 128) (at 3 7) (by 7 1 4 (by 8 1 3 none)) ≡ 0
unfolding taken
below_product = refl

above_product : taken (margin 128) (at 3 7) (by 7 1 5 (by 8 1 3 none)) ≡ 1
unfolding taken
above_product = refl

-- The largest phi of a pool, with the least and the largest margin
largest_0 : taken (margin 0) (at 16777215 7) (by 7 1 16777216 (by 8 1 16777215 none)) ≡ 1
unfolding taken
largest_0 = refl

largest_1 : taken (margin 256) (at 16777215 7) (by 7 1 33554430 (by 8 1 16777215 none)) ≡ 0
unfolding taken
largest_1 = refl

past_largest_1 : taken (margin 256) (at 16777215 7) (by 7 1 33554431 (by 8 1 16777215 none)) ≡ 1
unfolding taken
past_largest_1 = refl

-- The child taken last is solved: its phi is 0, or its delta. (In a search the delta beside a phi of 0 is INFINITY at least, which no margin reaches.)
now_proved : taken (margin 256) (at 3 7) (by 7 0 4 (by 8 1 3 none)) ≡ 1
unfolding taken
now_proved = refl

now_disproved : taken (margin 256) (at 3 7) (by 7 INFINITY 0 (by 8 1 3 none)) ≡ 1
unfolding taken
now_disproved = refl

-- Whole searches: the way down differs with the setting, the verdict does not
nim_off : nim true 7 (settings 1000 1000 1000 10) ≡ fields True 0 2147483648 32 31 10 5 17 0
unfolding nim
nim_off = refl

nim_0 : nim true 7 (with_margin 0 (settings 1000 1000 1000 10)) ≡ fields True 0 2147483648 46 45 15 10 25 0
unfolding nim
nim_0 = refl

nim_half : nim true 7 (with_margin 128 (settings 1000 1000 1000 10)) ≡ fields True 0 2147483649 32 31 11 5 17 0
unfolding nim
nim_half = refl

nim_1 : nim true 7 (with_margin 256 (settings 1000 1000 1000 10)) ≡ fields True 0 2147483648 28 27 10 5 15 0
unfolding nim
nim_1 = refl
