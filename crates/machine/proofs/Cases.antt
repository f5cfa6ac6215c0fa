-- Computed cases on toy games, which tell the machine's definitions from others. Rests on Compute and Needs.
use Rattle.std.specs.Prelude.{◌≡◌, refl, List, [], ◌∷◌, Bool, true, false, not, ℕ, zero, suc, ◌-◌, get_or}
use Rattle.std.specs.Bool.{beq}
use Rattle.machine.specs.Game.{Game, backward, value_from, value, sequences}
use Rattle.machine.specs.Tree.{Node, bound, leaf, none, child, sum_phi}
use Rattle.machine.specs.Machine.{off, Settings, renumber, True, False, Unknown, Result, fields, search}
use Rattle.machine.specs.Needs.{asking_for_moves}
use Rattle.machine.specs.Compute.{computed, settings}

-- A position of the toys: a number, and whether X is to move
abbrev pub Toy : Type 0
Toy = record { at : ℕ; x : Bool }

-- TABLES: a move is the number of the position that it leads to; a row for each position, and the value of the finished ones for X
abbrev pub table : List (List ℕ) → List Bool → Game
table rows values = record {
  Pos = Toy;
  moves = λ p. get_or rows p.at [];
  play = λ p m. record { at = m; x = not p.x };
  mine = λ p. p.x;
  final = λ p. get_or values p.at false;
  left = λ p. 100 - p.at;
}

-- The early end, of three moves: where the first child has delta 0 one is made, and step 3 asks for one node; where the second has, for two; where the last has, for all
abbrev three : List Bool → Game
three values = table ((1 ∷ 2 ∷ 3 ∷ []) ∷ []) (false ∷ values)

early_end : computed (three (true ∷ true ∷ true ∷ [])) (settings 4 1000 1000 10) (record { at = 0; x = true }) ≡ fields True 0 2147483648 2 1 1 0 1 0
unfolding computed
early_end = refl

first_of_three : computed (three (true ∷ true ∷ true ∷ [])) (settings 2 1000 1000 10) (record { at = 0; x = true }) ≡ fields True 0 2147483648 2 1 1 0 1 0
unfolding computed
first_of_three = refl

first_short : computed (three (true ∷ true ∷ true ∷ [])) (settings 1 1000 1000 10) (record { at = 0; x = true }) ≡ fields Unknown 1 1 1 0 0 0 0 2
unfolding computed
first_short = refl

second_of_three : computed (three (false ∷ true ∷ false ∷ [])) (settings 3 1000 1000 10) (record { at = 0; x = true }) ≡ fields True 0 2147483648 3 2 1 0 1 0
unfolding computed
second_of_three = refl

second_short : computed (three (false ∷ true ∷ false ∷ [])) (settings 2 1000 1000 10) (record { at = 0; x = true }) ≡ fields Unknown 1 1 1 0 0 0 0 2
unfolding computed
second_short = refl

last_of_three : computed (three (false ∷ false ∷ true ∷ [])) (settings 4 1000 1000 10) (record { at = 0; x = true }) ≡ fields True 0 2147483648 4 3 1 0 1 0
unfolding computed
last_of_three = refl

last_short : computed (three (false ∷ false ∷ true ∷ [])) (settings 3 1000 1000 10) (record { at = 0; x = true }) ≡ fields Unknown 1 1 1 0 0 0 0 2
unfolding computed
last_short = refl

-- A step 3 that asks for a node for each legal move: with a pool of three it stops, though one child would be made
asked_for_moves : search (three (true ∷ true ∷ true ∷ [])) (asking_for_moves (three (true ∷ true ∷ true ∷ [])) off) (settings 3 1000 1000 10) (record { at = 0; x = true }) ≡ fields Unknown 1 1 1 0 0 0 0 2
unfolding computed asking_for_moves
asked_for_moves = refl

-- The children's order: of two that look alike the one made last is searched first, and it wins at once
last_first : computed (table ((1 ∷ 2 ∷ []) ∷ (3 ∷ []) ∷ (4 ∷ []) ∷ []) (false ∷ false ∷ false ∷ false ∷ true ∷ [])) (settings 1000 1000 1000 10) (record { at = 0; x = true })
    ≡ fields True 0 2147483649 4 3 2 0 2 0
unfolding computed
last_first = refl

-- HEAPS: one or two stones are taken at a turn. It is made for a root's side (true: X) and says who wins where no stone is left, by whether X is to move
unfoldable pub takes : ℕ → List ℕ
takes zero = []
takes (suc zero) = 1 ∷ []
takes (suc (suc n)) = 1 ∷ 2 ∷ []

abbrev pub heaps : Bool → (Bool → Bool) → Game
heaps side x_wins = record {
  Pos = Toy;
  moves = λ p. takes p.at;
  play = λ p m. record { at = p.at - m; x = not p.x };
  mine = λ p. beq p.x side;
  final = λ p. beq (x_wins p.x) side;
  left = λ p. p.at;
}

-- Who took the last stone wins; and X wins in any case
unfoldable pub nim : Bool → ℕ → Settings → Result
unfolding computed takes
nim side stones S = computed (heaps side (λ x. not x)) S (record { at = stones; x = side })

unfoldable gift : Bool → ℕ → Settings → Result
unfolding computed takes
gift side stones S = computed (heaps side (λ x. true)) S (record { at = stones; x = side })

value_3 : value (heaps true (λ x. not x)) (record { at = 3; x = true }) ≡ false
unfolding takes value backward value_from
value_3 = refl

value_4 : value (heaps true (λ x. not x)) (record { at = 4; x = true }) ≡ true
unfolding takes value backward value_from
value_4 = refl

sequences_4 : sequences (heaps true (λ x. not x)) (record { at = 4; x = true }) ≡ 12
unfolding takes sequences backward
sequences_4 = refl

-- Finished at the start: nothing is counted
on_sight : nim true 0 (settings 1 0 1000 1) ≡ fields False 2147483648 0 1 0 0 0 0 0
unfolding nim
on_sight = refl

-- Solved: the other number may lie above INFINITY
above_infinity : nim true 11 (settings 1000 1000 1000 10) ≡ fields True 0 2147483651 102 101 22 7 53 0
unfolding nim
above_infinity = refl

-- Cause 1: expanded equals the budget
by_budget : nim true 9 (settings 1000 1000 3 10) ≡ fields Unknown 2 2 7 0 0 0 3 1
unfolding nim
by_budget = refl

-- Cause 2: one node is free where two are asked for; with two free it goes on, to the budget
by_pool : nim true 9 (settings 6 1000 3 10) ≡ fields Unknown 1 2 5 0 0 0 2 2
unfolding nim
by_pool = refl

just_enough : nim true 9 (settings 7 1000 3 10) ≡ fields Unknown 2 2 7 0 0 0 3 1
unfolding nim
just_enough = refl

-- Freed nodes are used again: 33 are made in a pool of 23, and one node less is too few
used_again : nim true 8 (settings 23 1000 1000 10) ≡ fields True 0 2147483650 33 32 10 1 17 0
unfolding nim
used_again = refl

one_less : nim true 8 (settings 22 1000 1000 10) ≡ fields Unknown 2 3 24 3 1 1 12 2
unfolding nim
one_less = refl

-- Cause 3: every second expansion is tested. After the second 5 nodes are live, which is the limit; 7 after the third exceed it, but only the fourth stops
by_limit : nim true 9 (settings 1000 5 1000 2) ≡ fields Unknown 2 2 9 0 0 0 4 3
unfolding nim
by_limit = refl

-- Live 1 exceeds limit 0 at the expansion that solves the root: cause 0
solved_at_limit : nim true 1 (settings 1000 0 1000 1) ≡ fields True 0 2147483648 2 1 1 0 1 0
unfolding nim
solved_at_limit = refl

-- O at the root: as for X where the rule is the same for both, and not where it is not
root_x : gift true 3 (settings 1000 1000 1000 10) ≡ fields True 0 2147483649 4 3 2 0 2 0
unfolding gift
root_x = refl

root_o : gift false 3 (settings 1000 1000 1000 10) ≡ fields False 2147483648 0 6 5 0 3 3 0
unfolding gift
root_o = refl

nim_o : nim false 4 (settings 1000 1000 1000 10) ≡ fields True 0 2147483648 10 9 4 1 5 0
unfolding nim
nim_o = refl

-- WIDE: as many moves as the empty board of the real game has, 81, and then 8
upto : ℕ → List ℕ → List ℕ
upto zero l = l
upto (suc n) l = upto n (n ∷ l)

abbrev wide : Game
wide = record {
  Pos = Toy;
  moves = λ p. upto (get_or (81 ∷ 8 ∷ 9 ∷ []) p.at 0) [];
  play = λ p m. record { at = suc p.at; x = not p.x };
  mine = λ p. p.x;
  final = λ p. p.x;
  left = λ p. 81 - p.at;
}

one_of_81 : computed wide (settings 82 1000 1 10) (record { at = 0; x = true }) ≡ fields Unknown 1 81 82 0 0 0 1 1
unfolding computed upto
one_of_81 = refl

none_of_81 : computed wide (settings 81 1000 1 10) (record { at = 0; x = true }) ≡ fields Unknown 1 1 1 0 0 0 0 2
unfolding computed upto
none_of_81 = refl

two_of_81 : computed wide (settings 90 1000 2 10) (record { at = 0; x = true }) ≡ fields Unknown 1 81 90 0 0 0 2 1
unfolding computed upto
two_of_81 = refl

-- STEP 5 by itself: no search has two children lost for their mover side by side (Unheld.antt), but of them too it says that their sum is held
lost_leaf : Node Toy
lost_leaf = leaf (heaps true (λ x. not x)) (record { at = 0; x = true }) 1

held_sum : (renumber (heaps true (λ x. not x)) lost_leaf (child lost_leaf none (child lost_leaf none none))).delta ≡ 4294967295
unfolding lost_leaf renumber sum_phi leaf bound takes
held_sum = refl
