-- Small searches with the answers that the Rust gave, steps 1 and 3 added to it: the plain machine gives the same in all nine fields. They were chosen to tell wrong machines apart.
-- And the values and N of their positions. Rests on Cases; everything is computed.
use Rattle.std.specs.Prelude.{◌≡◌, refl, true, false, List, [], ◌∷◌, map, ℕ}
use Rattle.rules.specs.Rules.{answers}
use Rattle.rules.specs.Refusals.{first_refusal}
use Rattle.rules.specs.Record.{position_refusal, refusal_to6, impossible_choice, refusal}
use Rattle.machine.specs.Game.{backward, value_from, value, sequences}
use Rattle.machine.specs.Machine.{True, False, Unknown}
use Rattle.plain.specs.Plain.{value_of, sequences_of, record_value, record_sequences, plain_search}
use Rattle.plain.proofs.Cases.{record21, settings, judge_with, judge, fields, computed_search, E, W, D}

-- Finished: drawn with O to move, and won by X with O to move.
abbrev drawn_o : List ℕ
drawn_o = record21 0xFAB400A80054001500054000A8002A000A80054000

abbrev pub won_x : List ℕ
won_x = record21 0xFAA000A8002A001500054001400000000000000000

-- Every move draws the game: X has two, O has three. In last_two X has one move, O one reply, and the game is drawn.
abbrev pub last_x : List ℕ
last_x = record21 0x7C1495332CAC054B4AD4A20882D08450CB4C82D4AC

abbrev pub last_o : List ℕ
last_o = record21 0xFA20D3128520354022ACCB5220554AB52A910CD2B4

abbrev pub last_two : List ℕ
last_two = record21 0x1B2D4A20CB2A8A034CCC043492152D2352B4C84514

-- Longer endings, X to move and O to move.
abbrev pub ending_x : List ℕ
ending_x = record21 0x7822D2CD2B352CCB12D4CB52C9534A84CCB334AD52

abbrev pub ending_o : List ℕ
ending_o = record21 0xC5132000152A001288C2D0B315404CD3228A92D0C8

abbrev positions : List (List ℕ)
positions = drawn_o ∷ won_x ∷ last_x ∷ last_o ∷ last_two ∷ ending_x ∷ ending_o ∷ []

-- All are accepted, and so are the records of Cases.
accepted : map refusal (E ∷ W ∷ D ∷ positions) ≡ 0 ∷ 0 ∷ 0 ∷ 0 ∷ 0 ∷ 0 ∷ 0 ∷ 0 ∷ 0 ∷ 0 ∷ []
unfolding computed_search position_refusal refusal_to6 impossible_choice refusal first_refusal
accepted = refl

-- Their values under rules 0, 1 and 2, and their N.
values : map (λ p. answers (λ rule. record_value rule p) 0 3) positions ≡ (
    (false ∷ false ∷ true ∷ []) ∷ (false ∷ false ∷ false ∷ []) ∷ (true ∷ false ∷ true ∷ []) ∷ (true ∷ false ∷ true ∷ []) ∷
    (false ∷ false ∷ true ∷ []) ∷ (true ∷ false ∷ true ∷ []) ∷ (true ∷ false ∷ true ∷ []) ∷ [])
unfolding computed_search backward value_from value value_of
values = refl

sequence_counts : map record_sequences positions ≡ 1 ∷ 1 ∷ 3 ∷ 4 ∷ 3 ∷ 25 ∷ 24 ∷ []
unfolding computed_search backward sequences sequences_of
sequence_counts = refl

-- A finished root is solved on sight, and nothing is counted. Under rule 0 the draw is lost by O, its side to move and the root's.
finished :
    (plain_search 0 judge drawn_o ≡ fields False 2147483648 0 1 0 0 0 0 0)
    × (plain_search 1 judge drawn_o ≡ fields False 2147483648 0 1 0 0 0 0 0)
    × (plain_search 2 judge drawn_o ≡ fields True 0 2147483648 1 0 0 0 0 0)
    × (plain_search 2 judge won_x ≡ fields False 2147483648 0 1 0 0 0 0 0)
unfolding computed_search
finished = (refl, refl, refl, refl)

-- One move from a draw: under rule 0 it is the other side's to move, so True for the root's side, whichever that is. Where the first child
-- solves its parent it is the only one made.
one_move :
    (plain_search 0 judge last_x ≡ fields True 0 2147483648 2 1 1 0 1 0)
    × (plain_search 1 judge last_x ≡ fields False 2147483648 0 3 2 0 1 1 0)
    × (plain_search 2 judge last_x ≡ fields True 0 2147483648 2 1 1 0 1 0)
    × (plain_search 0 judge last_o ≡ fields True 0 2147483648 2 1 1 0 1 0)
    × (plain_search 1 judge last_o ≡ fields False 2147483648 0 4 3 0 1 1 0)
    × (plain_search 2 judge last_o ≡ fields True 0 2147483648 2 1 1 0 1 0)
unfolding computed_search
one_move = (refl, refl, refl, refl, refl, refl)

-- Two moves from a draw it is the root's side again: rule 0 says False.
two_moves :
    (plain_search 0 judge last_two ≡ fields False 2147483648 0 3 2 0 2 2 0)
    × (plain_search 1 judge last_two ≡ fields False 2147483648 0 3 2 0 2 2 0)
    × (plain_search 2 judge last_two ≡ fields True 0 2147483648 3 2 2 0 2 0)
unfolding computed_search
two_moves = (refl, refl, refl)

-- Order of children, first listed child, early end, what is freed and counted; a disproof above INFINITY.
solved_x : (plain_search 0 judge ending_x ≡ fields True 0 2147483650 12 11 3 3 7 0) × (plain_search 2 judge ending_x ≡ fields True 0 2147483651 8 7 4 0 4 0)
unfolding computed_search
solved_x = (refl, refl)

-- Stopped by the budget with a part freed; RoomCases has the stops by the pool.
spent_x : plain_search 0 (judge_with 3276 4) ending_x ≡ fields Unknown 1 3 8 3 0 3 4 1
unfolding computed_search
spent_x = refl

-- Limit 4: 5 live after expansion 1 is not looked at, 6 after expansion 2 is. Limit 6: live is 6, 5 and 8 at expansions 2, 4 and 6. Limit 0: solved on the 7th,
-- an interval-th, so cause 0.
limits_x :
    (plain_search 0 (settings 3276 4 100000 2) ending_x ≡ fields Unknown 1 4 6 0 0 0 2 3)
    × (plain_search 0 (settings 3276 6 100000 2) ending_x ≡ fields Unknown 1 3 11 3 0 3 6 3)
    × (plain_search 0 (settings 3276 0 100000 7) ending_x ≡ fields True 0 2147483650 12 11 3 3 7 0)
unfolding computed_search
limits_x = (refl, refl, refl)

-- The same of a root where O is to move.
solved_o :
    (plain_search 0 judge ending_o ≡ fields True 0 2147483648 8 7 3 3 6 0)
    × (plain_search 1 judge ending_o ≡ fields False 2147483648 0 12 11 0 8 8 0)
    × (plain_search 2 judge ending_o ≡ fields True 0 2147483649 10 9 3 0 6 0)
unfolding computed_search
solved_o = (refl, refl, refl)

stopped_o :
    (plain_search 1 (judge_with 3276 7) ending_o ≡ fields Unknown 1 1 11 4 0 4 7 1)
    × (plain_search 1 (settings 3276 4 100000 3) ending_o ≡ fields Unknown 1 2 5 0 0 0 3 3)
unfolding computed_search
stopped_o = (refl, refl)

-- Solved on the first expansion with limit 0 and interval 1: cause 0. Budget and pool both too small: step 1 comes first.
order_of_stops : (plain_search 0 (settings 6 0 1 1) W ≡ fields True 0 2147483648 2 1 1 0 1 0) × (plain_search 0 (judge_with 1 0) W ≡ fields Unknown 1 1 1 0 0 0 0 1)
unfolding computed_search
order_of_stops = (refl, refl)
