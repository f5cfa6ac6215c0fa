-- Computed cases of the game and of the record: they tell wrong rules apart from the right ones. Rests on Rules, Record and Examples.
use Rattle.std.specs.Prelude.{true, false, cond, List, [], ◌∷◌, map, ◌≡◌, refl, ℕ, ◌*◌, ◌/◌, ◌%◌, ◌^◌}
use Rattle.rules.specs.Rules.{Position, answers, has_line, state, board, board_states, game_state, move_error, play, every_move, legal_moves, replay, count, drawn, final_value}
use Rattle.rules.specs.Rules.Player.{X, O}
use Rattle.rules.specs.Rules.Replayed.{BadMove}
use Rattle.rules.specs.Refusals.{first_refusal}
use Rattle.rules.specs.Record.{bit_at, position_of, position_refusal, refusal_to6, impossible_choice, refusal, record_bit, record_of}
use Rattle.rules.specs.Examples.{record21, E, W, D, nine, position}

-- The bytes of E, W and D say these positions, cell by cell (MANUAL, Positions to try).
E_is : position_of E ≡ position X 15 (0 ∷ 0 ∷ 0 ∷ 0 ∷ 0 ∷ 0 ∷ 0 ∷ 0 ∷ 0 ∷ [])
unfolding bit_at position_of
E_is = refl

W_is : position_of W ≡ position X 2 (
    111000000 ∷ 111000000 ∷ 110000220 ∷
    222000000 ∷ 222000000 ∷ 000000000 ∷
    000000000 ∷ 000000000 ∷ 000000000 ∷ [])
unfolding bit_at position_of
W_is = refl

D_is : position_of D ≡ position X 15 (
    111220000 ∷ 111200000 ∷ 222000000 ∷
    222000000 ∷ 222000000 ∷ 111000000 ∷
    111000000 ∷ 111000000 ∷ 222000000 ∷ [])
unfolding bit_at position_of
D_is = refl

-- Each line alone wins, for X and for O; and of the 512 sets of cells 282 hold one of them.
abbrev line_boards : List ℕ
line_boards = 111000000 ∷ 000111000 ∷ 000000111 ∷ 100100100 ∷ 010010010 ∷ 001001001 ∷ 100010001 ∷ 001010100 ∷ []

lines_win : map (λ n. state (nine n)) line_boards ≡ answers (λ k. 1) 0 8
unfolding has_line state
lines_win = refl

lines_win_o : map (λ n. state (nine (2 * n))) line_boards ≡ answers (λ k. 2) 0 8
unfolding has_line state
lines_win_o = refl

no_other_line : count 1 (answers (λ n. cond (has_line 1 (answers (λ c. n / 2 ^ c % 2) 0 9)) 1 0) 0 512) ≡ 282
unfolding has_line
no_other_line = refl

-- A full board without a line is drawn. Drawn boards are nobody's: they make no line with a side's boards. Nine done boards without a line are a drawn game.
drawn_boards : map (λ n. state (nine n)) (112221112 ∷ 113000000 ∷ 223000000 ∷ 333000000 ∷ 113221331 ∷ 333333333 ∷ []) ≡ 3 ∷ 0 ∷ 0 ∷ 0 ∷ 3 ∷ 3 ∷ []
unfolding has_line state
drawn_boards = refl

-- The five errors in their order: each move is wrong in the next one's way too, where there is a next. The last is right.
abbrev after44 : Position
after44 = play (position_of E) 0x44

five_errors :
    move_error (position_of D) 0x09 ∷ move_error (position_of D) 0x00 ∷ move_error (position_of W) 0x00 ∷
    move_error (play after44 0x40) 0x44 ∷ move_error after44 0x44 ∷ move_error after44 0x40 ∷ []
    ≡ 11 ∷ 12 ∷ 13 ∷ 14 ∷ 15 ∷ 0 ∷ []
unfolding has_line state board board_states game_state move_error play bit_at position_of
five_errors = refl

-- A bad move comes with its index.
bad_moves :
    (replay (position_of E) (0x44 ∷ 0x44 ∷ []) 0 ≡ BadMove 15 1)
    × (replay (position_of E) (0x44 ∷ 0x00 ∷ []) 0 ≡ BadMove 14 1)
    × (replay (position_of E) (0x09 ∷ []) 0 ≡ BadMove 11 0)
unfolding has_line state board board_states game_state move_error play replay bit_at position_of
bad_moves = (refl, refl, refl)

-- The reply's target: the board of the cell; free where that board is done, after the move (22) or before it (23); and the same after the last move, here won by 25.
targets : map (λ m. (play (position_of W) m).target) (0x25 ∷ 0x23 ∷ 0x22 ∷ []) ≡ 5 ∷ 15 ∷ 15 ∷ []
unfolding has_line state board play bit_at position_of
targets = refl

last_target :
    let last : Position = play (position X 2 (111000000 ∷ 111000000 ∷ 000110220 ∷ 222000000 ∷ 222000000 ∷ 0 ∷ 0 ∷ 0 ∷ 0 ∷ [])) 0x25 in
    (game_state last ≡ 1) × (last.target ≡ 5)
unfolding has_line state board board_states game_state play
last_target = (refl, refl)

-- Legal moves: all 81 of E, the five of W, and none where the game is won (W with 22) or drawn (D).
legal_moves_here :
    (legal_moves (position_of E) ≡ every_move)
    × (legal_moves (position_of W) ≡ 0x22 ∷ 0x23 ∷ 0x24 ∷ 0x25 ∷ 0x28 ∷ [])
    × (legal_moves (play (position_of W) 0x22) ≡ [])
    × (legal_moves (position_of D) ≡ [])
unfolding has_line state board board_states game_state play legal_moves bit_at position_of
legal_moves_here = (refl, refl, refl, refl)

-- Checks 2 to 6 in their order: the first position fails all five, and each after it one fewer. D passes; with target 0, a won board, it fails the last,
-- and so does a position whose target is a drawn board.
five_checks : map position_refusal (
    position X 0 (111000000 ∷ 111000000 ∷ 111000000 ∷ 222000000 ∷ 222000000 ∷ 300000000 ∷ 0 ∷ 220000000 ∷ 222111000 ∷ []) ∷
    position X 0 (111000000 ∷ 111000000 ∷ 111000000 ∷ 222000000 ∷ 222000000 ∷ 000000000 ∷ 0 ∷ 220000000 ∷ 222111000 ∷ []) ∷
    position X 0 (111000000 ∷ 111000000 ∷ 111000000 ∷ 222000000 ∷ 222000000 ∷ 200000000 ∷ 0 ∷ 220000000 ∷ 222111000 ∷ []) ∷
    position X 0 (111000000 ∷ 111000000 ∷ 111000000 ∷ 222000000 ∷ 222000000 ∷ 000000000 ∷ 0 ∷ 000000000 ∷ 222000000 ∷ []) ∷
    position_of (record21 0x02B400AC0054001500054000A8002A000A80054000) ∷
    position O 0 (112221112 ∷ 0 ∷ 0 ∷ 0 ∷ 0 ∷ 0 ∷ 0 ∷ 0 ∷ 0 ∷ []) ∷
    position_of D ∷ []) ≡ 2 ∷ 3 ∷ 4 ∷ 5 ∷ 6 ∷ 6 ∷ 0 ∷ []
unfolding has_line state board board_states first_refusal bit_at position_of position_refusal
five_checks = refl

-- Records: 20 bytes; E with last bit 1, with target 9, with first byte 7A (X has a cell and is to move), F8 (O is to move, and no cell is taken).
records : map refusal (
    answers (λ k. 0) 0 20 ∷
    record21 0x780000000000000000000000000000000000000001 ∷
    record21 0x480000000000000000000000000000000000000000 ∷
    record21 0x7A0000000000000000000000000000000000000000 ∷
    record21 0xF80000000000000000000000000000000000000000 ∷ []) ≡ 1 ∷ 2 ∷ 2 ∷ 3 ∷ 3 ∷ []
unfolding has_line state board board_states first_refusal bit_at position_of position_refusal refusal_to6 impossible_choice refusal
records = refl

-- The record of E after 44.
E_44 : record_of (play (position_of E) 0x44) ≡ record21 0xA00000000000000000000200000000000000000000
unfolding has_line state board play bit_at position_of record_bit record_of
E_44 = refl

-- What D is worth under rules 0, 1 and 2: for a root whose side is X, and for one whose side is O. Under rule 0 it is lost by X, which is to move.
drawn_for_x : answers (λ rule. final_value rule X (position_of D)) 0 3 ≡ false ∷ false ∷ true ∷ []
unfolding has_line state board board_states game_state drawn final_value bit_at position_of
drawn_for_x = refl

drawn_for_o : answers (λ rule. final_value rule O (position_of D)) 0 3 ≡ true ∷ false ∷ true ∷ []
unfolding has_line state board board_states game_state drawn final_value bit_at position_of
drawn_for_o = refl
