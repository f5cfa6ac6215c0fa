-- Free choices that can be and that can't, and records with them, computed. Rests on Record and Examples.
use Rattle.std.specs.Prelude.{true, false, [], ◌∷◌, map, ◌≡◌, refl}
use Rattle.rules.specs.Rules.{has_line, state, board, board_states}
use Rattle.rules.specs.Rules.Player.{X, O}
use Rattle.rules.specs.Refusals.{first_refusal}
use Rattle.rules.specs.Record.{bit_at, position_of, position_refusal, refusal_to6, impossible_choice, refusal}
use Rattle.rules.specs.Examples.{record21, E, D, FA, position}

-- It can't be with one cell, and with cells of eight boards, none of them done. It can be where no cell is taken, where a board is drawn or won, where the game is
-- finished (D), and where the target is a board. The last can't be, and check 3 refuses it too.
choices : map impossible_choice (
    position O 15 (100000000 ∷ 0 ∷ 0 ∷ 0 ∷ 0 ∷ 0 ∷ 0 ∷ 0 ∷ 0 ∷ []) ∷
    position O 15 (112221010 ∷ 110000000 ∷ 220000000 ∷ 110000000 ∷ 220000000 ∷ 110000000 ∷ 220000000 ∷ 000000012 ∷ 0 ∷ []) ∷
    position_of E ∷
    position O 15 (112221112 ∷ 0 ∷ 0 ∷ 0 ∷ 0 ∷ 0 ∷ 0 ∷ 0 ∷ 0 ∷ []) ∷
    position O 15 (0 ∷ 0 ∷ 0 ∷ 0 ∷ 0 ∷ 0 ∷ 0 ∷ 0 ∷ 111020020 ∷ []) ∷
    position_of D ∷
    position O 0 (100000000 ∷ 0 ∷ 0 ∷ 0 ∷ 0 ∷ 0 ∷ 0 ∷ 0 ∷ 0 ∷ []) ∷
    position X 15 (100000000 ∷ 0 ∷ 0 ∷ 0 ∷ 0 ∷ 0 ∷ 0 ∷ 0 ∷ 0 ∷ []) ∷ [])
    ≡ true ∷ true ∷ false ∷ false ∷ false ∷ false ∷ false ∷ true ∷ []
unfolding has_line state board board_states bit_at position_of impossible_choice
choices = refl

-- Records: FA, and FA with target 0; E; with first byte 7A (X has a cell and is to move), which 3 refuses and 22 would; D.
records : map refusal (
    FA ∷
    record21 0x820000000000000000000000000000000000000000 ∷
    E ∷
    record21 0x7A0000000000000000000000000000000000000000 ∷
    D ∷ []) ≡ 22 ∷ 0 ∷ 0 ∷ 3 ∷ 0 ∷ []
unfolding has_line state board board_states first_refusal bit_at position_of position_refusal refusal_to6 impossible_choice refusal
records = refl
