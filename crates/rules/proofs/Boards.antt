-- Laws of boards and of their states under a store in one cell. Every list of cells. Rests on Rules and Answers.
use Rattle.std.specs.Prelude.{◌≡◌, refl, List, length, drop, set}
use Rattle.std.proofs.Math.Path.{ap}
use Rattle.std.proofs.Common.{◌∙◌, length-take, length-drop, drop-set-lt, get_or-take, get_or-drop}
use Prim.Native.Nat.{ℕ, ◌+◌, ◌*◌, ◌-◌, ◌<◌, ◌≤◌}
use Rattle.std.proofs.Math.Decide.{dec_lt}
use native.Mathlib.Omega.{arith}
use Rattle.std.proofs.Math.ListN.{take}
use Rattle.std.proofs.lemmas.List.{drop-set-add, take-set-le}
use Rattle.std.proofs.Math.Seq.{take-set-lt}
use Rattle.rules.specs.Rules.{code, answers, state, board, board_states}
use Rattle.rules.proofs.Answers.{answers_zero, answers_set}

module _ (cs : List ℕ) (b c v : ℕ) (h : c < 9) where
  pub board_same : board (set cs (b * 9 + c) v) b ≡ set (board cs b) c v
  unfolding board
  board_same = rw (drop-set-add, take-set-lt)

  pub board_other : (b' : ℕ) → (b' ≡ b → ⊥) → board (set cs (b * 9 + c) v) b' ≡ board cs b'
  unfolding board
  board_other b' n = go (dec_lt b b')
    where
      go : Dec (b < b') → take 9 (drop (b' * 9) (set cs (b * 9 + c) v)) ≡ take 9 (drop (b' * 9) cs)
      go (yes l) = ap (take 9) (drop-set-lt (b' * 9) cs (b * 9 + c) v (omega arith))
      go (no g) =
          let r : ℕ = b * 9 + c - b' * 9 in
          let e : b * 9 + c ≡ b' * 9 + r = omega arith in
          rw (e, drop-set-add) (take-set-le 9 (drop (b' * 9) cs) r v (omega arith))

pub code_board : (cs : List ℕ) (b c : ℕ) → c < 9 → code (board cs b) c ≡ code cs (b * 9 + c)
unfolding board
code_board cs b c h = rw (get_or-take, get_or-drop)

pub length_board : (cs : List ℕ) (b : ℕ) → length cs ≡ 81 → b < 9 → length (board cs b) ≡ 9
unfolding board
length_board cs b e h = rw (length-take, length-drop) (omega arith)

pub board_short : (cs : List ℕ) (b : ℕ) → length (board cs b) ≤ 9
unfolding board
board_short cs b = rw length-take (omega arith)

pub length_states : (cs : List ℕ) → length (board_states cs) ≡ 9
unfolding board_states
length_states cs = refl

pub code_states : (cs : List ℕ) (b : ℕ) → b < 9 → code (board_states cs) b ≡ state (board cs b)
unfolding board_states
code_states cs b h = answers_zero (λ k. state (board cs k)) 9 b 3 h

-- a store in board b changes the state of that board alone
pub states_set : (cs : List ℕ) (b c v : ℕ) → c < 9
    → board_states (set cs (b * 9 + c) v) ≡ set (board_states cs) b (state (set (board cs b) c v))
unfolding board_states
states_set cs b c v h =
    answers_set (λ k. state (board cs k)) (λ k. state (board (set cs (b * 9 + c) v) k)) 9 b (λ k q. ap state (board_other cs b c v h k q)) 3
    ∙ ap (λ s. set (answers (λ k. state (board cs k)) 0 9) b (state s)) (board_same cs b c v h)
