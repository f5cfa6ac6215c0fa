-- What passing the checks of a record stands for, by name: Passes for checks 2 to 6 of a position, LoadsTo6 for 1 to 6 of the bytes, Loads for all of them; both
-- ways. And the shape of an accepted position. Rests on Record, RefusalLaws, Boards and Tests.
use Rattle.std.specs.Prelude.{Bool, true, false, not, ◌&&◌, ◌||◌, ◌≡◌, List, [], ◌⊎◌, ℕ, ◌+◌, ◌*◌, ◌<◌, eqb, ltb, length}
use Rattle.std.proofs.Math.Bool.{and-false}
use Rattle.std.proofs.Common.{sym, ap, ◌∙◌, inl, inr, ⊎_elim, arith, ltb-true, eqb-true, lt-ltb, eq-eqb}
use Rattle.std.proofs.lemmas.Bool.{not-true}
use Rattle.rules.specs.Rules.{Player, Position, mark, code, answers, all, any, has_line, state, board, board_states, count}
use Rattle.rules.specs.Rules.Player.{X, O}
use Rattle.rules.specs.Record.{bit_at, number, position_of, coded, fair_turn, both_lines, position_refusal, refusal_to6, impossible_choice, refusal, Accepted}
use Rattle.rules.specs.Refusals.{first_refusal}
use Rattle.rules.proofs.RefusalLaws.{none_refuses, passes_check, passes_need}
use Rattle.rules.proofs.Tests.{both_true, both_false, one_true, implied, implies, not_any, all_at, at_all}
use Rattle.rules.proofs.Answers.{length_answers, answers_zero}
use Rattle.rules.proofs.Boards.{code_states}

-- Checks 2 to 6. Of check 5 it is enough that the side to move has no line of boards: then both sides cannot have one (one_lineless).
pub record Passes (p : Position) : Type 0 where
  pub codes : all (λ c. ltb c 3) p.cells ≡ true
  pub target_range : (p.target < 9) ⊎ (p.target ≡ 15)
  pub turn : fair_turn p.side (count 1 p.cells) (count 2 p.cells) ≡ true
  pub not_both : (b : ℕ) → b < 9 → both_lines (board p.cells b) ≡ false
  pub lineless : has_line (mark p.side) (board_states p.cells) ≡ false
  pub target_open : p.target < 9 → state (board p.cells p.target) ≡ 0

pub one_lineless : (s : Player) (cs : List ℕ) → has_line (mark s) cs ≡ false → both_lines cs ≡ false
one_lineless X cs e = rw e
one_lineless O cs e = rw e (and-false (has_line 1 cs))

-- a target's two forms, as the test of check 2
range_of : (t : ℕ) → (ltb t 9 || eqb t 15) ≡ true → (t < 9) ⊎ (t ≡ 15)
range_of t e = ⊎_elim (λ l. inl (ltb-true t 9 l)) (λ q. inr (eqb-true t 15 q)) (one_true (ltb t 9) (eqb t 15) e)

of_range : (t : ℕ) → (t < 9) ⊎ (t ≡ 15) → (ltb t 9 || eqb t 15) ≡ true
of_range t (inl l) = rw (lt-ltb t 9 l)
of_range t (inr q) = rw q

-- check 4 goes through the boards: no test of one is true exactly if each is false
module _ (f : List ℕ → Bool) (cs : List ℕ) where
  none_of : any f (answers (board cs) 0 9) ≡ false → (b : ℕ) → b < 9 → f (board cs b) ≡ false
  none_of e b h =
      let boards : List (List ℕ) = answers (board cs) 0 9 in
      not-true (f (board cs b)) (ap (λ l. not (f l)) (sym (answers_zero (board cs) 9 b [] h))
      ∙ all_at (λ l. not (f l)) boards b [] (sym (not_any f boards) ∙ ap not e) h)

  of_none : ((b : ℕ) → b < 9 → f (board cs b) ≡ false) → any f (answers (board cs) 0 9) ≡ false
  of_none h =
      let boards : List (List ℕ) = answers (board cs) 0 9 in
      not-true (any f boards) (not_any f boards
      ∙ at_all (λ l. not (f l)) boards [] (λ b l. ap (λ x. not (f x)) (answers_zero (board cs) 9 b [] l) ∙ ap not (h b l)))

pub passes : (p : Position) → position_refusal p ≡ 0 → Passes p
unfolding position_refusal
passes p e =
    let states : List ℕ = board_states p.cells in
    let two = none_refuses _ _ e in
    let three = none_refuses _ _ two.1 in
    let four = none_refuses _ _ three.1 in
    let five = none_refuses _ _ four.1 in
    let six = none_refuses _ _ five.1 in
    let shape = both_true (all (λ c. ltb c 3) p.cells) (ltb p.target 9 || eqb p.target 15) (passes_need 1 (coded p) two.0) in
    record {
      codes = shape.0;
      target_range = range_of p.target shape.1;
      turn = passes_need 2 _ three.0;
      not_both = none_of both_lines p.cells (passes_check 3 _ four.0);
      lineless = (both_false (both_lines states) (has_line (mark p.side) states) (passes_check 4 _ five.0)).1;
      target_open = λ l.
          sym (code_states p.cells p.target l)
          ∙ eqb-true (code states p.target) 0 (implied (ltb p.target 9) (eqb (code states p.target) 0) (passes_check 5 _ six.0) (lt-ltb p.target 9 l));
    }

target_test : (cs : List ℕ) (t : ℕ) → (t < 9 → state (board cs t) ≡ 0) → (ltb t 9 && not (eqb (code (board_states cs) t) 0)) ≡ false
target_test cs t h = implies (ltb t 9) (eqb (code (board_states cs) t) 0) (λ e. eq-eqb (code (board_states cs) t) 0 (code_states cs t (ltb-true t 9 e) ∙ h (ltb-true t 9 e)))

pub passes_refusal : (p : Position) → Passes p → position_refusal p ≡ 0
unfolding position_refusal first_refusal
passes_refusal p h =
    rw (
      h.codes,
      of_range p.target h.target_range,
      h.turn,
      of_none both_lines p.cells h.not_both,
      one_lineless p.side (board_states p.cells) h.lineless,
      h.lineless,
      target_test p.cells p.target h.target_open,
    )

-- Checks 1 to 6.
pub record LoadsTo6 (bs : List ℕ) : Type 0 where
  pub bytes : length bs ≡ 21
  pub last_zero : bit_at bs 167 ≡ 0
  pub loaded : position_refusal (position_of bs) ≡ 0

pub loads_to_6 : (bs : List ℕ) → refusal_to6 bs ≡ 0 → LoadsTo6 bs
unfolding refusal_to6
loads_to_6 bs e =
    let one = none_refuses _ _ e in
    let two = none_refuses _ _ one.1 in
    let later = none_refuses _ _ two.1 in
    record {
      bytes = eqb-true (length bs) 21 (passes_need 0 _ one.0);
      last_zero = eqb-true (bit_at bs 167) 0 (passes_need 1 _ two.0);
      loaded = later.0;
    }

pub to_6_refusal : (bs : List ℕ) → LoadsTo6 bs → refusal_to6 bs ≡ 0
unfolding refusal_to6 first_refusal
to_6_refusal bs h = rw (h.bytes, h.last_zero, h.loaded)

-- Checks 1 to 6, and 22.
pub record Loads (bs : List ℕ) : Type 0 where
  pub to_6 : LoadsTo6 bs
  pub possible : impossible_choice (position_of bs) ≡ false

pub loads : (bs : List ℕ) → refusal bs ≡ 0 → Loads bs
unfolding refusal
loads bs e =
    let six = none_refuses _ _ e in
    record { to_6 = loads_to_6 bs six.0; possible = passes_check 21 _ (none_refuses _ _ six.1).0 }

pub loads_refusal : (bs : List ℕ) → Loads bs → refusal bs ≡ 0
unfolding refusal first_refusal
loads_refusal bs h = rw (to_6_refusal bs h.to_6, h.possible)

pub loads_length : (bs : List ℕ) → refusal bs ≡ 0 → length bs ≡ 21
loads_length bs e = (loads bs e).to_6.bytes

-- a record that is not refused says an accepted position
pub loads_accepted : (bs : List ℕ) → Loads bs → Accepted (position_of bs)
unfolding position_of
loads_accepted bs h = record { whole = length_answers (λ i. number (bit_at bs) (5 + 2 * i) 2) 0 81; passes = h.to_6.loaded; possible = h.possible }

-- 81 codes 0, 1 or 2, and a target 0 to 8 or 15.
pub record Shaped (p : Position) : Type 0 where
  pub whole : length p.cells ≡ 81
  pub codes : all (λ c. ltb c 3) p.cells ≡ true
  pub target_range : (p.target < 9) ⊎ (p.target ≡ 15)

pub shaped : (p : Position) → Accepted p → Shaped p
shaped p a = let h = passes p a.passes in record { whole = a.whole; codes = h.codes; target_range = h.target_range }

pub code_small : (p : Position) → Shaped p → (i : ℕ) → i < 81 → code p.cells i < 3
code_small p h i l = ltb-true (code p.cells i) 3 (all_at (λ c. ltb c 3) p.cells i 3 h.codes (omega arith))
