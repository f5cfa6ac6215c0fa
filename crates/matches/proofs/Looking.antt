-- The laws of looking for a win and of a turn, whatever the searches say. Rests on Matches and on the laws of the rules.
use Rattle.std.proofs.Math.Path.{◌≡◌, refl, ap, sym, subst}
use Rattle.std.proofs.Common.{◌∙◌, mod-lt}
use Rattle.std.specs.Prelude.{Bool, get_or, take}
use Rattle.std.proofs.Math.Bool.{true, false}
use mathlib.Core.List.Memᴰ
use mathlib.Core.List.{List, [], ◌∷◌, map, Memᴰ}
use Prim.Native.Nat.{ℕ, zero, suc, ◌+◌, ◌*◌, ◌/◌, ◌%◌, ◌^◌, ◌≤◌, ◌<◌}
use Rattle.std.proofs.Math.Nat.{suc-mul, mul-le-mul_right}
use native.Mathlib.Omega.{arith}
use Rattle.std.proofs.Math.ListN.{length}
use Rattle.rules.specs.Rules.{Player, Position, legal_moves, play}
use Rattle.rules.proofs.LegalMoves.{moves_few}
use Rattle.machine.specs.Machine.{Verdict, True, False, Unknown}
use Rattle.passes.specs.Passes.{total}
use Rattle.matches.specs.Matches.{Searcher, is_false_verdict, Win, WinsBy, NoWin, Look, look, next_state, drawn_place, move_or_draw, turn}

-- LISTS: a member by its place, and a list with a member is not empty
pub member : (l : List ℕ) (i d : ℕ) → i < length l → Memᴰ (get_or l i d) l
member [] i d h = absurd (omega arith)
member (x ∷ l) zero d h = Memᴰ.head refl
member (x ∷ l) (suc i) d h = Memᴰ.tail (member l i d (omega arith))

pub some : {m : ℕ} (l : List ℕ) → Memᴰ m l → 0 < length l
some [] i = absurd (Memᴰ.not-nil i)
some (x ∷ l) i = omega arith

is_false : (v : Verdict) → is_false_verdict v ≡ true → v ≡ False
is_false True e = let z : ◌≡◌ {A = ℕ} 0 1 = cc in absurd (omega arith)
is_false False e = refl
is_false Unknown e = let z : ◌≡◌ {A = ℕ} 0 1 = cc in absurd (omega arith)

module _ (search : Searcher) where
  -- LOOKING, one move at a time
  module _ (p : Position) (m : ℕ) (ms : List ℕ) where
    pub look_wins : is_false_verdict (search p.side (play p m)).verdict ≡ true
        → look search p (m ∷ ms) ≡ record { win = WinsBy m; expanded = (search p.side (play p m)).expanded }
    unfolding look
    look_wins e = rw (e, look)

    pub look_on : is_false_verdict (search p.side (play p m)).verdict ≡ false
        → look search p (m ∷ ms) ≡ record { win = (look search p ms).win; expanded = (search p.side (play p m)).expanded + (look search p ms).expanded }
    unfolding look
    look_on e = rw (e, look)

  -- The moves that are passed over are not answered False, and the one that wins is
  pub record Passed (p : Position) (ms : List ℕ) (n : ℕ) : Type 0 where
    pub not_false : (i : ℕ) → i < n → (search p.side (play p (get_or ms i 255))).verdict ≡ False → ⊥

  -- what the searches after some moves expand
  abbrev pub expanded_by : Position → List ℕ → ℕ
  expanded_by p ms = total (map (λ m. (search p.side (play p m)).expanded) ms)

  pub record Found (p : Position) (ms : List ℕ) (m : ℕ) : Type 0 where
    pub place : ℕ
    pub within : place < length ms
    pub is : get_or ms place 255 ≡ m
    pub answered : (search p.side (play p m)).verdict ≡ False
    pub passed : Passed p ms place
    pub searched : (look search p ms).expanded ≡ expanded_by p (take (suc place) ms)

  passed_one : (p : Position) (x : ℕ) (ms : List ℕ) (n : ℕ) → is_false_verdict (search p.side (play p x)).verdict ≡ false → Passed p ms n → Passed p (x ∷ ms) (suc n)
  passed_one p x ms n e h = record { not_false = go }
    where
      go : (i : ℕ) → i < suc n → (search p.side (play p (get_or (x ∷ ms) i 255))).verdict ≡ False → ⊥
      go zero l f = let z : ◌≡◌ {A = ℕ} 0 1 = cc in omega arith
      go (suc i) l f = h.not_false i (omega arith) f

  pub look_found : (p : Position) (ms : List ℕ) (m : ℕ) → (look search p ms).win ≡ WinsBy m → Found p ms m
  unfolding look total
  look_found p [] m e = absurd (let z : ◌≡◌ {A = ℕ} 0 1 = cc in omega arith)
  look_found p (x ∷ ms) m e = go (is_false_verdict (search p.side (play p x)).verdict) refl (look_found p ms m)
    where
      go : (b : Bool) → is_false_verdict (search p.side (play p x)).verdict ≡ b → ((look search p ms).win ≡ WinsBy m → Found p ms m) → Found p (x ∷ ms) m
      go true q h =
          let s : WinsBy x ≡ WinsBy m = sym (ap (λ (l : Look). l.win) (look_wins p x ms q)) ∙ e in
          let t : x ≡ m = cc s in
          record {
            place = 0;
            within = omega arith;
            is = t;
            answered = subst (λ y. (search p.side (play p y)).verdict ≡ False) t (is_false _ q);
            passed = record { not_false = λ i l. absurd (omega arith) };
            searched = omega (arith, ap (λ (l : Look). l.expanded) (look_wins p x ms q));
          }
      go false q h =
          let r = h (sym (ap (λ (l : Look). l.win) (look_on p x ms q)) ∙ e) in
          record {
            place = suc r.place;
            within = omega (arith, r.within);
            is = r.is;
            answered = r.answered;
            passed = passed_one p x ms r.place q r.passed;
            searched = omega (arith, ap (λ (l : Look). l.expanded) (look_on p x ms q), r.searched);
          }

  pub record NotFound (p : Position) (ms : List ℕ) : Type 0 where
    pub passed : Passed p ms (length ms)
    pub searched : (look search p ms).expanded ≡ expanded_by p ms

  pub look_none : (p : Position) (ms : List ℕ) → (look search p ms).win ≡ NoWin → NotFound p ms
  unfolding look total
  look_none p [] e = record { passed = record { not_false = λ i l. absurd (omega arith) }; searched = refl }
  look_none p (x ∷ ms) e = go (is_false_verdict (search p.side (play p x)).verdict) refl (look_none p ms)
    where
      go : (b : Bool) → is_false_verdict (search p.side (play p x)).verdict ≡ b → ((look search p ms).win ≡ NoWin → NotFound p ms) → NotFound p (x ∷ ms)
      go true q h = let s : WinsBy x ≡ NoWin = sym (ap (λ (l : Look). l.win) (look_wins p x ms q)) ∙ e in let z : ◌≡◌ {A = ℕ} 0 1 = cc in absurd (omega arith)
      go false q h =
          let r = h (sym (ap (λ (l : Look). l.win) (look_on p x ms q)) ∙ e) in
          record { passed = passed_one p x ms (length ms) q r.passed; searched = omega (arith, ap (λ (l : Look). l.expanded) (look_on p x ms q), r.searched) }

  -- A TURN: what it expands is what looking does; it plays a legal move wherever there is one; its state keeps within 64 bits
  turn_with : (w : Win) (ms : List ℕ) (s e : ℕ) → (move_or_draw w ms s e).expanded ≡ e
  unfolding move_or_draw
  turn_with (WinsBy m) ms s e = refl
  turn_with NoWin ms s e = refl

  pub turn_legal : (p : Position) (s : ℕ) → 0 < length (legal_moves p) → Memᴰ (turn search p s).move (legal_moves p)
  unfolding turn move_or_draw drawn_place
  turn_legal p s h = go (look search p (legal_moves p)).win refl
    where
      go : (w : Win) → (look search p (legal_moves p)).win ≡ w → Memᴰ (move_or_draw w (legal_moves p) s (look search p (legal_moves p)).expanded).move (legal_moves p)
      go (WinsBy m) e = let f = look_found p (legal_moves p) m e in subst (λ y. Memᴰ y (legal_moves p)) f.is (member (legal_moves p) f.place 255 f.within)
      go NoWin e = member (legal_moves p) (next_state s / 2 ^ 32 % length (legal_moves p)) 255 (mod-lt (next_state s / 2 ^ 32) h)

  pub turn_state : (p : Position) (s : ℕ) → s < 2 ^ 64 → (turn search p s).state < 2 ^ 64
  unfolding turn move_or_draw next_state
  turn_state p s h = go (look search p (legal_moves p)).win
    where
      go : (w : Win) → (move_or_draw w (legal_moves p) s (look search p (legal_moves p)).expanded).state < 2 ^ 64
      go (WinsBy m) = h
      go NoWin = omega arith

  -- WHERE NO SEARCH EXPANDS MORE THAN b
  module _ (b : ℕ) (most : (s : Player) (q : Position) → (search s q).expanded ≤ b) where
    pub look_most : (p : Position) (ms : List ℕ) → (look search p ms).expanded ≤ length ms * b
    unfolding look
    look_most p [] = omega arith
    look_most p (m ∷ ms) = go (is_false_verdict (search p.side (play p m)).verdict) refl (look_most p ms)
      where
        go : (f : Bool) → is_false_verdict (search p.side (play p m)).verdict ≡ f → (look search p ms).expanded ≤ length ms * b → (look search p (m ∷ ms)).expanded ≤ length (m ∷ ms) * b
        go true e h = rw (look_wins p m ms e) (omega (arith, most p.side (play p m), suc-mul (length ms) b))
        go false e h = rw (look_on p m ms e) (omega (arith, most p.side (play p m), suc-mul (length ms) b))

    pub turn_most : (p : Position) (s : ℕ) → (turn search p s).expanded ≤ 81 * b
    unfolding turn
    turn_most p s =
        let l = look search p (legal_moves p) in
        omega (arith, turn_with l.win (legal_moves p) s l.expanded, look_most p (legal_moves p), mul-le-mul_right b (moves_few p))
