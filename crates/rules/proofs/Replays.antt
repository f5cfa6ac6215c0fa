-- Laws of replay: a list of moves by the first of them, and a list by a beginning of it that was replayed. Rests on Rules.
use Rattle.std.specs.Prelude.{◌≡◌, refl, List, [], ◌∷◌, ◌++◌, ℕ, suc, ◌+◌, ◌<◌, ◌≤◌, length, get_or, take, drop}
use Rattle.std.proofs.Common.{ap, sym, ◌∙◌, arith, ne_eqb, take-append-drop, length-take-le, take-suc}
use Rattle.std.proofs.Math.Decide.{ℕ_discrete}
use Rattle.rules.specs.Rules.{Position, move_error, play, replay}
use Rattle.rules.specs.Rules.Replayed.{Reached, BadMove}

module _ (p : Position) (m : ℕ) (ms : List ℕ) (i : ℕ) where
  pub good_move : move_error p m ≡ 0 → replay p (m ∷ ms) i ≡ replay (play p m) ms (suc i)
  unfolding replay
  good_move e = rw (e, replay)

  pub bad_move : (move_error p m ≡ 0 → ⊥) → replay p (m ∷ ms) i ≡ BadMove (move_error p m) i
  unfolding replay
  bad_move n = rw (ne_eqb (move_error p m) 0 n, replay)

  -- and back: the first move of a list that is replayed without an error is legal
  pub first_good : (q : Position) → replay p (m ∷ ms) i ≡ Reached q → (move_error p m ≡ 0) × (replay (play p m) ms (suc i) ≡ Reached q)
  first_good q e = go (ℕ_discrete (move_error p m) 0)
    where
      go : Dec (move_error p m ≡ 0) → (move_error p m ≡ 0) × (replay (play p m) ms (suc i) ≡ Reached q)
      go (yes z) = (z, sym (good_move z) ∙ e)
      go (no n) = let apart = bad_move n in let z : ◌≡◌ {A = ℕ} 0 1 = cc (apart, e) in absurd (omega arith)

pub no_move : (p : Position) (i : ℕ) → replay p [] i ≡ Reached p
unfolding replay
no_move p i = refl

-- moves after those that lead to q
replay_append : (p : Position) (ms ns : List ℕ) (i : ℕ) (q : Position) → replay p ms i ≡ Reached q → replay p (ms ++ ns) i ≡ replay q ns (i + length ms)
replay_append p [] ns i q e =
    let same : p ≡ q = cc (no_move p i, e) in
    let here : i ≡ i + 0 = omega arith in
    ap (λ (x : Position). replay x ns i) same ∙ ap (replay q ns) here
replay_append p (m ∷ ms) ns i q e =
    let f = first_good p m ms i q e in
    let later : suc i + length ms ≡ i + suc (length ms) = omega arith in
    good_move p m (ms ++ ns) i f.0 ∙ replay_append (play p m) ms ns (suc i) q f.1 ∙ ap (replay q ns) later

-- the first n moves of a list lead to q: the rest of the list goes on from there, and so does one move more
module _ (p : Position) (ms : List ℕ) (n : ℕ) (q : Position) (e : replay p (take n ms) 0 ≡ Reached q) where
  pub replay_rest : n ≤ length ms → replay p ms 0 ≡ replay q (drop n ms) n
  replay_rest h =
      let here : 0 + length (take n ms) ≡ n = omega (arith, length-take-le n ms h) in
      ap (λ (l : List ℕ). replay p l 0) (sym (take-append-drop n ms))
      ∙ replay_append p (take n ms) (drop n ms) 0 q e
      ∙ ap (replay q (drop n ms)) here

  pub replay_next : n < length ms → move_error q (get_or ms n 0) ≡ 0 → replay p (take (suc n) ms) 0 ≡ Reached (play q (get_or ms n 0))
  replay_next h z =
      ap (λ (l : List ℕ). replay p l 0) (take-suc ms n 0 h)
      ∙ replay_append p (take n ms) (get_or ms n 0 ∷ []) 0 q e
      ∙ good_move q (get_or ms n 0) [] _ z
      ∙ no_move (play q (get_or ms n 0)) _
