-- A move after which the other side's search under rule 2 is answered False wins for its mover: what is False there is True under rule 1 for the side that moved. Rests on the laws of
-- plain's game and of values.
use Rattle.std.specs.Prelude.{◌≡◌, Bool, ◌||◌, ◌&&◌, ◌⊎◌}
use Rattle.std.proofs.Math.Path.{refl, ap, sym, subst}
use Rattle.std.proofs.Common.{◌∙◌, inl, inr, arith}
use Rattle.std.proofs.Math.Bool.{true, false, not, not-not}
use mathlib.Core.List.Memᴰ
use mathlib.Core.List.{List, [], ◌∷◌, Memᴰ}
use Prim.Native.Nat.{ℕ, zero, suc, ◌<◌}
use borrow.Author.Tests.{eqb-true, eqb-false}
use Rattle.std.proofs.Math.Dec.{eqb}
use Rattle.rules.specs.Rules.{Player, Position, other, mark, same, count, game_state, legal_moves, play, drawn, final_value}
use Rattle.rules.specs.Rules.Player.{X, O}
use Rattle.rules.specs.Record.{Accepted}
use Rattle.rules.proofs.LegalMoves.{in_legal, finished_none, unfinished_some}
use Rattle.rules.proofs.Plays.{one_less, turn_passes, keeps_accepted}
use Rattle.machine.specs.Game.{value}
use Rattle.machine.proofs.Value.{value_final, value_some, value_all}
use Rattle.plain.specs.Plain.{game, value_of}
use Rattle.plain.proofs.Laws.{lawful}
use Rattle.matches.proofs.Playing.{state_four}

-- a finished position: won, or drawn
final_turned : (side root : Player) (g : ℕ) → g < 4 → (g ≡ 0 → ⊥)
    → (eqb g (mark root) || eqb g 3 && drawn 1 root side) ≡ not (eqb g (mark (other root)) || eqb g 3 && drawn 2 (other root) side)
unfolding drawn
final_turned side root zero h z = absurd (z refl)
final_turned side X (suc zero) h z = refl
final_turned side O (suc zero) h z = refl
final_turned side X (suc (suc zero)) h z = refl
final_turned side O (suc (suc zero)) h z = refl
final_turned side X (suc (suc (suc zero))) h z = refl
final_turned side O (suc (suc (suc zero))) h z = refl
final_turned side root (suc (suc (suc (suc g)))) h z = absurd (omega arith)

same_turned : (s t : Player) → same (other s) t ≡ not (same s t)
same_turned X X = refl
same_turned X O = refl
same_turned O X = refl
same_turned O O = refl

-- one of some answers is b, or none is
one_or_none : (f : ℕ → Bool) (b : Bool) (ms : List ℕ) → ((m : ℕ) × Memᴰ m ms × (f m ≡ b)) ⊎ ((m : ℕ) → Memᴰ m ms → f m ≡ not b)
one_or_none f b [] = inr (λ m i. absurd (Memᴰ.not-nil i))
one_or_none f b (x ∷ ms) = go (one_or_none f b ms) (f x) b refl refl
  where
    go : ((m : ℕ) × Memᴰ m ms × (f m ≡ b)) ⊎ ((m : ℕ) → Memᴰ m ms → f m ≡ not b) → (v c : Bool) → f x ≡ v → b ≡ c
        → ((m : ℕ) × Memᴰ m (x ∷ ms) × (f m ≡ b)) ⊎ ((m : ℕ) → Memᴰ m (x ∷ ms) → f m ≡ not b)
    go (inl k) v c p q = inl (k.0, Memᴰ.tail k.1, k.2)
    go (inr k) true true p q = inl (x, Memᴰ.head refl, p ∙ sym q)
    go (inr k) false false p q = inl (x, Memᴰ.head refl, p ∙ sym q)
    go (inr k) true false p q = inr (λ m i. elim i [ Memᴰ.head e ↦ ap f e ∙ p ∙ ap not (sym q) | Memᴰ.tail j ↦ k m j ])
    go (inr k) false true p q = inr (λ m i. elim i [ Memᴰ.head e ↦ ap f e ∙ p ∙ ap not (sym q) | Memᴰ.tail j ↦ k m j ])

module _ (root : Player) where
  -- what one side forces under rule 1, the other cannot keep from under rule 2
  turned : (k : ℕ) (p : Position) → count 0 p.cells < k → Accepted p → value (game 1 root) p ≡ not (value (game 2 (other root)) p)
  unfolding final_value
  turned zero p l a = absurd (omega arith)
  turned (suc k) p l a = go (eqb (game_state p) 0) refl (turned k)
    where
      go : (b : Bool) → eqb (game_state p) 0 ≡ b → ((q : Position) → count 0 q.cells < k → Accepted q → value (game 1 root) q ≡ not (value (game 2 (other root)) q))
          → value (game 1 root) p ≡ not (value (game 2 (other root)) p)
      go false e h =
          let over = eqb-false (game_state p) 0 e in
          let none = finished_none p over in
          value_final (game 1 root) (lawful 1 root) p none
          ∙ final_turned p.side root (game_state p) (state_four p) over
          ∙ ap not (sym (value_final (game 2 (other root)) (lawful 2 (other root)) p none))
      go true e h =
          let some = unfinished_some p a (eqb-true (game_state p) 0 e) in
          let after : (m : ℕ) → Memᴰ m (legal_moves p) → value (game 2 (other root)) (play p m) ≡ not (value (game 1 root) (play p m)) = λ m i.
          let legal = in_legal p m i in
          let q = h (play p m) (omega (arith, one_less p m legal)) (keeps_accepted p m legal a) in
          sym (not-not _) ∙ ap not (sym q) in
          let turn : not (same root p.side) ≡ same (other root) p.side = sym (same_turned root p.side) in
          by some after turn (one_or_none (λ m. value (game 1 root) (play p m)) (same root p.side) (legal_moves p))
        where
          by : (m : ℕ) × Memᴰ m (legal_moves p)
              → ((m : ℕ) → Memᴰ m (legal_moves p) → value (game 2 (other root)) (play p m) ≡ not (value (game 1 root) (play p m)))
              → not (same root p.side) ≡ same (other root) p.side
              → ((m : ℕ) × Memᴰ m (legal_moves p) × (value (game 1 root) (play p m) ≡ same root p.side))
              ⊎ ((m : ℕ) → Memᴰ m (legal_moves p) → value (game 1 root) (play p m) ≡ not (same root p.side))
              → value (game 1 root) p ≡ not (value (game 2 (other root)) p)
          by some after turn (inl (m, i, e)) =
              let mine : value (game 1 root) p ≡ same root p.side = value_some (game 1 root) (lawful 1 root) p m i e in
              let theirs : value (game 2 (other root)) p ≡ same (other root) p.side =
              value_some (game 2 (other root)) (lawful 2 (other root)) p m i (after m i ∙ ap not e ∙ turn) in
              mine ∙ sym (not-not (same root p.side)) ∙ ap not (turn ∙ sym theirs)
          by some after turn (inr f) =
              let mine : value (game 1 root) p ≡ not (same root p.side) = value_all (game 1 root) (lawful 1 root) p some.0 some.1 f in
              let theirs : value (game 2 (other root)) p ≡ not (same (other root) p.side) =
              value_all (game 2 (other root)) (lawful 2 (other root)) p some.0 some.1 (λ m i. after m i ∙ ap not (f m i) ∙ ap not turn) in
              mine ∙ sym (ap not theirs ∙ not-not (same (other root) p.side) ∙ sym turn)

-- A legal move after which the other side has not even a draw wins for its mover
module _ (p : Position) (a : Accepted p) (m : ℕ) (i : Memᴰ m (legal_moves p)) (lost : value_of 2 (play p m) ≡ false) where
  pub move_wins : value (game 1 p.side) (play p m) ≡ true
  unfolding value_of
  move_wins =
      let legal = in_legal p m i in
      let q = play p m in
      let side : q.side ≡ other p.side = turn_passes p m in
      let no : value (game 2 (other p.side)) q ≡ false = subst (λ s. value (game 2 s) q ≡ false) side lost in
      turned p.side (suc (count 0 q.cells)) q (omega arith) (keeps_accepted p m legal a) ∙ ap not no
