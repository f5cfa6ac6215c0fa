-- Laws of specs/Value.antt. The laws asked of a game, and what follows for value and N: each from the positions one move on. Rests on Game.
use Rattle.std.specs.Prelude.{◌≡◌, Bool}
use Rattle.std.proofs.Math.Path.{refl, ap}
use Rattle.std.proofs.Common.{sym, ◌∙◌, subst, arith}
use mathlib.Core.List.Memᴰ
use mathlib.Core.List.{List, [], ◌∷◌, map, foldr, Memᴰ}
use Rattle.std.proofs.Math.Bool.{true, false, not, ◌&&◌, ◌||◌, cond, or-true, and-false}
use Prim.Native.Nat.{ℕ, zero, suc, ◌+◌, ◌≤◌, ◌<◌}
use Rattle.machine.specs.Game.{Distinct}
use Rattle.machine.specs.Game.{Game, backward, value_from, value, sequences}
use Rattle.machine.specs.Value.{extra}

-- Asked of every value of Pos: play comes to an end, the sides take turns, and no legal move is listed twice
pub record Lawful (G : Game) : Type 0 where
  pub falls : (p : G.Pos) (m : ℕ) → Memᴰ m (G.moves p) → G.left (G.play p m) < G.left p
  pub turns : (p : G.Pos) (m : ℕ) → Memᴰ m (G.moves p) → G.mine (G.play p m) ≡ not (G.mine p)
  pub distinct : (p : G.Pos) → Distinct (G.moves p)

map_same : {A : Type 0} (f g : ℕ → A) (ms : List ℕ) → ((m : ℕ) → Memᴰ m ms → f m ≡ g m) → map f ms ≡ map g ms
map_same f g [] h = refl
map_same f g (m ∷ ms) h = cc (h m (Memᴰ.head refl), map_same f g ms (λ x i. h x (Memᴰ.tail i)))

module _ (op : Bool → Bool → Bool) (e : Bool) (f : ℕ → Bool) where
  fold_some : (z : Bool) → ((b : Bool) → op z b ≡ z) → ((b : Bool) → op b z ≡ z) → (ms : List ℕ) (m : ℕ) → Memᴰ m ms → f m ≡ z → foldr op e (map f ms) ≡ z
  fold_some z l r [] m x'' h = elim x'' [ ]
  fold_some z l r (x ∷ xs) m (Memᴰ.head q) h = ap (λ (b : Bool). op b (foldr op e (map f xs))) (sym (ap f q) ∙ h) ∙ l _
  fold_some z l r (x ∷ xs) m (Memᴰ.tail i) h = ap (op (f x)) (fold_some z l r xs m i h) ∙ r (f x)

  fold_all : op e e ≡ e → (ms : List ℕ) → ((m : ℕ) → Memᴰ m ms → f m ≡ e) → foldr op e (map f ms) ≡ e
  fold_all u [] h = refl
  fold_all u (x ∷ xs) h = rw (h x (Memᴰ.head refl), fold_all u xs (λ m i. h m (Memᴰ.tail i))) u

module _ (G : Game) (L : Lawful G) where
  -- Where nothing is left there is no move
  pub no_moves : (p : G.Pos) → G.left p ≤ 0 → G.moves p ≡ []
  no_moves p h = go (G.moves p) refl
    where
      go : (ms : List ℕ) → G.moves p ≡ ms → ms ≡ []
      go [] e = refl
      go (m ∷ ms) e = absurd (omega (arith, L.falls p m (subst (Memᴰ m) (sym e) (Memᴰ.head refl))))

  -- What is left is deep enough
  deep_enough : {A : Type 0} (f : G.Pos → List A → A) (j k : ℕ) (p : G.Pos) → G.left p ≤ j → G.left p ≤ k → backward G f j p ≡ backward G f k p
  unfolding backward
  deep_enough f zero zero p h i = refl
  deep_enough f zero (suc k) p h i = rw (no_moves p h)
  deep_enough f (suc j) zero p h i = rw (no_moves p i)
  deep_enough f (suc j) (suc k) p h i =
      ap (f p) (map_same _ _ (G.moves p) (λ m e. deep_enough f j k (G.play p m) (omega (arith, L.falls p m e)) (omega (arith, L.falls p m e))))

  one_move : {A : Type 0} (f : G.Pos → List A → A) (p : G.Pos)
      → backward G f (G.left p) p ≡ f p (map (λ m. backward G f (G.left (G.play p m)) (G.play p m)) (G.moves p))
  unfolding backward
  one_move f p =
      deep_enough f (G.left p) (suc (G.left p)) p (omega arith) (omega arith)
      ∙ ap (f p) (map_same _ _ (G.moves p) (λ m e. deep_enough f (G.left p) (G.left (G.play p m)) (G.play p m) (omega (arith, L.falls p m e)) (omega arith)))

  pub value_step : (p : G.Pos) → value G p ≡ value_from G p (map (λ m. value G (G.play p m)) (G.moves p))
  unfolding value
  value_step p = one_move (value_from G) p

  pub value_final : (p : G.Pos) → G.moves p ≡ [] → value G p ≡ G.final p
  unfolding value_from
  value_final p e = value_step p ∙ rw e

  from_some : (p : G.Pos) (f : ℕ → Bool) (ms : List ℕ) (m : ℕ) → Memᴰ m ms → f m ≡ G.mine p → value_from G p (map f ms) ≡ G.mine p
  unfolding value_from
  from_some p f [] m i h = absurd (Memᴰ.not-nil i)
  from_some p f (x ∷ xs) m i h = go (G.mine p) h
    where
      go : (b : Bool) → f m ≡ b → cond b (foldr ◌||◌ false (map f (x ∷ xs))) (foldr ◌&&◌ true (map f (x ∷ xs))) ≡ b
      go true q = fold_some ◌||◌ false f true (λ b. refl) or-true (x ∷ xs) m i q
      go false q = fold_some ◌&&◌ true f false (λ b. refl) and-false (x ∷ xs) m i q

  from_all : (p : G.Pos) (f : ℕ → Bool) (ms : List ℕ) (x : ℕ) → Memᴰ x ms → ((m : ℕ) → Memᴰ m ms → f m ≡ not (G.mine p)) → value_from G p (map f ms) ≡ not (G.mine p)
  unfolding value_from
  from_all p f [] x i h = absurd (Memᴰ.not-nil i)
  from_all p f (y ∷ ys) x i h = go (G.mine p) h
    where
      go : (b : Bool) → ((m : ℕ) → Memᴰ m (y ∷ ys) → f m ≡ not b) → cond b (foldr ◌||◌ false (map f (y ∷ ys))) (foldr ◌&&◌ true (map f (y ∷ ys))) ≡ not b
      go true q = fold_all ◌||◌ false f refl (y ∷ ys) q
      go false q = fold_all ◌&&◌ true f refl (y ∷ ys) q

  -- The mover gets what it wants if one move leads there, and does not if each move leads elsewhere
  pub value_some : (p : G.Pos) (m : ℕ) → Memᴰ m (G.moves p) → value G (G.play p m) ≡ G.mine p → value G p ≡ G.mine p
  value_some p m i h = value_step p ∙ from_some p _ (G.moves p) m i h

  pub value_all : (p : G.Pos) (x : ℕ) → Memᴰ x (G.moves p) → ((m : ℕ) → Memᴰ m (G.moves p) → value G (G.play p m) ≡ not (G.mine p)) → value G p ≡ not (G.mine p)
  value_all p x i h = value_step p ∙ from_all p _ (G.moves p) x i h

pub sequences_step : (G : Game) → Lawful G → (p : G.Pos) → sequences G p ≡ suc (extra G p)
unfolding sequences extra
sequences_step G L p = one_move G L (λ q ns. suc (foldr ◌+◌ 0 ns)) p
