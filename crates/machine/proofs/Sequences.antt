-- N is what it says: a list of just the legal move sequences, none twice, has that length, and there is one. Rests on Game and Value.
use Rattle.std.proofs.Math.Path.{◌≡◌, refl, subst}
use Rattle.std.proofs.Common.{ap, sym, ◌∙◌, inl, inr, length-append}
use Rattle.std.specs.Prelude.{◌⊎◌, length}
use mathlib.Core.List.Memᴰ
use mathlib.Core.List.{List, [], ◌∷◌, ◌++◌, map, foldr, Memᴰ}
use Prim.Native.Nat.{ℕ, zero, suc, ◌+◌, ◌≤◌}
use native.Mathlib.Omega.{arith}
use Rattle.std.proofs.lemmas.List.{length-map}
pub use Rattle.machine.specs.Game.{Legal}
use Rattle.machine.specs.Game.{Game, backward, Distinct, sequences}
use Rattle.machine.proofs.Value.{Lawful, no_moves}

pub record Enumerates (G : Game) (p : G.Pos) (l : List (List ℕ)) : Type 0 where
  pub each : (ms : List ℕ) → Legal G p ms → Memᴰ ms l
  pub nothing_else : (ms : List ℕ) → Memᴰ ms l → Legal G p ms
  pub none_twice : Distinct l

-- A list without one of its elements
without : {A : Type 0} {x : A} (l : List A) → Memᴰ x l → List A
without {A = A} [] x'' = elim x'' [ ]
without (y ∷ l) (Memᴰ.head e) = l
without (y ∷ l) (Memᴰ.tail i) = y ∷ without l i

length_without : {A : Type 0} {x : A} (l : List A) (i : Memᴰ x l) → length l ≡ suc (length (without l i))
unfolding without
length_without {A = A} [] i = elim i [ ]
length_without (y ∷ l) (Memᴰ.head e) = refl
length_without (y ∷ l) (Memᴰ.tail i) = ap suc (length_without l i)

still_there : {A : Type 0} {x : A} (y : A) (l : List A) (i : Memᴰ x l) → (y ≡ x → ⊥) → Memᴰ y l → Memᴰ y (without l i)
unfolding without
still_there {A = A} y [] i h _ = elim i [ ]
still_there y (z ∷ l) (Memᴰ.head e) h (Memᴰ.head q) = absurd (h (q ∙ sym e))
still_there y (z ∷ l) (Memᴰ.head e) h (Memᴰ.tail j) = j
still_there y (z ∷ l) (Memᴰ.tail i) h (Memᴰ.head q) = Memᴰ.head q
still_there y (z ∷ l) (Memᴰ.tail i) h (Memᴰ.tail j) = Memᴰ.tail (still_there y l i h j)

-- A list without repeats is no longer than one that has all its elements
pub no_longer : {A : Type 0} (s t : List A) → Distinct s → ((x : A) → Memᴰ x s → Memᴰ x t) → length s ≤ length t
no_longer [] t d h = omega arith
no_longer (x ∷ s) t d h =
    let i = h x (Memᴰ.head refl) in
    omega (arith, length_without t i, no_longer s (without t i) d.1 (λ y j. still_there y t i (λ e. d.0 (Memᴰ.cast (sym e) j)) (h y (Memᴰ.tail j))))

-- Those that begin with each of the moves ms, and all of them k moves deep
begun : (ℕ → List (List ℕ)) → List ℕ → List (List ℕ)
begun f [] = []
begun f (m ∷ ms) = map (λ l. m ∷ l) (f m) ++ begun f ms

listed : (G : Game) → ℕ → G.Pos → List (List ℕ)
listed G zero p = [] ∷ []
listed G (suc k) p = [] ∷ begun (λ m. listed G k (G.play p m)) (G.moves p)

length_begun : (f : ℕ → List (List ℕ)) (g : ℕ → ℕ) (ms : List ℕ) → ((m : ℕ) → length (f m) ≡ g m) → length (begun f ms) ≡ foldr ◌+◌ 0 (map g ms)
unfolding begun
length_begun f g [] h = refl
length_begun f g (m ∷ ms) h =
    omega (arith, length-append (map (λ (l : List ℕ). m ∷ l) (f m)) (begun f ms), length-map (f m) (λ (l : List ℕ). m ∷ l), h m, length_begun f g ms h)

length_listed : (G : Game) (k : ℕ) (p : G.Pos) → length (listed G k p) ≡ backward G (λ q ns. suc (foldr ◌+◌ 0 ns)) k p
unfolding listed backward
length_listed G zero p = refl
length_listed G (suc k) p = ap suc (length_begun _ _ (G.moves p) (λ m. length_listed G k (G.play p m)))

begins : (f : ℕ → List (List ℕ)) (ms : List ℕ) (m : ℕ) (l : List ℕ) → Memᴰ m ms → Memᴰ l (f m) → Memᴰ (m ∷ l) (begun f ms)
unfolding begun
begins f [] m l x'' i = elim x'' [ ]
begins f (x ∷ ms) m l (Memᴰ.head e) i =
    Memᴰ.append_left _ (Memᴰ.cast (ap (λ (y : ℕ). y ∷ l) e) (Memᴰ.map (λ (y : List ℕ). x ∷ y) (subst (λ (y : ℕ). Memᴰ l (f y)) e i)))
begins f (x ∷ ms) m l (Memᴰ.tail h) i = Memᴰ.append_right (map (λ y. x ∷ y) (f x)) (begins f ms m l h i)

-- What a member of such a list is
pub record Begun (f : ℕ → List (List ℕ)) (ms l : List ℕ) : Type 0 where
  pub move : ℕ
  pub rest : List ℕ
  pub is : move ∷ rest ≡ l
  pub first : Memᴰ move ms
  pub then : Memᴰ rest (f move)

begun_by : (f : ℕ → List (List ℕ)) (ms l : List ℕ) → Memᴰ l (begun f ms) → Begun f ms l
unfolding begun
begun_by f [] l i = absurd (Memᴰ.not-nil i)
begun_by f (x ∷ ms) l i = go (Memᴰ.append_cases (map (λ y. x ∷ y) (f x)) i) (λ j. begun_by f ms l j)
  where
    go : Memᴰ l (map (λ y. x ∷ y) (f x)) ⊎ Memᴰ l (begun f ms) → (Memᴰ l (begun f ms) → Begun f ms l) → Begun f (x ∷ ms) l
    go (inl j) h = let r = Memᴰ.of_map (λ (y : List ℕ). x ∷ y) (f x) j in record { move = x; rest = r.0; is = r.2; first = Memᴰ.head refl; then = r.1 }
    go (inr j) h = let r = h j in record { move = r.move; rest = r.rest; is = r.is; first = Memᴰ.tail r.first; then = r.then }

pub distinct_map : (m : ℕ) (l : List (List ℕ)) → Distinct l → Distinct (map (λ x. m ∷ x) l)
distinct_map m [] d = tt
distinct_map m (x ∷ l) d = (λ i. let r = Memᴰ.of_map (λ (y : List ℕ). m ∷ y) l i in d.0 (Memᴰ.cast (cc r.2) r.1), distinct_map m l d.1)

pub distinct_append : {A : Type 0} (s t : List A) → Distinct s → Distinct t → ((x : A) → Memᴰ x s → Memᴰ x t → ⊥) → Distinct (s ++ t)
distinct_append [] t d e h = e
distinct_append (x ∷ s) t d e h = (λ i. go (Memᴰ.append_cases s i), distinct_append s t d.1 e (λ y i j. h y (Memᴰ.tail i) j))
  where
    go : Memᴰ x s ⊎ Memᴰ x t → ⊥
    go (inl i) = d.0 i
    go (inr i) = h x (Memᴰ.head refl) i

distinct_begun : (f : ℕ → List (List ℕ)) (ms : List ℕ) → Distinct ms → ((m : ℕ) → Distinct (f m)) → Distinct (begun f ms)
unfolding begun
distinct_begun f [] d h = tt
distinct_begun f (m ∷ ms) d h = distinct_append (map (λ x. m ∷ x) (f m)) (begun f ms) (distinct_map m (f m) (h m)) (distinct_begun f ms d.1 h) apart
  where
    apart : (l : List ℕ) → Memᴰ l (map (λ x. m ∷ x) (f m)) → Memᴰ l (begun f ms) → ⊥
    apart l i j =
        let a = Memᴰ.of_map (λ (y : List ℕ). m ∷ y) (f m) i in
        let b = begun_by f ms l j in
        let e : m ≡ b.move = cc (a.2, b.is) in
        d.0 (Memᴰ.cast e b.first)

module _ (G : Game) (L : Lawful G) where
  each_listed : (k : ℕ) (p : G.Pos) → G.left p ≤ k → (ms : List ℕ) → Legal G p ms → Memᴰ ms (listed G k p)
  unfolding listed
  each_listed zero p h [] g = Memᴰ.head refl
  each_listed zero p h (m ∷ ms) g = absurd (Memᴰ.not-nil (subst (Memᴰ m) (no_moves G L p h) g.0))
  each_listed (suc k) p h [] g = Memᴰ.head refl
  each_listed (suc k) p h (m ∷ ms) g = Memᴰ.tail (begins _ (G.moves p) m ms g.0 (each_listed k (G.play p m) (omega (arith, L.falls p m g.0)) ms g.1))

  listed_legal : (k : ℕ) (p : G.Pos) (ms : List ℕ) → Memᴰ ms (listed G k p) → Legal G p ms
  unfolding listed
  listed_legal zero p ms (Memᴰ.head e) = rw e tt
  listed_legal zero p ms (Memᴰ.tail i) = absurd (Memᴰ.not-nil i)
  listed_legal (suc k) p ms (Memᴰ.head e) = rw e tt
  listed_legal (suc k) p ms (Memᴰ.tail i) =
      let r = begun_by _ (G.moves p) ms i in
      subst (Legal G p) r.is (r.first, listed_legal k (G.play p r.move) r.rest r.then)

  distinct_listed : (k : ℕ) (p : G.Pos) → Distinct (listed G k p)
  unfolding listed
  distinct_listed zero p = (λ i. Memᴰ.not-nil i, tt)
  distinct_listed (suc k) p = (
    λ i. let r = begun_by _ (G.moves p) [] i in let y : ◌≡◌ {A = ℕ} 0 1 = cc r.is in omega arith,
    distinct_begun _ (G.moves p) (L.distinct p) (λ m. distinct_listed k (G.play p m)),
  )

  enumerated : (p : G.Pos) → Enumerates G p (listed G (G.left p) p)
  enumerated p = record { each = each_listed (G.left p) p (omega arith); nothing_else = listed_legal (G.left p) p; none_twice = distinct_listed (G.left p) p }

  -- There is such a list
  pub sequences_list : (p : G.Pos) → (l : List (List ℕ)) × Enumerates G p l
  sequences_list p = (listed G (G.left p) p, enumerated p)

  -- THEOREM: any list of the legal move sequences from p, each once and nothing else, has sequences G p of them
  pub sequences_count : (p : G.Pos) (l : List (List ℕ)) → Enumerates G p l → length l ≡ sequences G p
  unfolding sequences
  sequences_count p l e =
      let o = enumerated p in
      omega (
        arith,
        no_longer l (listed G (G.left p) p) e.none_twice (λ x i. o.each x (e.nothing_else x i)),
        no_longer (listed G (G.left p) p) l o.none_twice (λ x i. e.each x (o.nothing_else x i)),
        length_listed G (G.left p) p,
      )
