-- Laws of specs/Freeing.antt. Freeing a list of siblings and all below with an array of 82 for the nodes waiting: what holds at each turn. Rests on Trees and Free.
use Rattle.std.specs.Prelude.{◌≡◌, refl, length}
use Rattle.std.proofs.Math.Path.{ap, subst}
use Rattle.std.proofs.Common.{sym, ◌∙◌}
use mathlib.Core.List.{List, [], ◌∷◌}
use Prim.Native.Nat.{ℕ, zero, suc, ◌+◌, ◌-◌, ◌≤◌, ◌<◌, max}
use native.Mathlib.Omega.{arith}
use Rattle.std.proofs.Math.ListN.{get_or}
use Rattle.machine.specs.Tree.{Node, Children, none, child, size}
use Rattle.machine.specs.Descent.{height}
use Rattle.words.specs.Packed.{View}
use Rattle.words.specs.Words.{NONE, FIRST, SIBLING, word, capacity, Agree}
use Rattle.words.proofs.Words.{beyond, slot_some, agree_trans}
use Rattle.words.specs.Trees.{Part, same, uses}
use Rattle.words.proofs.Trees.{same_yes, part_agree, part_outside}
use Rattle.words.specs.Free.{among, Released}
use Rattle.words.proofs.Free.{among_append, free_push}
use Rattle.words.specs.Freeing.{Freeable, plies, Waiting, waiting_uses, waiting_size, Pushed, More, Freed, Freeing, Turn}

module _ {Pos : Type 0} (K : View Pos) where
  -- Stores to todo above those that wait, and to the words of other nodes
  pub waiting_todo : (w todo todo' : List ℕ) (t : ℕ) (ks : List (Children Pos)) → ((j : ℕ) → j < t → get_or todo' j 0 ≡ get_or todo j 0) → Waiting K w todo t ks
      → Waiting K w todo' t ks × ((x : ℕ) → waiting_uses w todo' t ks x ≡ waiting_uses w todo t ks x)
  unfolding waiting_uses
  waiting_todo w todo todo' zero [] a h = (tt, λ x. refl)
  waiting_todo w todo todo' zero (k ∷ ks) a h = absurd h
  waiting_todo w todo todo' (suc t) [] a h = absurd h
  waiting_todo w todo todo' (suc t) (k ∷ ks) a h =
      let q = waiting_todo w todo todo' t ks (λ j l. a j (omega arith)) h.3 in
      let e = a t (omega arith) in (
        (subst (λ (y : ℕ). Part K w k y NONE) (sym e) h.0, λ z. h.1 (sym e ∙ z), h.2, q.0),
        λ x. omega (arith, q.1 x, ap (λ (y : ℕ). uses w k y x) e),
      )

  pub waiting_words : (w v todo : List ℕ) → length v ≡ length w → (t : ℕ) (ks : List (Children Pos)) → ((x : ℕ) → 0 < waiting_uses w todo t ks x → Agree w v x) → Waiting K w todo t ks
      → Waiting K v todo t ks × ((x : ℕ) → waiting_uses v todo t ks x ≡ waiting_uses w todo t ks x)
  unfolding waiting_uses
  waiting_words w v todo long zero [] a h = (tt, λ x. refl)
  waiting_words w v todo long zero (k ∷ ks) a h = absurd h
  waiting_words w v todo long (suc t) [] a h = absurd h
  waiting_words w v todo long (suc t) (k ∷ ks) a h =
      let p = part_agree K w v long k (get_or todo t 0) NONE (λ x l. a x (omega arith)) h.0 in
      let q = waiting_words w v todo long t ks (λ x l. a x (omega arith)) h.3 in
      ((p.0, h.1, h.2, q.0), λ x. omega (arith, p.1 x, q.1 x))

  pub waiting_push : (w todo : List ℕ) (t : ℕ) (ks : List (Children Pos)) (k : Children Pos) (i : ℕ) (todo' : List ℕ) (t' : ℕ) → Waiting K w todo t ks → Part K w k i NONE → height k + t ≤ plies
      → Pushed todo t i todo' t' → More K w todo t ks k i todo' t'
  unfolding waiting_uses waiting_size uses size
  waiting_push w todo t ks none i todo' t' h p l r =
      let e = r.absent p in
      let q = waiting_todo w todo todo' t ks r.lower h in
      record {
        all = ks;
        waiting = subst (λ (y : ℕ). Waiting K w todo' y ks) (sym e) q.0;
        counted = λ x. omega (arith, q.1 x, ap (λ (y : ℕ). waiting_uses w todo' y ks x) e);
        sized = omega arith;
      }
  waiting_push w todo t ks (child n b c) i todo' t' h p l r =
      let z = slot_some p.0.slot in
      let e = r.present z in
      let q = waiting_todo w todo todo' t ks r.lower h in
      let top : Waiting K w todo' (suc t) (child n b c ∷ ks) =
      (subst (λ (y : ℕ). Part K w (child n b c) y NONE) (sym e.1) p, λ y. z (sym e.1 ∙ y), l, q.0) in
      record {
        all = child n b c ∷ ks;
        waiting = subst (λ (y : ℕ). Waiting K w todo' y (child n b c ∷ ks)) (sym e.0) top;
        counted = λ x. omega (arith, q.1 x, ap (λ (y : ℕ). waiting_uses w todo' y (child n b c ∷ ks) x) e.0, ap (λ (y : ℕ). uses w (child n b c) y x) e.1);
        sized = refl;
      }

module _ (Pos : Type 0) (w₀ : List ℕ) (first head₀ done₀ allocated : ℕ) (g : Freeable Pos w₀ first head₀ done₀ allocated) where
  pub freeing_start : (todo todo' : List ℕ) (t : ℕ) → Pushed todo 0 first todo' t → Freeing Pos w₀ first head₀ done₀ allocated g w₀ todo' head₀ done₀ t
  unfolding waiting_uses waiting_size
  freeing_start todo todo' t r =
      let m = waiting_push g.view w₀ todo 0 [] g.siblings first todo' t tt g.part (omega (arith, g.low)) r in
      record {
        waits = m.all;
        list = g.list;
        waiting = m.waiting;
        free = g.free;
        counted = λ x. omega (arith, m.counted x);
        newer = [];
        list_is = refl;
        longer = omega (arith, m.sized);
        sized = omega (arith, m.sized);
        kept = λ x z. λ f l. refl;
        long = refl;
      }

  pub freeing_end : (w todo : List ℕ) (head done : ℕ) → Freeing Pos w₀ first head₀ done₀ allocated g w todo head done 0 → Freed Pos w₀ first head₀ done₀ allocated g w head done
  unfolding waiting_uses waiting_size
  freeing_end w todo head done f = go f.waits f.waiting f.counted f.longer f.sized
    where
      outside : (x : ℕ) → capacity w₀ ≤ x → uses w₀ g.siblings first x ≡ 0
      outside x l = part_outside g.view w₀ g.siblings first NONE x g.part (λ s. omega (arith, s.fits))

      go : (ks : List (Children Pos)) → Waiting g.view w todo 0 ks → ((x : ℕ) → waiting_uses w todo 0 ks x + among f.list x ≡ uses w₀ g.siblings first x + among g.list x)
          → length f.list + waiting_size ks ≡ length g.list + size g.siblings → done + waiting_size ks ≡ done₀ + size g.siblings → Freed Pos w₀ first head₀ done₀ allocated g w head done
      go [] a c l s = record { list = f.list; free = f.free; newer = f.newer; list_is = f.list_is; counted = λ x. omega (arith, c x); longer = omega arith; all = omega arith; kept = f.kept; long = f.long; past = beyond w₀ w (λ x z. f.kept x (outside x z)) }
      go (k ∷ ks) a c l s = absurd a

  low_room : (K : View Pos) (w : List ℕ) (k : Children Pos) (i t : ℕ) → Part K w k i NONE → height k + t ≤ plies → (i ≡ NONE → ⊥) → t < plies
  unfolding height
  low_room K w none i t p l z = absurd (z p)
  low_room K w (child n b c) i t p l z = omega arith

  freeing_turn : (w todo : List ℕ) (head done t : ℕ) → Freeing Pos w₀ first head₀ done₀ allocated g w todo head done (suc t) → Turn Pos w₀ first head₀ done₀ allocated g w todo done t
  unfolding height size waiting_size
  freeing_turn w todo head done t f = go f.waits f.waiting f.sized
    where
      go : (ks : List (Children Pos)) → Waiting g.view w todo (suc t) ks → done + waiting_size ks ≡ done₀ + size g.siblings → Turn Pos w₀ first head₀ done₀ allocated g w todo done t
      go [] a s = absurd a
      go (none ∷ ks) a s = absurd (a.1 a.0)
      go (child n b c ∷ ks) a s = record {
        slot = a.0.0.slot;
        low = omega (arith, a.2);
        first_room = low_room g.view w b (word w (get_or todo t 0) FIRST) (suc t) a.0.1 (omega (arith, a.2));
        more = omega (arith, g.owed);
      }

  -- It is freed, its sibling and then its first child wait
  module _ (w todo : List ℕ) (head done t : ℕ) (f : Freeing Pos w₀ first head₀ done₀ allocated g w todo head done (suc t)) (todo₁ : List ℕ) (t₁ : ℕ) (r₁ : Pushed todo t (word w (get_or todo t 0) SIBLING) todo₁ t₁)
      (todo₂ : List ℕ) (t₂ : ℕ) (r₂ : Pushed todo₁ t₁ (word w (get_or todo t 0) FIRST) todo₂ t₂) (v : List ℕ) (r : Released w v (get_or todo t 0) head) where
    node_step : (n : Node Pos) (b c : Children Pos) (ks : List (Children Pos)) → Waiting g.view w todo (suc t) (child n b c ∷ ks)
        → ((x : ℕ) → waiting_uses w todo (suc t) (child n b c ∷ ks) x + among f.list x ≡ uses w₀ g.siblings first x + among g.list x)
        → length f.list + waiting_size (child n b c ∷ ks) ≡ length g.list + size g.siblings → done + waiting_size (child n b c ∷ ks) ≡ done₀ + size g.siblings
        → Freeing Pos w₀ first head₀ done₀ allocated g v todo₂ (get_or todo t 0) (suc done) t₂
    unfolding waiting_uses waiting_size uses size height among
    node_step n b c ks a q l s =
        let i = get_or todo t 0 in
        let tall : max (suc (height b)) (height c) + t ≤ plies = a.2 in
        let m₁ = waiting_push g.view w todo t ks c (word w i SIBLING) todo₁ t₁ a.3 a.0.2 (omega arith) r₁ in
        let m₂ = waiting_push g.view w todo₁ t₁ m₁.all b (word w i FIRST) todo₂ t₂ m₁.waiting a.0.1 (omega (arith, r₁.level)) r₂ in
        let count : (x : ℕ) → same i x + waiting_uses w todo₂ t₂ m₂.all x + among f.list x ≡ uses w₀ g.siblings first x + among g.list x
        = λ x. omega (arith, q x, m₁.counted x, m₂.counted x) in
        let alone : waiting_uses w todo₂ t₂ m₂.all i + among f.list i ≡ 0 = omega (arith, count i, same_yes i, g.apart i) in
        let moved = waiting_words g.view w v todo₂ r.only.long t₂ m₂.all (λ x z. r.only.others x (λ e. omega (arith, alone, ap (waiting_uses w todo₂ t₂ m₂.all) e))) m₂.waiting in
        record {
          waits = m₂.all;
          list = i ∷ f.list;
          waiting = moved.0;
          free = free_push w v i head f.list r a.0.0.slot (omega (arith, alone)) f.free;
          counted = λ x. omega (arith, count x, moved.1 x);
          newer = i ∷ f.newer;
          list_is = ap (λ (l : List ℕ). i ∷ l) f.list_is;
          longer = omega (arith, m₁.sized, m₂.sized);
          sized = omega (arith, m₁.sized, m₂.sized);
          kept = λ x z. agree_trans w₀ w v x (f.kept x z) (r.only.others x (λ e. omega (arith, count i, same_yes i, ap (λ (l : List ℕ). among l i) f.list_is, among_append f.newer g.list i, z, ap (uses w₀ g.siblings first) e)));
          long = r.only.long ∙ f.long;
        }

    freeing_step : Freeing Pos w₀ first head₀ done₀ allocated g v todo₂ (get_or todo t 0) (suc done) t₂
    freeing_step = go f.waits f.waiting f.counted f.longer f.sized
      where
        go : (ks : List (Children Pos)) → Waiting g.view w todo (suc t) ks → ((x : ℕ) → waiting_uses w todo (suc t) ks x + among f.list x ≡ uses w₀ g.siblings first x + among g.list x)
            → length f.list + waiting_size ks ≡ length g.list + size g.siblings → done + waiting_size ks ≡ done₀ + size g.siblings → Freeing Pos w₀ first head₀ done₀ allocated g v todo₂ (get_or todo t 0) (suc done) t₂
        go [] a c l s = absurd a
        go (none ∷ ks) a c l s = absurd (a.1 a.0)
        go (child n b k ∷ ks) a c l s = node_step n b k ks a c l s

  -- The same at t as the code has it
  pub turn : (w todo : List ℕ) (head done t : ℕ) → 0 < t → Freeing Pos w₀ first head₀ done₀ allocated g w todo head done t → Turn Pos w₀ first head₀ done₀ allocated g w todo done (t - 1)
  turn w todo head done t l f = freeing_turn w todo head done (t - 1) (subst (λ (y : ℕ). Freeing Pos w₀ first head₀ done₀ allocated g w todo head done y) (omega arith) f)

  module _ (w todo : List ℕ) (head done t : ℕ) (l : 0 < t) (f : Freeing Pos w₀ first head₀ done₀ allocated g w todo head done t) (next below : ℕ) (next_is : next ≡ word w (get_or todo (t - 1) 0) SIBLING)
      (below_is : below ≡ word w (get_or todo (t - 1) 0) FIRST) (todo₁ : List ℕ) (t₁ : ℕ) (r₁ : Pushed todo (t - 1) next todo₁ t₁) where
    pub below_room : length todo ≡ plies → (length todo₁ ≡ plies) × ((below ≡ NONE → ⊥) → t₁ < plies)
    below_room e = (r₁.long ∙ e, λ z. omega (arith, r₁.level, (turn w todo head done t l f).first_room (λ q. z (below_is ∙ q))))

    pub step : (todo₂ : List ℕ) (t₂ : ℕ) → Pushed todo₁ t₁ below todo₂ t₂ → (v : List ℕ) → Released w v (get_or todo (t - 1) 0) head → (head' done' : ℕ) → head' ≡ get_or todo (t - 1) 0 → done' ≡ done + 1
        → Freeing Pos w₀ first head₀ done₀ allocated g v todo₂ head' done' t₂
    step todo₂ t₂ r₂ v r head' done' head_is done_is =
        let at : t ≡ suc (t - 1) = omega arith in
        let f' = subst (λ (y : ℕ). Freeing Pos w₀ first head₀ done₀ allocated g w todo head done y) at f in
        let r₁' = subst (λ (y : ℕ). Pushed todo (t - 1) y todo₁ t₁) next_is r₁ in
        let r₂' = subst (λ (y : ℕ). Pushed todo₁ t₁ y todo₂ t₂) below_is r₂ in
        let all = freeing_step w todo head done (t - 1) f' todo₁ t₁ r₁' todo₂ t₂ r₂' v r in
        let one : suc done ≡ done' = omega arith in
        subst (λ (y : ℕ). Freeing Pos w₀ first head₀ done₀ allocated g v todo₂ head' y t₂) one (subst (λ (y : ℕ). Freeing Pos w₀ first head₀ done₀ allocated g v todo₂ y (suc done) t₂) (sym head_is) all)
