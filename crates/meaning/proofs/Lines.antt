-- The lines of a tree's open leaves name them. Rests on Leaves, and on Numbers, Reached and Sequences of the machine.
use Rattle.std.specs.Prelude.{◌≡◌, ◌⊎◌, Bool, ℕ}
use Rattle.std.proofs.Math.Path.{refl, subst}
use Rattle.std.proofs.Math.Logic.{inl, inr}
use mathlib.Core.List.Memᴰ
use mathlib.Core.List.{List, [], ◌∷◌, map, Memᴰ}
use Rattle.std.proofs.Math.Bool.{true, false, cond}
use native.Mathlib.Omega.{arith}
use Rattle.std.proofs.Math.ListN.{length, length-append, length-map}
use Rattle.machine.specs.Game.{Game}
use Rattle.machine.specs.Tree.{Node, solved, Children, none, child}
use Rattle.machine.specs.Value.{Distinct}
use Rattle.machine.proofs.Sequences.{distinct_map, distinct_append}
use Rattle.machine.specs.Numbers.{HasMove, ByMoves, NoMoveTwice, NodeOk, open_leaf, inner, won, lost, Good, tally, open_at, open_leaves}
use Rattle.machine.proofs.Numbers.{unsolved, zero_solved}
use Rattle.machine.proofs.Reached.{here, beneath, further}
use Rattle.meaning.specs.Meaning.{Line, lines_at, lines_in, open_lines}
use Rattle.meaning.specs.Leaves.{position_after, NamesLeaf, LeavesNamed}

module _ {Pos : Type 0} where
  -- The three kinds of node
  pub lines_solved : (n : Node Pos) (below : List Line) → solved n ≡ true → lines_at n below ≡ []
  unfolding lines_at
  lines_solved n below e = rw e

  pub lines_inner : (n : Node Pos) (below : List Line) → solved n ≡ false → n.expanded ≡ true → lines_at n below ≡ below
  unfolding lines_at
  lines_inner n below e x = rw (e, x)

  pub lines_leaf : (n : Node Pos) (below : List Line) → solved n ≡ false → n.expanded ≡ false → lines_at n below ≡ [] ∷ []
  unfolding lines_at
  lines_leaf n below e x = rw (e, x)

  -- A line in a list of children begins with the move of one of them
  pub record StartsWith (ks : Children Pos) (l : Line) : Type 0 where
    pub move : ℕ
    pub rest : Line
    pub is : move ∷ rest ≡ l
    pub has : HasMove move ks

  pub starts_with : (ks : Children Pos) (l : Line) → Memᴰ l (lines_in ks) → StartsWith ks l
  unfolding lines_in
  starts_with none l i = absurd (Memᴰ.not-nil i)
  starts_with (child n b ks) l i = go (Memᴰ.append_cases (map (λ r. n.move ∷ r) (lines_at n (lines_in b))) i) (λ j. starts_with ks l j)
    where
      go : Memᴰ l (map (λ r. n.move ∷ r) (lines_at n (lines_in b))) ⊎ Memᴰ l (lines_in ks) → (Memᴰ l (lines_in ks) → StartsWith ks l) → StartsWith (child n b ks) l
      go (inl j) h = let r = Memᴰ.of_map (λ (x : Line). n.move ∷ x) (lines_at n (lines_in b)) j in record { move = n.move; rest = r.0; is = r.2; has = inl refl }
      go (inr j) h = let r = h j in record { move = r.move; rest = r.rest; is = r.is; has = inr r.has }

  -- They are as many as the open leaves
  pub lines_length : (ks : Children Pos) → length (lines_in ks) ≡ open_leaves ks
  unfolding lines_in lines_at tally open_at
  lines_length none = refl
  lines_length (child n b ks) =
      omega (
        arith,
        length-append (map (λ (l : Line). n.move ∷ l) (lines_at n (lines_in b))) (lines_in ks),
        length-map (lines_at n (lines_in b)) (λ (l : Line). n.move ∷ l),
        at (solved n) n.expanded (lines_length b),
        lines_length ks,
      )
    where
      at : (s x : Bool) → length (lines_in b) ≡ open_leaves b → length (cond s [] (cond x (lines_in b) ([] ∷ []))) ≡ cond s 0 (cond x (open_leaves b) 1)
      at true x h = refl
      at false true h = h
      at false false h = refl

module _ (G : Game) where
  -- None stands twice
  pub distinct_at : (n : Node G.Pos) (b : Children G.Pos) → NodeOk G n b → (NoMoveTwice b → Distinct (lines_in b)) → Distinct (lines_at n (lines_in b))
  distinct_at n b (open_leaf o) f = rw (lines_leaf n (lines_in b) (unsolved n (omega (arith, o.phi_is)) (omega (arith, o.delta_is))) o.closed) (Memᴰ.not-nil, tt)
  distinct_at n b (inner i) f = rw (lines_inner n (lines_in b) (unsolved n i.phi_pos i.delta_pos) i.opened) (f i.no_move_twice)
  distinct_at n b (won e p d v) f = rw (lines_solved n (lines_in b) (zero_solved n (inl p))) tt
  distinct_at n b (lost e d p v) f = rw (lines_solved n (lines_in b) (zero_solved n (inr d))) tt

  pub distinct_in : (ks : Children G.Pos) → Good G ks → NoMoveTwice ks → Distinct (lines_in ks)
  unfolding lines_in
  distinct_in none g a = tt
  distinct_in (child n b ks) g a =
      let at = distinct_at n b g.0 (distinct_in b g.1) in
      distinct_append (map (λ l. n.move ∷ l) (lines_at n (lines_in b))) (lines_in ks) (distinct_map n.move (lines_at n (lines_in b)) at) (distinct_in ks g.2 a.1) apart
    where
      apart : (l : Line) → Memᴰ l (map (λ r. n.move ∷ r) (lines_at n (lines_in b))) → Memᴰ l (lines_in ks) → ⊥
      apart l i j =
          let x = Memᴰ.of_map (λ (r : Line). n.move ∷ r) (lines_at n (lines_in b)) i in
          let y = starts_with ks l j in
          let e : y.move ≡ n.move = cc (x.2, y.is) in
          a.0 (subst (λ (m : ℕ). HasMove m ks) e y.has)

module _ (G : Game) where
  -- Each names an open leaf: of a node, from the lines below it; and in a list of children of p
  names_at : (n : Node G.Pos) (b ks : Children G.Pos) → NodeOk G n b → (ByMoves G n.pos b → (l : Line) → Memᴰ l (lines_in b) → NamesLeaf G b n.pos l)
      → (l : Line) → Memᴰ l (lines_at n (lines_in b)) → NamesLeaf G (child n b ks) n.pos l
  unfolding position_after
  names_at n b ks (open_leaf o) f l i =
      let u = unsolved n (omega (arith, o.phi_is)) (omega (arith, o.delta_is)) in
      go (subst (Memᴰ l) (lines_leaf n (lines_in b) u o.closed) i) u
    where
      go : Memᴰ l ([] ∷ []) → solved n ≡ false → NamesLeaf G (child n b ks) n.pos l
      go (Memᴰ.head e) u = rw e (record { legal = tt; node = n; below = b; there = here; at_end = refl; not_solved = u; unexpanded = o.closed })
      go (Memᴰ.tail j) u = absurd (Memᴰ.not-nil j)
  names_at n b ks (inner j) f l i =
      let r = f j.by_moves l (subst (Memᴰ l) (lines_inner n (lines_in b) (unsolved n j.phi_pos j.delta_pos) j.opened) i) in
      record { legal = r.legal; node = r.node; below = r.below; there = beneath r.there; at_end = r.at_end; not_solved = r.not_solved; unexpanded = r.unexpanded }
  names_at n b ks (won e p d v) f l i = absurd (Memᴰ.not-nil (subst (Memᴰ l) (lines_solved n (lines_in b) (zero_solved n (inl p))) i))
  names_at n b ks (lost e d p v) f l i = absurd (Memᴰ.not-nil (subst (Memᴰ l) (lines_solved n (lines_in b) (zero_solved n (inr d))) i))

  pub names_in : (p : G.Pos) (ks : Children G.Pos) → Good G ks → ByMoves G p ks → (l : Line) → Memᴰ l (lines_in ks) → NamesLeaf G ks p l
  unfolding lines_in position_after
  names_in p none g m l i = absurd (Memᴰ.not-nil i)
  names_in p (child n b ks) g m l i =
      go (Memᴰ.append_cases (map (λ r. n.move ∷ r) (lines_at n (lines_in b))) i) (names_at n b ks g.0 (λ w. names_in n.pos b g.1 w)) (names_in p ks g.2 m.2 l)
    where
      go : Memᴰ l (map (λ r. n.move ∷ r) (lines_at n (lines_in b))) ⊎ Memᴰ l (lines_in ks)
          → ((r : Line) → Memᴰ r (lines_at n (lines_in b)) → NamesLeaf G (child n b ks) n.pos r) → (Memᴰ l (lines_in ks) → NamesLeaf G ks p l) → NamesLeaf G (child n b ks) p l
      go (inl j) f h =
          let x = Memᴰ.of_map (λ (r : Line). n.move ∷ r) (lines_at n (lines_in b)) j in
          let r : NamesLeaf G (child n b ks) (G.play p n.move) x.0 = subst (λ (q : G.Pos). NamesLeaf G (child n b ks) q x.0) m.1 (f x.0 x.1) in
          subst (NamesLeaf G (child n b ks) p) x.2
          (record { legal = (m.0, r.legal); node = r.node; below = r.below; there = r.there; at_end = r.at_end; not_solved = r.not_solved; unexpanded = r.unexpanded })
      go (inr j) f h =
          let r = h j in
          record { legal = r.legal; node = r.node; below = r.below; there = further r.there; at_end = r.at_end; not_solved = r.not_solved; unexpanded = r.unexpanded }

pub tree_named : (G : Game) (n : Node G.Pos) (b : Children G.Pos) → NodeOk G n b → Good G b → LeavesNamed G (child n b none) n.pos
unfolding open_lines lines_in
tree_named G n b k g = record {
  as_many = omega (
    arith,
    lines_length (child n b none),
    length-append (map (λ (l : Line). n.move ∷ l) (lines_at n (lines_in b))) [],
    length-map (lines_at n (lines_in b)) (λ (l : Line). n.move ∷ l),
  );
  none_twice = distinct_at G n b k (distinct_in G b g);
  names = names_at G n b none k (names_in G n.pos b g);
}
