-- The numbers of a list one of whose nodes changes, and a delta found in it. Rests on words and Asks.
use Rattle.std.specs.Prelude.{◌≡◌, Bool, Option, Some, None, is_some, ◌||◌, List, ◌∷◌, ℕ, zero, suc, ◌+◌, ◌≤◌, min, eqb, get_or}
use Rattle.std.proofs.Math.Path.{refl, sym}
use Rattle.std.proofs.Common.{◌∙◌, eqb-true}
use Rattle.std.proofs.Math.Bool.{true, false}
use Rattle.std.proofs.lemmas.Bool.{false≢true}
use native.Mathlib.Omega.{arith}
use Rattle.rules.specs.Rules.{Position}
use Rattle.machine.specs.Tree.{Node, Children, none, child, least_delta, sum_phi, append}
use Rattle.machine.specs.Machine.{Ancestor, first_that, holds_at}
use Rattle.machine.specs.Machine.{has_delta as delta_is}
use Rattle.words.specs.Packed.{View}
use Rattle.words.specs.Words.{NONE, SIBLING, word}
use Rattle.words.specs.Trees.{Part}
use Rattle.words.specs.Pool.{Line}
use Rattle.node_pool.specs.declared.NodeID.{NodeID}
use Rattle.node_pool.specs.Seeking.{Sought}
use Rattle.climb.specs.Asks.{has_delta}

-- One node of a list, and the others
module _ {Pos : Type 0} (n : Node Pos) (b c : Children Pos) where
  pub least_apart : (a : Children Pos) → least_delta (append a (child n b c)) ≡ min n.delta (least_delta (append a c))
  unfolding least_delta append
  least_apart none = refl
  least_apart (child x y a) = omega (arith, least_apart a)

  pub sum_apart : (a : Children Pos) → sum_phi (append a (child n b c)) ≡ n.phi + sum_phi (append a c)
  unfolding sum_phi append
  sum_apart none = refl
  sum_apart (child x y a) = omega (arith, sum_apart a)

  pub least_after : (a : Children Pos) → least_delta (append a (child n b c)) ≤ least_delta c
  unfolding least_delta append
  least_after none = omega arith
  least_after (child x y a) = omega (arith, least_after a)

-- The node at place d of the path, and those after it in the list that it is in
pub line_after : {Pos : Type 0} (K : View Pos) (w path : List ℕ) (d : ℕ) (a : Ancestor Pos) (up : List (Ancestor Pos)) → Line K w path d (a ∷ up) → Part K w a.after (word w (get_or path d 0) SIBLING) NONE
line_after K w path zero a up l = absurd l
line_after K w path (suc e) a up l = l.2

-- A list in which a delta is found has no greater least one
pub found_least : {Pos : Type 0} (x : ℕ) (ks : Children Pos) → has_delta x ks ≡ true → least_delta ks ≤ x
unfolding has_delta least_delta
found_least x none e = absurd (false≢true e)
found_least x (child n b ks) e = go (eqb n.delta x) refl e (found_least x ks)
  where
    go : (t : Bool) → eqb n.delta x ≡ t → (t || has_delta x ks) ≡ true → (has_delta x ks ≡ true → least_delta ks ≤ x) → min n.delta (least_delta ks) ≤ x
    go true p q f = omega (arith, eqb-true n.delta x p)
    go false p q f = omega (arith, f q)

-- A delta is found in a list exactly if the first child that has it is there
pub has_first : {Pos : Type 0} (x : ℕ) (ks : Children Pos) → holds_at (delta_is x) ks (first_that (delta_is x) ks) ≡ has_delta x ks
unfolding has_delta holds_at first_that
has_first x none = refl
has_first x (child n b ks) = go (eqb n.delta x) refl (has_first x ks)
  where
    go : (t : Bool) → eqb n.delta x ≡ t → holds_at (delta_is x) ks (first_that (delta_is x) ks) ≡ has_delta x ks
        → holds_at (delta_is x) (child n b ks) (first_that (delta_is x) (child n b ks)) ≡ has_delta x (child n b ks)
    go true p h = rw (p, first_that, holds_at, has_delta, p)
    go false p h = rw (p, first_that, holds_at, has_delta) h

-- So it is if the walk for it found a node
pub found : (K : View Position) (w : List ℕ) (first x : ℕ) (ks : Children Position) (r : Option NodeID) → Sought K w first (delta_is x) ks r → is_some r ≡ has_delta x ks
found K w first x ks (Some i) s = sym s.1 ∙ has_first x ks
found K w first x ks None s = sym (s (delta_is x)) ∙ has_first x ks
