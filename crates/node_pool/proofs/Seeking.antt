-- Laws of specs/Seeking.antt: the walk of `find`. Rests on words' walks.
use Rattle.std.specs.Prelude.{◌≡◌, List, Bool, true, false, ℕ, ◌≤◌, Some, None}
use Rattle.std.proofs.Common.{sym, ◌∙◌}
use Rattle.rules.specs.Rules.{Position}
use Rattle.machine.specs.Tree.{Node, Children, size}
use Rattle.machine.specs.Place.{pool_max}
use Rattle.words.specs.Packed.{View}
use Rattle.words.specs.Words.{NONE, SIBLING, word}
use Rattle.words.specs.Trees.{Part}
use Rattle.words.specs.Walks.{Looking}
use Rattle.words.proofs.Walks.{looking_start, looking_next, looking_found, looking_none, chosen_holds}
use Rattle.node_pool.specs.declared.NodeID.{NodeID}
use Rattle.node_pool.specs.Seeking.{Agree, Seeks}

-- Each list is walked as far as i, and none passed the test
abbrev pub Seeking : (NodeID → Bool → Type 0) → List ℕ → ℕ → ℕ → Type 0
Seeking Says w first i = (K : View Position) (ks : Children Position) (test : Node Position → Bool) → Agree K w Says test → Part K w ks first NONE → size ks ≤ pool_max → Looking K w first test ks i

module _ (Says : NodeID → Bool → Type 0) (w : List ℕ) (first : ℕ) where
  pub seeking_start : Seeking Says w first first
  seeking_start K ks test a p l = looking_start K w first test ks p l

  pub seeking_next : (i : NodeID) (j : ℕ) → (i.0 ≡ NONE → ⊥) → Says i false → j ≡ word w i.0 SIBLING → Seeking Says w first i.0 → Seeking Says w first j
  seeking_next i j z f e s K ks test a p l = rw e (looking_next K w first test ks i.0 z (λ m h. sym (a m i false h f)) (s K ks test a p l))

  pub seeking_found : (i : NodeID) → (i.0 ≡ NONE → ⊥) → Says i true → Seeking Says w first i.0 → Seeks Says w first (Some i)
  seeking_found i z t s K ks test a p l =
      let f = looking_found K w first test ks i.0 z (λ m h. sym (a m i true h t)) (s K ks test a p l) in
      (f, chosen_holds K w first ks _ i.0 f test ∙ sym (a f.node i true f.part.0 t))

  pub seeking_none : (i : NodeID) → i.0 ≡ NONE → Seeking Says w first i.0 → Seeks Says w first None
  seeking_none i e s K ks test a p l t = looking_none K w first test ks i.0 e (s K ks test a p l) t
