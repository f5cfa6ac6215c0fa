-- Walks along a list of siblings: how long they are, the numbers worked out anew on the way, and the first child that passes a test. Rests on Trees.
use Rattle.std.specs.Prelude.{◌≡◌, List, Bool}
use Prim.Native.Nat.{ℕ, suc, ◌+◌, ◌≤◌, min}
use Rattle.machine.specs.Tree.{Node, u32_max, Children, none, child, size, least_delta, sum_phi, append}
use Rattle.machine.specs.Machine.{first_that}
use Rattle.machine.specs.Place.{pool_max}
use Rattle.words.specs.Packed.{View}
use Rattle.words.specs.Words.{NONE}
use Rattle.words.specs.Trees.{Part}

unfoldable pub len : {Pos : Type 0} → Children Pos → ℕ  -- how many children a list has, those below them not counted
len none = 0
len (child n b ks) = suc (len ks)

-- What a walk asks for
pub record Walkable {Pos : Type 0} (K : View Pos) (w : List ℕ) (i : ℕ) : Type 0 where
  pub list : Children Pos
  pub part : Part K w list i NONE
  pub few : size list ≤ pool_max

module _ {Pos : Type 0} (K : View Pos) (w : List ℕ) (ks : Children Pos) where
  pub record Summing (phi delta i : ℕ) : Type 0 where
    pub rest : Children Pos
    pub part : Part K w rest i NONE
    pub few : size rest ≤ pool_max
    pub least : min phi (least_delta rest) ≡ least_delta ks
    pub sum : min (delta + sum_phi rest) u32_max ≡ min (sum_phi ks) u32_max

-- The child at a place of the list is at number i, with those before and after it
pub record Chosen {Pos : Type 0} (K : View Pos) (w : List ℕ) (first : ℕ) (ks : Children Pos) (place i : ℕ) : Type 0 where
  pub before : Children Pos
  pub node : Node Pos
  pub below : Children Pos
  pub after : Children Pos
  pub passed : Part K w before first i
  pub part : Part K w (child node below after) i NONE
  pub whole : append before (child node below after) ≡ ks
  pub place_is : place ≡ len before

module _ {Pos : Type 0} (K : View Pos) (w : List ℕ) (first : ℕ) (test : Node Pos → Bool) (ks : Children Pos) where
  -- At number i: those before it are passed, and the first that passes the test is among the rest, if there is one
  pub record Looking (i : ℕ) : Type 0 where
    pub before : Children Pos
    pub rest : Children Pos
    pub passed : Part K w before first i
    pub part : Part K w rest i NONE
    pub few : size rest ≤ pool_max
    pub whole : append before rest ≡ ks
    pub place_is : first_that test ks ≡ len before + first_that test rest
