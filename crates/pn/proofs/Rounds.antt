-- A round of a search, step by step, from an unsolved search u on: what stands after each step, and what the next one asks for. Rests on Stepping, Steps and the steps' contracts.
use Rattle.std.specs.Prelude.{◌≡◌, Bool, false, List, ℕ, ◌≤◌, ◌<◌, length}
use Rattle.std.proofs.Common.{◌∙◌}
use Rattle.rules.specs.Rules.{Position}
use Rattle.machine.specs.Game.{Game}
use Rattle.machine.specs.Tree.{solved}
use Rattle.machine.specs.Machine as machine
use Rattle.plain.specs.Plain.{game_of}
use Rattle.words.specs.Words.{Beyond}
use Rattle.words.proofs.Words.{beyond_trans}
use Rattle.prover.specs.declared.Prover.{Prover}
use Rattle.prover.specs.declared.Ascent.{Ascent}
use Rattle.prover.specs.Stands.{Stands, Searching}
use Rattle.descend.specs.Promises.{Descended}
use Rattle.room.specs.Shortness.{AtLeaf, Short}
use Rattle.expand.specs.Expandable.{Expandable, Expansion, Expands}
use Rattle.climb.specs.Asks.{Climbable, Climbs}
use Rattle.pn.specs.Results.{machine_settings}
use Rattle.pn.specs.Going.{policy_for}
use Rattle.pn.specs.Rounding.{to_search, tick_left, freed_fewer}
use Rattle.pn.specs.Steps.{to_room, short_is, to_expand, to_climb}
use Rattle.pn.specs.Stepping.{Unsolved, Stepped, stepped_on}
use Rattle.pn.specs.Ticked.{Ticked}
use Rattle.pn.specs.declared.Settings.{Settings}
use Rattle.pn.specs.declared.Running.{Running}

-- the state s stands in words of the same length, and no word past the capacity is changed
pub record Standing (s : Settings) (p : Position) (w v path ps : List ℕ) (y : Prover) (t : machine.State Position) : Type 0 where
  pub long : length v ≡ length w
  pub past : Beyond w v
  pub stands : Stands s.rule p.side v path ps y t

module _ {w path ps : List ℕ} {x : Running} {s : Settings} {root : ℕ} (u : Unsolved w path ps x s root) where
  abbrev p : Position
  p = u.from.start

  abbrev G : Game
  G = game_of s.rule p

  abbrev P : machine.Policy G
  P = policy_for s p

  abbrev leaf : machine.State Position
  leaf = machine.to_leaf G P u.from.going.at

  -- step 2
  unfoldable searching : Searching w path ps x.prover
  searching = to_search _ _ _ _ _ _ u.from.going u.from.ranges u.from.on

  pub searched : (g : Searching w path ps x.prover) × (solved (machine.root g.at) ≡ false)
  unfolding searching to_search
  searched = (searching, u.unsolved)

  pub at_leaf : {v path' ps' : List ℕ} {y : Prover} → Descended s.stay w path ps x.prover v path' ps' y → Standing s p w v path' ps' y leaf
  unfolding searching to_search
  at_leaf d = let h = d searching u.unsolved in record { long = h.long; past = h.past; stands = h.stands }

  module _ {w₁ path' ps' : List ℕ} {y : Prover} (h : Standing s p w w₁ path' ps' y leaf) where
    -- step 3
    unfoldable pub roomy : AtLeaf w₁ path' ps' y s.rule root
    roomy = to_room _ _ _ _ _ _ u.from.going u.from.ranges u.from.on u.unsolved u.more _ _ _ _ h.long h.stands _ u.from.root_is

    pub short : {b c : Bool} → ((path : List ℕ) → Short w₁ path ps' y s.rule root b) → b ≡ c → machine.short G P (machine_settings w s) leaf ≡ c
    unfolding roomy to_room
    short k e = short_is _ _ _ _ _ _ u.from.going u.from.ranges u.from.on u.unsolved u.more _ _ _ _ h.long h.stands _ (k _ roomy) ∙ e

    module _ (enough : machine.short G P (machine_settings w s) leaf ≡ false) where
      -- step 4
      unfoldable pub expandable : Expandable w₁ path' ps' y s.rule root
      expandable = to_expand _ _ _ _ _ _ u.from.going u.from.ranges u.from.on u.unsolved u.more _ _ _ _ h.long h.stands enough _ u.from.root_is

      module _ {w₂ : List ℕ} {e : Ascent} (long : length w₂ ≡ length w₁) (k : Expands w₁ path' ps' y s.rule root w₂ e) where
        pub grown : Expansion s.rule p.side leaf w₁ path' ps' w₂ e
        unfolding expandable to_expand
        grown = k expandable

        -- step 5
        unfoldable pub climbable : Climbable w₂ path' e.prover e.bounds.phi e.bounds.delta
        climbable = to_climb _ _ _ _ _ _ u.from.going u.from.ranges u.from.on u.unsolved u.more _ _ _ _ h.long h.stands enough _ _ grown

        pub climbed : {v : List ℕ} {next : Prover} → length v ≡ length w₂ → Climbs w₂ path' e.prover e.bounds.phi e.bounds.delta v next
            → Standing s p w v path' ps' next (machine.round G P u.from.going.at)
        unfolding climbable to_climb machine.round
        climbed {v} up_long up =
            let c = up climbable in
            record {
              long = up_long ∙ long ∙ h.long;
              past = beyond_trans w w₂ v (long ∙ h.long) (beyond_trans w w₁ w₂ h.long h.past grown.past) c.past;
              stands = c.stands;
            }

      -- step 6
      module _ {v : List ℕ} {next : Prover} (up : Standing s p w v path' ps' next (machine.round G P u.from.going.at)) where
        pub counter : (0 < x.tick) × (next.pool.freed ≤ next.pool.allocated)
        counter = (
          tick_left _ _ _ _ _ _ u.from.going u.from.ranges u.from.on u.unsolved u.more enough,
          freed_fewer _ _ _ _ _ _ u.from.going u.from.ranges u.from.on u.unsolved u.more enough _ _ _ _ up.stands,
        )

        pub counted : {r : Running} → Ticked next x.tick s r → Stepped p s x w v path' ps' r
        counted t = stepped_on u enough _ _ _ _ _ up.long up.past up.stands t
