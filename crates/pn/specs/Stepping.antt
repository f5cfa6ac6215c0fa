-- What a step and a round of a search ask for and come to. Rests on Rounding and Steps.
use Rattle.std.specs.Prelude.{◌≡◌, refl, Bool, true, false, Some, is_some, IsNone, cond, ◌||◌, List, ℕ, suc, ◌-◌, ◌<◌, eqb, length, get_or}
use Rattle.std.proofs.Common.{ap, ◌∙◌, arith}
use Rattle.rules.specs.Rules.{Position}
use Rattle.rules.specs.Record.{side_bit}
use Rattle.machine.specs.Game.{Game}
use Rattle.machine.specs.Tree.{solved}
use Rattle.machine.specs.Machine as machine
use Rattle.plain.specs.Plain.{game_of}
use Rattle.words.specs.Words.{PHI, DELTA, word, Beyond}
use Rattle.prover.specs.declared.Prover.{Prover}
use Rattle.prover.specs.Stands.{Stands}
use Rattle.pn.specs.Results.{machine_settings, Solved, Budget, Pool}
use Rattle.pn.specs.Going.{Going, Ranges, policy_for, solved_is}
use Rattle.pn.specs.Ticked.{Ticked}
use Rattle.pn.specs.Rounding.{goes_after, more_expanded, stop_solved, stop_spent, stop_short}
use Rattle.pn.specs.declared.Settings.{Settings}
use Rattle.pn.specs.declared.Running.{Running}
use Rattle.pn.specs.declared.Cause.{Cause}

-- a search that has not stopped stands there; root is its start's side to move
pub record Steppable (w path ps : List ℕ) (x : Running) (s : Settings) (root : ℕ) : Type 0 where
  pub start : Position
  pub going : Going start s w path ps x
  pub ranges : Ranges w s
  pub on : IsNone x.stop
  pub root_is : root ≡ side_bit start.side

-- its root is not solved, and its budget not spent
pub record Unsolved (w path ps : List ℕ) (x : Running) (s : Settings) (root : ℕ) : Type 0 where
  pub from : Steppable w path ps x s root
  pub unsolved : solved (machine.root from.going.at) ≡ false
  pub more : x.prover.expanded ≡ s.budget → ⊥

-- the steps that are left at most
abbrev pub left : Running → Settings → ℕ
left x s = cond (is_some x.stop) 0 (suc (s.budget - x.prover.expanded))

-- the search of p goes on or has ended, with fewer steps left, and no word past the capacity is changed
pub record Stepped (p : Position) (s : Settings) (x : Running) (w v path ps : List ℕ) (r : Running) : Type 0 where
  pub going : Going p s v path ps r
  pub past : Beyond w v
  pub less : left r s < left x s

-- a search that stops has nothing left
less_stopped : (x r : Running) (s : Settings) → IsNone x.stop → (c : Cause) → r.stop ≡ Some c → left r s < left x s
less_stopped x r s ex c er =
    omega (arith, ap (λ b. cond b 0 (suc (s.budget - x.prover.expanded))) ex, ap (λ b. cond b 0 (suc (s.budget - r.prover.expanded))) (ap is_some er))

less_on : (x r : Running) (s : Settings) → IsNone x.stop → r.prover.expanded ≡ suc x.prover.expanded → x.prover.expanded < s.budget → left r s < left x s
less_on x r s ex e l = go (is_some r.stop) refl
  where
    here : left x s ≡ suc (s.budget - x.prover.expanded)
    here = ap (λ b. cond b 0 (suc (s.budget - x.prover.expanded))) ex

    go : (b : Bool) → is_some r.stop ≡ b → left r s < left x s
    go true q = omega (arith, here, ap (λ b. cond b 0 (suc (s.budget - r.prover.expanded))) q)
    go false q = omega (arith, here, ap (λ b. cond b 0 (suc (s.budget - r.prover.expanded))) q)

module _ {w path ps : List ℕ} {x : Running} {s : Settings} {root : ℕ} (g : Steppable w path ps x s root) where
  -- the root is solved, or not, as its two words say
  pub root_solved : (phi delta : ℕ) (b : Bool) → phi ≡ word w (get_or path 0 0) PHI → delta ≡ word w (get_or path 0 0) DELTA → b ≡ (eqb phi 0 || eqb delta 0)
      → solved (machine.root g.going.at) ≡ b
  root_solved phi delta b ep ed eb = solved_is g.start s w path ps x g.going ∙ rw (eb, ep, ed)

  -- what a round asks for
  unfoldable pub to_round : solved (machine.root g.going.at) ≡ false → (x.prover.expanded ≡ s.budget → ⊥) → Unsolved w path ps x s root
  to_round e n = record { from = g; unsolved = e; more = n }

  pub stepped_solved : solved (machine.root g.going.at) ≡ true → (r : Running) → r.prover ≡ x.prover → r.stop ≡ Some Solved → Stepped g.start s x w w path ps r
  stepped_solved e r ep es = record {
    going = stop_solved g.start s w path ps x g.going g.ranges g.on e r ep es;
    past = λ j l. refl;
    less = less_stopped x r s g.on Solved es;
  }

  pub stepped_spent : x.prover.expanded ≡ s.budget → solved (machine.root g.going.at) ≡ false
      → (r : Running) → r.prover ≡ x.prover → r.tick ≡ x.tick → r.stop ≡ Some Budget → Stepped g.start s x w w path ps r
  stepped_spent e u r ep et es = record {
    going = stop_spent g.start s w path ps x g.going g.ranges g.on e u r ep et es;
    past = λ j l. refl;
    less = less_stopped x r s g.on Budget es;
  }

module _ {w path ps : List ℕ} {x : Running} {s : Settings} {root : ℕ} (u : Unsolved w path ps x s root) where
  abbrev G : Game
  G = game_of s.rule u.from.start

  abbrev P : machine.Policy G
  P = policy_for s u.from.start

  abbrev S : machine.Settings
  S = machine_settings w s

  pub stepped_short : (w' path' ps' : List ℕ) (r : Running) → length w' ≡ length w → Beyond w w'
      → Stands s.rule u.from.start.side w' path' ps' r.prover (machine.to_leaf G P u.from.going.at)
      → machine.short G P S (machine.to_leaf G P u.from.going.at) ≡ true
      → r.stop ≡ Some Pool → Stepped u.from.start s x w w' path' ps' r
  stepped_short w' path' ps' r long past st t es = record {
    going = stop_short u.from.start s w path ps x u.from.going u.from.ranges u.from.on u.unsolved u.more w' path' ps' r long st t es;
    past = past;
    less = less_stopped x r s u.from.on Pool es;
  }

  pub stepped_on : machine.short G P S (machine.to_leaf G P u.from.going.at) ≡ false
      → (w' path' ps' : List ℕ) (next : Prover) (r : Running) → length w' ≡ length w → Beyond w w'
      → Stands s.rule u.from.start.side w' path' ps' next (machine.round G P u.from.going.at)
      → Ticked next x.tick s r → Stepped u.from.start s x w w' path' ps' r
  stepped_on enough w' path' ps' next r long past st t =
      let p = u.from.start in
      let g = u.from.going in
      let l = (g.onward u.from.on).0 in
      record {
        going = goes_after p s w path ps x g u.from.ranges u.from.on u.unsolved u.more enough w' path' ps' next r long st t;
        past = past;
        less = less_on x r s u.from.on (more_expanded p s w path ps x g u.from.ranges u.from.on u.unsolved u.more enough w' path' ps' next r long st t)
            (omega (arith, l.0, g.stands.expanded_is, u.more));
      }
