-- A whole search: what it asks for, what it comes to, and its loop. Rests on Beginning and Stepping.
use Rattle.std.specs.Prelude.{◌≡◌, refl, None, IsSome, IsNone, List, ℕ, ◌-◌, ◌<◌, length}
use Rattle.std.proofs.Common.{ap, ◌∙◌, subst, arith}
use Rattle.std.proofs.lemmas.Option.{none-some}
use Rattle.rules.specs.Rules.{Position}
use Rattle.rules.specs.Record.{Accepted, side_bit}
use Rattle.game.specs.Words.{Holds}
use Rattle.machine.specs.Machine as machine
use Rattle.machine.proofs.Rounds.{start_ok}
use Rattle.plain.specs.Plain.{game_of, search_of}
use Rattle.plain.proofs.Laws.{lawful, left_most}
use Rattle.words.specs.Words.{capacity, Beyond}
use Rattle.words.proofs.Words.{beyond_trans}
use Rattle.prover.specs.declared.Prover.{Prover}
use Rattle.pn.specs.Ticks.{tick_start}
use Rattle.pn.specs.Results.{machine_settings, result_of}
use Rattle.pn.specs.Going.{Going, Ranges, policy_for, settings_long}
use Rattle.pn.specs.Beginning.{Startable, Begun}
use Rattle.pn.specs.Stepping.{Steppable, Stepped, left}
use Rattle.pn.specs.declared.Settings.{Settings}
use Rattle.pn.specs.declared.Running.{Running}
use Rattle.pn.specs.declared.SearchResult.{SearchResult}

-- an accepted position in g, a pool and settings within their ranges
pub record Searchable (g w : List ℕ) (s : Settings) : Type 0 where
  pub startable : Startable g w
  pub ranges : Ranges w s

-- the plain machine's result in every field, and no word past the capacity is changed
pub record Searched (p : Position) (s : Settings) (w v : List ℕ) (r : SearchResult) : Type 0 where
  pub result_is : result_of r ≡ search_of s.rule (machine_settings w s) p
  pub past : Beyond w v

-- the run began with words w: the search of p stands there now, and no word past the capacity was changed
pub record Looping (p : Position) (s : Settings) (w v path ps : List ℕ) (x : Running) : Type 0 where
  pub going : Going p s v path ps x
  pub past : Beyond w v

-- it has stopped, whichever position it was begun with
abbrev pub Ran : (w path ps : List ℕ) (x : Running) (s : Settings) (attacker : ℕ) (v path' ps' : List ℕ) (r : Running) → Type 0
Ran w path ps x s attacker v path' ps' r = IsSome r.stop × ((g : Steppable w path ps x s attacker) → Looping g.start s w v path' ps' r)

-- it has stopped, whichever position g holds, from its root on
abbrev pub Started : (g : List ℕ) (s : Settings) (w v path ps : List ℕ) (r : Running) → Type 0
Started g s w v path ps r = IsSome r.stop × ((p : Position) → Holds p g 0 → Accepted p → Looping p s w v path ps r)

-- the loop, for whichever position it was begun with
pub record Loop (w path₀ ps₀ : List ℕ) (x₀ : Running) (s : Settings) (root : ℕ) (v path ps : List ℕ) (x : Running) : Type 0 where
  pub from : Steppable w path₀ ps₀ x₀ s root
  pub long : length v ≡ length w
  pub each : (g : Steppable w path₀ ps₀ x₀ s root) → Looping g.start s w v path ps x

whole : (n : ℕ) → n - 0 ≡ n
whole n = omega arith

ranges_long : (w v : List ℕ) (s : Settings) → length v ≡ length w → Ranges w s → Ranges v s
ranges_long w v s long r = record {
  some = omega (arith, r.some);
  few = omega (arith, r.few);
  interval_some = r.interval_some;
  countable = r.countable;
  rule_few = r.rule_few;
  stay_is_in_range = r.stay_is_in_range;
}

-- the state with which the loop begins
pub to_loop : (p : Position) (s : Settings) (w v path ps : List ℕ) (y : Prover) (root : ℕ) → Accepted p → Ranges w s → root ≡ side_bit p.side → Begun s.rule p w v path ps y
    → (g : Steppable v path ps (record { prover = y; tick = s.interval; stop = None }) s root) × (g.start ≡ p)
unfolding machine.start machine.ends
to_loop p s w v path ps y root a r er b = (
  record {
    start = p;
    going = record {
      at = machine.start (game_of s.rule p) p;
      stands = b.stands;
      ok = start_ok (game_of s.rule p) (lawful s.rule p.side) p (capacity v) (omega (arith, r.some, b.long));
      few = left_most p a;
      allocated_most = omega arith;
      onward = λ q. (
        (omega arith, ap (λ k. machine.run (game_of s.rule p) (policy_for s p) (machine_settings v s) k (machine.start (game_of s.rule p) p)) (whole s.budget)),
        tick_start s.interval,
      );
      ended = λ c q. absurd (none-some c q);
      spent = λ q. absurd (none-some _ q);
    };
    ranges = ranges_long w v s b.long r;
    on = refl;
    root_is = er;
  },
  refl,
)

pub loop_start : (w path ps : List ℕ) (x : Running) (s : Settings) (root : ℕ) → Steppable w path ps x s root → Loop w path ps x s root w path ps x
loop_start w path ps x s root g = record { from = g; long = refl; each = λ k. record { going = k.going; past = λ j l. refl } }

module _ {w path₀ ps₀ : List ℕ} {x₀ : Running} {s : Settings} {root : ℕ} (v path ps : List ℕ) (x : Running) (l : Loop w path₀ ps₀ x₀ s root v path ps x) where
  -- what a step asks for, for a position the loop was begun with
  steppable : (g : Steppable w path₀ ps₀ x₀ s root) → IsNone x.stop → (k : Steppable v path ps x s root) × (k.start ≡ g.start)
  steppable g on = (record { start = g.start; going = (l.each g).going; ranges = ranges_long w v s l.long g.ranges; on = on; root_is = g.root_is }, refl)

  pub loop_step : IsNone x.stop → Steppable v path ps x s root
  loop_step on = (steppable l.from on).0

  module _ (on : IsNone x.stop) (u path' ps' : List ℕ) (y : Running) (stepped : (k : Steppable v path ps x s root) → Stepped k.start s x v u path' ps' y) where
    pub loop_less : left y s < left x s
    loop_less = (stepped (loop_step on)).less

    pub loop_next : length u ≡ length v → Loop w path₀ ps₀ x₀ s root u path' ps' y
    loop_next long = record {
      from = l.from;
      long = long ∙ l.long;
      each = λ g.
          let k = steppable g on in
          let t : Stepped g.start s x v u path' ps' y = subst (λ p. Stepped p s x v u path' ps' y) k.1 (stepped k.0) in
          record { going = t.going; past = beyond_trans w v u l.long (l.each g).past t.past };
    }

-- from the root on, with the pool as it was lent
pub started : (p : Position) (s : Settings) (w v u path₀ ps₀ path ps : List ℕ) (y : Prover) (x : Running) (root : ℕ)
    → Accepted p → Ranges w s → root ≡ side_bit p.side → Begun s.rule p w v path₀ ps₀ y
    → ((g : Steppable v path₀ ps₀ (record { prover = y; tick = s.interval; stop = None }) s root) → Looping g.start s v u path ps x)
    → Looping p s w u path ps x
started p s w v u path₀ ps₀ path ps y x root a ranges er b each =
    let k = to_loop p s w v path₀ ps₀ y root a ranges er b in
    let here : Looping p s v u path ps x = subst (λ q. Looping q s v u path ps x) k.1 (each k.0) in
    record { going = here.going; past = beyond_trans w v u b.long b.past here.past }

-- at the end
pub search_done : (p : Position) (s : Settings) (w v path ps : List ℕ) (x : Running) (r : SearchResult) → length v ≡ length w → Looping p s w v path ps x
    → ((q : Position) (ps' : List ℕ) → Going q s v path ps' x → result_of r ≡ search_of s.rule (machine_settings v s) q) → Searched p s w v r
search_done p s w v path ps x r long here result = record {
  result_is = result p ps here.going ∙ ap (λ (T : machine.Settings). search_of s.rule T p) (settings_long w v s long);
  past = here.past;
}
