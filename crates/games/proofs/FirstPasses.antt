-- The first pass from one game to the next, and what both passes need of a part. Rests on Playing, Parts and the passes' laws.
use Rattle.std.specs.Prelude.{◌≡◌, refl, List, ℕ, suc, ◌+◌, ◌*◌, ◌-◌, ◌/◌, ◌≤◌, ◌<◌, length, get_or, take, drop, set, Result, Ok}
use Rattle.std.proofs.Common.{ap, sym, ◌∙◌, subst, arith, length-set, get_or-set_same, get_or-set_other}
use Rattle.std.proofs.Math.Decide.{ℕ_discrete}
use borrow.Rule.Slice.PartMut.{put_mid, mid_len, same_len_mid}
use Rattle.rules.specs.Rules.{Position}
use Rattle.rules.specs.Record.{Accepted, refusal, position_of}
use Rattle.rules.proofs.Checks.{loads, loads_accepted}
use Rattle.refusals.specs.Numbers.{refusal_code}
use Rattle.refusals.specs.declared.Refusal.{Refusal}
use Rattle.refusals.proofs.Passes.{is_ok}
use Rattle.game.specs.declared.Game.{Game}
use Rattle.game.specs.Words.{Holds}
use Rattle.words.specs.Words.{capacity}
use Rattle.passes.specs.Passes.{total, first, spent, unspent_at}
use Rattle.passes.specs.Laws.{Bounded}
use Rattle.passes.proofs.Laws.{total_last, total_one, spent_within}
use Rattle.pn.specs.Going.{Ranges}
use Rattle.pn.specs.Searches.{Searchable}
use Rattle.resume.specs.Keeping.{Stopped}
use Rattle.resume.specs.declared.Kept.{Kept}
use Rattle.resume.specs.Lone.{lone, lone_bounded}
use Rattle.resume.specs.Passing.{first_expanded}
use Rattle.stay.specs.Margin.{stay_of}
use Rattle.games_checks.specs.Checks.{record_at}
use Rattle.games_checks.specs.declared.Common.{Common}
use Rattle.games.specs.Parts.{cut}
use Rattle.games.proofs.Parts.{next_part, cut_put, cut_before, drop_after}
use Rattle.games.specs.Playing.{settings_of, game_of, positions_of, Shaped, Playable, StoppedAt, First, FirstPassed}

module _ {shares : List ℕ} {words n size : ℕ} {c : Common} (g : Shaped shares words n size c) where
  -- each game expands no more than its budget
  pub games_bounded : (pos : ℕ → Position) (k : ℕ) → Bounded (game_of pos shares size c k)
  games_bounded pos k = lone_bounded c.rule (size / 5) c.limit c.interval (stay_of c.stay) (get_or shares k 0) (pos k) (record { some = g.some; most = g.most })

  -- part i of words as long
  module _ (w : List ℕ) (long : length w ≡ words) (i : ℕ) (l : i < n) where
    pub part_fits : i * size + size ≤ length w
    part_fits = omega (arith, next_part i n size l, g.fits)

    pub part_long : length (cut (i * size) (i * size + size) w) ≡ size
    part_long = let q : i * size + size - i * size ≡ size = omega arith in mid_len (i * size) (i * size + size) w part_fits ∙ q

    pub part_nodes : capacity (cut (i * size) (i * size + size) w) ≡ size / 5
    part_nodes = ap (λ k. k / 5) part_long

    pub part_ranges : Ranges (cut (i * size) (i * size + size) w) (settings_of c (get_or shares i 0))
    part_ranges = let q : 0 + i ≡ i = omega arith in record {
      some = omega (arith, part_nodes, g.some);
      few = omega (arith, part_nodes, g.most);
      interval_some = g.interval_some;
      countable = omega (arith, ap (λ k. get_or shares k 0) q, total_one (λ k. get_or shares k 0) 0 n i l, g.shared, g.allowance_most);
      rule_few = g.rule_few;
      stay_is_in_range = g.stay_is_in_range;
    }

    -- what a game expanded in the first pass, in whichever words of its part
    pub part_expanded : (pos : ℕ → Position) (v : List ℕ) (k : Kept) → length v ≡ length (cut (i * size) (i * size + size) w)
        → Stopped (pos i) (settings_of c (get_or shares i 0)) v k → (first (game_of pos shares size c i)).expanded ≡ k.running.prover.expanded
    part_expanded pos v k e h =
        subst (λ m. (first (lone c.rule m c.limit c.interval (stay_of c.stay) (get_or shares i 0) (pos i))).expanded ≡ k.running.prover.expanded)
        (ap (λ m. m / 5) (e ∙ part_long)) (first_expanded h 0)

module _ {bytes w₀ shares : List ℕ} {n size : ℕ} {c : Common} (g : Playable bytes w₀ shares n size c) where
  -- the record of game i, as it is cut
  record_cut : (i : ℕ) → cut (i * 21) (i * 21 + 21) bytes ≡ record_at bytes i
  record_cut i = let q : i * 21 + 21 - i * 21 ≡ 21 = omega arith in ap (λ k. take k (drop (i * 21) bytes)) q

  pub record_fits : (i : ℕ) → i < n → i * 21 + 21 ≤ length bytes
  record_fits i l = omega (arith, g.records)

  record_accepted : (i : ℕ) → i < n → Accepted (positions_of bytes i)
  record_accepted i l = loads_accepted (record_at bytes i) (loads (record_at bytes i) (g.loads i l))

  -- the game that is loaded
  pub record_read : (i : ℕ) (r : Result Game Refusal) → i < n → refusal_code r ≡ refusal (cut (i * 21) (i * 21 + 21) bytes) → (x : Game) × (r ≡ Ok x)
  record_read i r l e = is_ok r (e ∙ ap refusal (record_cut i) ∙ g.loads i l)

  pub record_holds : (i : ℕ) (q : List ℕ) → Holds (position_of (cut (i * 21) (i * 21 + 21) bytes)) q 0 → Holds (positions_of bytes i) q 0
  record_holds i q h = subst (λ b. Holds (position_of b) q 0) (record_cut i) h

-- game i
module _ {bytes w₀ shares : List ℕ} {n size : ℕ} {c : Common} {w : List ℕ} {kept : List Kept} {u i : ℕ} (h : First bytes w₀ shares n size c w kept u i) (l : i < n) where
  pub to_first : (q : List ℕ) → Holds (positions_of bytes i) q 0 → Searchable q (cut (i * size) (i * size + size) w) (settings_of c (get_or shares i 0))
  to_first q holds =
      let r = part_ranges h.from.shaped w h.long i l in
      record { startable = record { pos = positions_of bytes i; holds = holds; accepted = record_accepted h.from i l; some = r.some; few = r.few }; ranges = r }

  pub first_accepted : Accepted (positions_of bytes i)
  first_accepted = record_accepted h.from i l

  module _ (v : List ℕ) (k : Kept) (long : length v ≡ length (cut (i * size) (i * size + size) w)) (stopped : Stopped (positions_of bytes i) (settings_of c (get_or shares i 0)) v k) where
    v_long : length v ≡ i * size + size - i * size
    v_long = long ∙ mid_len (i * size) (i * size + size) w (part_fits h.from.shaped w h.long i l)

    spent_more : spent (game_of (positions_of bytes) shares size c) 0 (suc i) ≡ spent (game_of (positions_of bytes) shares size c) 0 i + k.running.prover.expanded
    spent_more =
        let q : 0 + i ≡ i = omega arith in
        total_last (λ m. (first (game_of (positions_of bytes) shares size c m)).expanded) 0 i
        ∙ ap (λ m. spent (game_of (positions_of bytes) shares size c) 0 i + m)
        (ap (λ m. (first (game_of (positions_of bytes) shares size c m)).expanded) q ∙ part_expanded h.from.shaped w h.long i l (positions_of bytes) v k long stopped)

    -- there is enough for it
    pub unspent_enough : k.running.prover.expanded ≤ u
    unspent_enough =
        omega (
          arith,
          spent_more,
          spent_within (game_of (positions_of bytes) shares size c) (games_bounded h.from.shaped (positions_of bytes)) c.allowance n h.from.shaped.shared (suc i) l,
          h.left,
        )

    abbrev w' : List ℕ
    w' = put_mid (i * size) (i * size + size - i * size) w v

    part_same : (m : ℕ) → m < i → cut (m * size) (m * size + size) w' ≡ cut (m * size) (m * size + size) w
    part_same m lm =
        cut_before (i * size) (i * size + size) w v (omega arith) (part_fits h.from.shaped w h.long i l) v_long (m * size) (m * size + size) (omega arith) (next_part m i size lm)

    pub first_next : (j : ℕ) → j ≡ suc i → First bytes w₀ shares n size c w' (set kept i k) (u - k.running.prover.expanded) j
    first_next j ej = record {
      from = h.from;
      low = omega arith;
      long = same_len_mid (i * size) (i * size + size - i * size) w v long ∙ h.long;
      kept_long = length-set kept i k ∙ h.kept_long;
      left = omega (arith, ap (λ m. spent (game_of (positions_of bytes) shares size c) 0 m) ej, spent_more, unspent_enough, h.left);
      each = each';
      past = drop_after (i * size) (i * size + size) w v (omega arith) (part_fits h.from.shaped w h.long i l) v_long (n * size) (next_part i n size l) ∙ h.past;
    }
      where
        each' : (m : ℕ) → m < j → (d : Kept) → StoppedAt (positions_of bytes) shares size c w' m (get_or (set kept i k) m d)
        each' m lm d = go (ℕ_discrete m i)
          where
            go : Dec (m ≡ i) → StoppedAt (positions_of bytes) shares size c w' m (get_or (set kept i k) m d)
            go (yes e) =
                subst (λ z. StoppedAt (positions_of bytes) shares size c w' z (get_or (set kept i k) z d)) (sym e)
                (subst (λ z. StoppedAt (positions_of bytes) shares size c w' i z) (sym (get_or-set_same kept i k d (omega (arith, h.kept_long, h.from.shaped.few))))
                (subst (λ z. Stopped (positions_of bytes i) (settings_of c (get_or shares i 0)) z k)
                (sym (cut_put (i * size) (i * size + size) w v (omega arith) (part_fits h.from.shaped w h.long i l) v_long)) stopped))
            go (no e) =
                subst (λ z. StoppedAt (positions_of bytes) shares size c w' m z) (sym (get_or-set_other kept i m k d e))
                (subst (λ z. Stopped (positions_of bytes m) (settings_of c (get_or shares m 0)) z (get_or kept m d)) (sym (part_same m (omega arith))) (h.each m (omega arith) d))

-- the pass begins, and ends between the passes
pub first_start : (bytes w shares : List ℕ) (n size : ℕ) (c : Common) (kept : List Kept) → length kept ≡ 8 → Playable bytes w shares n size c
    → First bytes w shares n size c w kept c.allowance 0
unfolding total
first_start bytes w shares n size c kept long g = record {
  from = g;
  low = omega arith;
  long = refl;
  kept_long = long;
  left = omega arith;
  each = λ k l. absurd (omega arith);
  past = refl;
}

pub first_done : (bytes w₀ shares : List ℕ) (n size : ℕ) (c : Common) (w : List ℕ) (kept : List Kept) (u i : ℕ) → n ≤ i → First bytes w₀ shares n size c w kept u i
    → FirstPassed bytes shares n size c w₀ w (record { kept = kept; unspent = u })
unfolding unspent_at
first_done bytes w₀ shares n size c w kept u i l h =
    let e : i ≡ n = omega (arith, h.low) in
    let g = h.from.shaped in
    record {
      half = record {
        shaped = record {
          some = g.some;
          most = g.most;
          few = g.few;
          fits = omega (arith, g.fits, h.long);
          shared = g.shared;
          allowance_most = g.allowance_most;
          interval_some = g.interval_some;
          rule_few = g.rule_few;
          stay_is_in_range = g.stay_is_in_range;
        };
        kept_long = h.kept_long;
        left_is = omega (arith, h.left, ap (λ k. spent (game_of (positions_of bytes) shares size c) 0 k) e);
        each = λ k a d. h.each k (omega arith) d;
      };
      past = h.past;
    }
