-- The second pass from one game to the next. Rests on FirstPasses.
use Rattle.std.specs.Prelude.{◌≡◌, List, length, get_or, set}
use Rattle.std.proofs.Math.Path.{refl, ap}
use Rattle.std.proofs.Common.{sym, ◌∙◌, subst, length-set, get_or-set_same, get_or-set_other}
use Prim.Native.Nat.{ℕ, suc, ◌+◌, ◌*◌, ◌-◌, ◌≤◌, ◌<◌}
use Rattle.std.proofs.Math.Decide.{ℕ_discrete}
use native.Mathlib.Omega.{arith}
use borrow.Rule.Slice.PartMut.{put_mid, mid_len, same_len_mid}
use Rattle.rules.specs.Rules.{Position}
use Rattle.passes.specs.Passes.{OneGame, total, grant_with, unspent_after, unspent_at, result_at}
use Rattle.passes.proofs.Laws.{accounts}
use Rattle.pn.specs.Results.{result_of}
use Rattle.pn.specs.declared.SearchResult.{SearchResult}
use Rattle.resume.specs.Keeping.{Stopped}
use Rattle.resume.specs.declared.Kept.{Kept}
use Rattle.resume.specs.Lone.{lone}
use Rattle.resume.specs.Passing.{Passable, Passes}
use Rattle.resume.specs.declared.Turn.{Turn}
use Rattle.stay.specs.Margin.{stay_of}
use Rattle.games_checks.specs.declared.Common.{Common}
use Rattle.games.specs.Games.{no_result}
use Rattle.games.specs.Parts.{cut}
use Rattle.games.proofs.Parts.{next_part, cut_after, drop_after}
use Rattle.games.specs.Playing.{settings_of, game_of, Shaped, Halfway, Turns, Second, SecondPassed}
use Rattle.games.proofs.FirstPasses.{games_bounded, part_fits, part_nodes, part_ranges, part_expanded}

module _ {shares : List ℕ} {n size : ℕ} {c : Common} {kept : List Kept} {left : ℕ} {w₀ w : List ℕ} {u : ℕ} {results : List SearchResult} {i : ℕ}
    (h : Second shares n size c kept left w₀ w u results i) (l : i < n) where
  g : Shaped shares (length w₀) n size c
  g = h.from.1.shaped

  module _ (d : Kept) where
    stopped : (pos : ℕ → Position) → Halfway pos shares n size c w₀ kept left → Stopped (pos i) (settings_of c (get_or shares i 0)) (cut (i * size) (i * size + size) w) (get_or kept i d)
    stopped pos q = (h.turns pos q).each i (omega arith) l d

    -- what the game has expanded and what is unspent are within the allowance
    within : (pos : ℕ → Position) → Halfway pos shares n size c w₀ kept left → (get_or kept i d).running.prover.expanded + u ≤ c.allowance
    unfolding total
    within pos q =
        let s : i + suc (n - suc i) ≡ n = omega arith in
        omega (
          arith,
          accounts (game_of pos shares size c) (games_bounded g pos) c.allowance n g.shared i (suc (n - suc i)) s,
          (h.turns pos q).left,
          part_expanded g w h.long i l pos (cut (i * size) (i * size + size) w) (get_or kept i d) refl (stopped pos q),
        )

    pub to_second : Passable (cut (i * size) (i * size + size) w) (get_or kept i d) (settings_of c (get_or shares i 0)) u
    to_second = record {
      start = h.from.0 i;
      stopped = stopped h.from.0 h.from.1;
      ranges = part_ranges g w h.long i l;
      countable = omega (arith, within h.from.0 h.from.1, g.allowance_most);
    }

    module _ (v : List ℕ) (t : Turn) (long : length v ≡ length (cut (i * size) (i * size + size) w))
        (passes : (p : Position) → Stopped p (settings_of c (get_or shares i 0)) (cut (i * size) (i * size + size) w) (get_or kept i d)
        → Passes p (settings_of c (get_or shares i 0)) (cut (i * size) (i * size + size) w) u t) where
      v_long : length v ≡ i * size + size - i * size
      v_long = long ∙ mid_len (i * size) (i * size + size) w (part_fits g w h.long i l)

      abbrev w' : List ℕ
      w' = put_mid (i * size) (i * size + size - i * size) w v

      part_same : (m : ℕ) → i < m → cut (m * size) (m * size + size) w' ≡ cut (m * size) (m * size + size) w
      part_same m lm =
          cut_after (i * size) (i * size + size) w v (omega arith) (part_fits g w h.long i l) v_long (m * size) (m * size + size) (next_part i m size lm)

      -- by the definition of the two passes
      module _ (pos : ℕ → Position) (q : Halfway pos shares n size c w₀ kept left) where
        abbrev with_nodes : ℕ → OneGame
        with_nodes m = lone c.rule m c.limit c.interval (stay_of c.stay) (get_or shares i 0) (pos i)

        here : (result_of t.result ≡ (game_of pos shares size c i).search (grant_with (game_of pos shares size c i) u)) × (t.unspent ≡ unspent_after (game_of pos shares size c i) u)
        here =
            subst (λ m. (result_of t.result ≡ (with_nodes m).search (grant_with (with_nodes m) u)) × (t.unspent ≡ unspent_after (with_nodes m) u)) (part_nodes g w h.long i l)
            ((passes (pos i) (stopped pos q)).result_is, (passes (pos i) (stopped pos q)).unspent_is)

        result_here : result_of t.result ≡ result_at (game_of pos shares size c) c.allowance n i
        result_here = here.0 ∙ ap (λ x. (game_of pos shares size c i).search (grant_with (game_of pos shares size c i) x)) (h.turns pos q).left

        unspent_here : t.unspent ≡ unspent_at (game_of pos shares size c) c.allowance n (suc i)
        unfolding unspent_at
        unspent_here = here.1 ∙ ap (unspent_after (game_of pos shares size c i)) (h.turns pos q).left

        turns_next : Turns pos shares n size c kept w' t.unspent (set results i t.result) (suc i)
        turns_next = record {
          left = unspent_here;
          each = λ m a b e. subst (λ z. Stopped (pos m) (settings_of c (get_or shares m 0)) z (get_or kept m e)) (sym (part_same m (omega arith))) ((h.turns pos q).each m (omega arith) b e);
          done = λ m lm e. go m lm e (ℕ_discrete m i);
        }
          where
            go : (m : ℕ) → m < suc i → (e : SearchResult) → Dec (m ≡ i) → result_of (get_or (set results i t.result) m e) ≡ result_at (game_of pos shares size c) c.allowance n m
            go m lm e (yes z) =
                subst (λ k. result_of (get_or (set results i t.result) k e) ≡ result_at (game_of pos shares size c) c.allowance n k) (sym z)
                (ap result_of (get_or-set_same results i t.result e (omega (arith, h.results_long, g.few))) ∙ result_here)
            go m lm e (no z) = ap result_of (get_or-set_other results i m t.result e z) ∙ (h.turns pos q).done m (omega arith) e

      pub second_next : (j : ℕ) → j ≡ suc i → Second shares n size c kept left w₀ w' t.unspent (set results i t.result) j
      second_next j ej = record {
        from = h.from;
        low = omega arith;
        long = same_len_mid (i * size) (i * size + size - i * size) w v long ∙ h.long;
        results_long = length-set results i t.result ∙ h.results_long;
        turns = λ pos q. subst (λ k. Turns pos shares n size c kept w' t.unspent (set results i t.result) k) (sym ej) (turns_next pos q);
        nothing = λ k a b e. ap result_of (get_or-set_other results i k t.result e (λ z. omega (arith, z))) ∙ h.nothing k (omega arith) b e;
        past = drop_after (i * size) (i * size + size) w v (omega arith) (part_fits g w h.long i l) v_long (n * size) (next_part i n size l) ∙ h.past;
      }

-- the pass begins between the passes, and ends
pub second_start : (shares : List ℕ) (n size : ℕ) (c : Common) (kept : List Kept) (left : ℕ) (w : List ℕ) (results : List SearchResult) → length results ≡ 8
    → ((k : ℕ) → k < 8 → (d : SearchResult) → result_of (get_or results k d) ≡ no_result) → (pos : ℕ → Position) × Halfway pos shares n size c w kept left
    → Second shares n size c kept left w w left results 0
second_start shares n size c kept left w results long none from = record {
  from = from;
  low = omega arith;
  long = refl;
  results_long = long;
  turns = λ pos q. record { left = q.left_is; each = λ k a b d. q.each k b d; done = λ k b. absurd (omega arith) };
  nothing = λ k a b d. none k b d;
  past = refl;
}

pub second_done : (shares : List ℕ) (n size : ℕ) (c : Common) (kept : List Kept) (left : ℕ) (w₀ w : List ℕ) (u : ℕ) (results : List SearchResult) (i : ℕ) → n ≤ i
    → Second shares n size c kept left w₀ w u results i → SecondPassed shares n size c kept left w₀ w results
second_done shares n size c kept left w₀ w u results i l h = record {
  results_long = h.results_long;
  results = λ pos q k a d. (h.turns pos q).done k (omega arith) d;
  nothing = λ k a b d. h.nothing k (omega (arith, h.low)) b d;
  past = h.past;
}
