-- What a trainer finds comes from the published pairs and verdicts, in their order, and from nothing else; an entry that is stored is none of them. Rests on
-- Published.
use Rattle.std.specs.Prelude.{◌≡◌, refl, Bool, true, false, cond, ◌&&◌, List, [], ◌∷◌, ℕ, ◌%◌, eqb}
use Rattle.std.proofs.Common.{sym, ap, ◌∙◌, arith, ne_eqb}
use Rattle.entries.specs.Entries.{Entry, rule_bits, verdict_bits, is_published, same_bytes, has_verdict, holds_rule, holds_pair, answers, first_verdict, find, new_entry, storing}
use Rattle.entries.specs.Published.{pair_verdict, published_pairs, verdict_among}
use Rattle.entries.specs.declared.Caller.TheVariants.{Trainer}

-- by the published pairs and verdicts
pub trainer_finds : (bytes : List ℕ) (rule : ℕ) (es : List Entry) → find Trainer bytes rule es ≡ verdict_among bytes rule (published_pairs es)
unfolding find holds_pair holds_rule
trainer_finds bytes rule [] = refl
trainer_finds bytes rule (e ∷ es) =
    go (is_published e.last) (has_verdict e.last) (same_bytes e.bytes bytes) refl (eqb (rule_bits e.last) rule) refl (trainer_finds bytes rule es)
  where
    go : (p h s : Bool) → same_bytes e.bytes bytes ≡ s → (r : Bool) → eqb (rule_bits e.last) rule ≡ r
        → first_verdict (answers Trainer bytes rule) es ≡ verdict_among bytes rule (published_pairs es)
        → cond (p && (s && (r && h))) (verdict_bits e.last) (first_verdict (answers Trainer bytes rule) es)
        ≡ verdict_among bytes rule (cond (p && h) (pair_verdict e ∷ published_pairs es) (published_pairs es))
    go false h s a r b i = i
    go true true true a true b i = rw (a, b)
    go true true true a false b i = rw (a, b) i
    go true true false a r b i = rw a i
    go true false true a true b i = i
    go true false true a false b i = i
    go true false false a r b i = i

-- the same published pairs and verdicts: a trainer finds the same
pub trainer_alike : (es fs : List Entry) → published_pairs es ≡ published_pairs fs → (bytes : List ℕ) (rule : ℕ) → find Trainer bytes rule es ≡ find Trainer bytes rule fs
trainer_alike es fs h bytes rule = trainer_finds bytes rule es ∙ ap (verdict_among bytes rule) h ∙ sym (trainer_finds bytes rule fs)

-- a new entry is not published
pub unpublished : (bytes : List ℕ) (rule v : ℕ) (es : List Entry) → published_pairs (storing (new_entry bytes rule v) es) ≡ published_pairs es
unpublished bytes rule v [] = rw (ne_eqb ((new_entry bytes rule v).last % 2) 1 (λ q. omega arith))
unpublished bytes rule v (e ∷ es) = rw (unpublished bytes rule v es)
