-- The fields of a list of results, one after the other. Rests on Exports.
use Rattle.std.specs.Prelude.{◌≡◌, refl, List, [], ◌∷◌, map, ℕ, suc, ◌<◌, length, get_or}
use Rattle.std.proofs.Common.{arith}
use Rattle.pn.specs.Results.{result_of}
use Rattle.pn.specs.declared.SearchResult.{SearchResult}
use Rattle.ultimattt.specs.Exports.{fields, fields_of}
use Rattle.ultimattt.specs.declared.exports.ResultFields.{ResultFields}

-- each stands in its place
pub fields_alike : (all : List ResultFields) (results : List SearchResult) → length all ≡ length results
    → ((k : ℕ) → k < length all → (d : ResultFields) (e : SearchResult) → fields (get_or all k d) ≡ fields_of (result_of (get_or results k e))) → map fields all ≡ map fields_of (map result_of results)
fields_alike [] [] q h = refl
fields_alike [] (y ∷ ys) q h = absurd (omega (arith, q))
fields_alike (x ∷ xs) [] q h = absurd (omega (arith, q))
fields_alike (x ∷ xs) (y ∷ ys) q h =
    let here : fields x ≡ fields_of (result_of y) = h 0 (omega arith) x y in
    rw (here, fields_alike xs ys (omega (arith, q)) (λ k l. h (suc k) (omega arith)))
