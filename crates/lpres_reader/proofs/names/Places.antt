-- The place of a name among names that differ is the one at which it stands.
use Rattle.std.proofs.Common.{◌≡◌, ◌≢◌, ℕ, ◌<◌, List, [], length, get_or, Option, Some, None, refl, sym, ap, ◌∙◌}
use Rattle.pq_base.specs.LPresentation.{AreDistinct}
use Rattle.pq_base.proofs.DistinctNames.{place_unique}
use Rattle.lpres_reader.specs.Trees.{place_of}
use Rattle.lpres_reader.proofs.names.KeptNames.{place_found, place_missing}

pub place_of-Some : (names : List (List ℕ)) (n : List ℕ) (k : ℕ) → place_of names n ≡ Some k → (k < length names) × (get_or names k [] ≡ n)
place_of-Some names n k e = place_found names n k e

pub place_of-None : (names : List (List ℕ)) (n : List ℕ) (k : ℕ) → place_of names n ≡ None → k < length names → get_or names k [] ≢ n
place_of-None names n k e short = place_missing names n k e short

pub place_of-known : (names : List (List ℕ)) (n : List ℕ) (k : ℕ) → AreDistinct names → k < length names → get_or names k [] ≡ n
    → place_of names n ≡ Some k
place_of-known names n k distinct short is = by (place_of names n) refl
  where
    by : (o : Option ℕ) → place_of names n ≡ o → o ≡ Some k
    by None e = absurd (place_of-None names n k e short is)
    by (Some j) e =
        let at = place_of-Some names n j e in
        ap (λ (i : ℕ). Some i) (place_unique names j k distinct at.0 short (at.1 ∙ sym is))
