-- The words to which arrows lead from a place are found one arrow after the other, and the images one place after the other.
use Rattle.std.proofs.Common.{◌≡◌, ◌<◌, ℕ, ℤ, List, [], ◌∷◌, ◌++◌, length, drop, get_or, Option}
use Rattle.std.specs.Prelude.{option_to_list}
use Rattle.lpres_reader.specs.declared.gathered.Arrow.{Arrow}
use Rattle.lpres_reader.specs.Items.{words_from}
use Rattle.lpres_reader.specs.Arrows.{mappings}

-- what is found before the arrow at i
pub record FoundSo (arrows : List Arrow) (place i : ℕ) (found : Option (List ℤ)) : Type 0 where
  pub is : words_from place (mappings arrows) ≡ option_to_list found ++ words_from place (mappings (drop i arrows))

-- the images of the generators before a place
pub record ImagesTo (arrows : List Arrow) (place : ℕ) (f : List (List ℤ)) : Type 0 where
  pub count : length f ≡ place
  pub each : (k : ℕ) → k < place → words_from k (mappings arrows) ≡ get_or f k [] ∷ []
