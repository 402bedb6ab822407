-- Arrows as mappings, and when they give no images.
use Rattle.std.specs.Prelude.{ℕ, ℤ, List, map}
use Rattle.lpres_reader.specs.declared.gathered.Arrow.{Arrow}
use Rattle.lpres_reader.specs.Items.{Mapping, GivesEach}

abbrev pub mapping_of : Arrow → Mapping
mapping_of a = record { from = a.from; to = a.to }

abbrev pub mappings : List Arrow → List Mapping
mappings arrows = map mapping_of arrows

-- there is not exactly one arrow from each of n generators
abbrev pub GivesNone : ℕ → List Mapping → Type 0
GivesNone n arrows = (f : List (List ℤ)) → ¬ GivesEach n arrows f
