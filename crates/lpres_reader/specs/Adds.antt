-- What a presentation becomes by what a line behind it gives.
use Rattle.std.specs.Prelude.{◌≡◌, ℤ, List, length}
use Rattle.pq_base.specs.LPresentation.{LPresentation, IsLPresentation}
use Rattle.lpres_reader.specs.declared.fault.Which.{Which}
use Rattle.lpres_reader.specs.declared.fault.Which.TheVariants.{Fixed, Iterated}
use Rattle.lpres_reader.specs.Arrows.{mappings}
use Rattle.lpres_reader.specs.Gatherings.{Gathering}
use Rattle.lpres_reader.specs.Items.{GivesEach, fixed, iterated, endo}
use Rattle.lpres_reader.specs.Limits.{IsWithinLimits}
use Rattle.lpres_reader.specs.Trials.{added}

-- relators come behind those of their sort, and arrows are an endomorphism where they give all images
abbrev pub AddsAs : Which → LPresentation → Gathering → LPresentation → Type 0
AddsAs Fixed M g L = L ≡ added M (fixed g.relators)
AddsAs Iterated M g L = L ≡ added M (iterated g.relators)
AddsAs w M g L = (f : List (List ℤ)) × GivesEach (length M.names) (mappings g.arrows) f × (L ≡ added M (endo f))

abbrev pub Adds : LPresentation → Gathering → LPresentation → Type 0
Adds M g L = AddsAs g.which M g L

abbrev pub AddsNothing : LPresentation → Gathering → Type 0
AddsNothing M g = (L : LPresentation) → ¬ Adds M g L

-- whatever is made is a presentation within the limits
abbrev pub AddsSoundly : LPresentation → Gathering → Type 0
AddsSoundly M g = (L : LPresentation) → Adds M g L → IsLPresentation L × IsWithinLimits L
