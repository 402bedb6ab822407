-- What the light sources and the light overlaps are made of, generator by generator.
use Rattle.std.specs.Prelude.{ℕ, List, map}
use Rattle.std.specs.List.{flat_map}
use Rattle.pq_base.specs.Answer.{Answer, Definition as Source}
use Rattle.pq_base.specs.Answer.Definition.{commutator}
use Rattle.pq_base.specs.Canonical.{numbers_from, weight_of}
use Rattle.pc_presentation.specs.declared.overlap.Overlap.{Overlap}
use Rattle.pc_presentation.specs.declared.overlap.Overlap.TheVariants.{Left, Right}
use Rattle.tails_by_weight.specs.declared.light_overlaps.Side.{Side}
use Rattle.tails_by_weight.specs.declared.light_overlaps.Side.TheVariants.{Former, Latter}
use Rattle.tails_by_weight.specs.LightOverlaps.{with_room}

-- the light commutators of generator j with those before it
abbrev pub light_commutators_of : Answer → ℕ → List Source
light_commutators_of A j = map (λ i. commutator j i) (with_room A (weight_of A j) j)

-- those of the first n generators
abbrev pub light_commutators : Answer → ℕ → List Source
light_commutators A n = flat_map (light_commutators_of A) (numbers_from 1 n)

-- the overlap of two generators in which the one or the other has a p-th power
abbrev pub pair_of : Side → ℕ → ℕ → Overlap
pair_of Former = Left
pair_of Latter = Right
