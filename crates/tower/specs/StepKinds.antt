-- Which cover a step has, and which overlaps are tested in it: all tails and all overlaps, or those alone whose weights leave room for a
-- generator of the next class.
-- From: the weights of generators in M. R. Vaughan-Lee, An aspect of the nilpotent quotient algorithm, 1984.
use Rattle.std.specs.Prelude.{Bool, true, false, List}
use Rattle.std.specs.List.{Contains}
use Rattle.pq_base.specs.Answer.{Answer}
use Rattle.pc_presentation.specs.declared.overlap.Overlap.{Overlap}
use Rattle.p_cover.specs.Covers.{CoverOf}
use Rattle.consistency.specs.AllOverlaps.{all_overlaps}
use Rattle.cover_quotient.specs.Stages.{full_cover_of}
use Rattle.tails_by_weight.specs.LightCovers.{light_cover_of}
use Rattle.tails_by_weight.specs.LightOverlaps.{light_overlaps}

abbrev pub step_cover : Bool → Answer → CoverOf
step_cover true A = full_cover_of A
step_cover false A = light_cover_of A

abbrev pub step_tests : Bool → Answer → List Overlap
step_tests true A = all_overlaps A.presentation.rank
step_tests false A = light_overlaps A

-- an overlap that is tested in a step
abbrev pub IsTested : Bool → Answer → Overlap → Type 0
IsTested full A o = Contains (step_tests full A) o
