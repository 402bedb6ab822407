-- Covers cut by weight: tails for those relations and images alone in which a generator of the next class may stand.
-- From: the weights of generators in M. R. Vaughan-Lee, An aspect of the nilpotent quotient algorithm, 1984, and in M. F. Newman and
-- E. A. O'Brien, Application of computers to questions like those of Burnside, II, 1996.
use Rattle.std.specs.Prelude.{◌+◌, suc, Bool, true, leb, List, filter}
use Rattle.pq_base.specs.Answer.{Answer, Definition as Source, class_of}
use Rattle.pq_base.specs.Answer.Definition.{image, commutator, power}
use Rattle.pq_base.specs.Canonical.{weight_of}
use Rattle.p_cover.specs.Covers.{CoverOf, all_sources}

-- a relation or image that has room for a generator of the weight after the class: each but the commutators of generators whose
-- weights have a greater sum
abbrev pub is_light : Answer → Source → Bool
is_light A (image i) = true
is_light A (commutator j i) = leb (weight_of A j + weight_of A i) (suc (class_of A))
is_light A (power j) = true

-- those that define no generator, in the want order
abbrev pub light_sources : Answer → List Source
light_sources A = filter (is_light A) (all_sources A)

abbrev pub light_cover_of : Answer → CoverOf
light_cover_of A = record { answer = A; sources = light_sources A }
