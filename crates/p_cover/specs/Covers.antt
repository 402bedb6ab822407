-- Covers: an answer's presentation in which relations and images carry tails, new central generators of order p.
-- From: the p-covering groups of Newman and O'Brien's method.
use Rattle.std.specs.Prelude.{List, length, map}
use Rattle.pq_base.specs.Answer.{Answer, Definition as Source, IsAnswer, class_of}
use Rattle.pq_base.specs.Answer.Definition.{image}
use Rattle.pq_base.specs.Canonical.{numbers_from, want_order}
use Rattle.pc_presentation.specs.Relation.{per_relation}
use Rattle.pc_presentation.specs.Pcp.{TailedPresentation, row_of, tail_rows}
use Rattle.p_cover.specs.Sources.{relation_source, place_in, IsPartOf}
use Rattle.p_cover.specs.RowedAnswer.{RowedAnswer}

-- the presentation in which the relations on a list carry tails, numbered by their places there
abbrev pub covering : Answer → List Source → TailedPresentation
covering A sources = record {
  presentation = A.presentation;
  weights = A.weights;
  tails = length sources;
  tail_table = per_relation A.presentation.rank (λ r. place_in sources (relation_source r));
}

-- with the tails of the images
abbrev pub cover_on : Answer → List Source → RowedAnswer
cover_on A sources = record {
  answer = A;
  width = length sources;
  rows = tail_rows (covering A sources);
  image_rows = map (λ i. row_of (length sources) (place_in sources (image i))) (numbers_from 1 (length A.names));
}

-- the tails of the full cover: every relation and image that is no definition
abbrev pub all_sources : Answer → List Source
all_sources A = want_order A (class_of A)

-- what contracts see of a cover
pub record CoverOf : Type 0 where
  pub answer : Answer
  pub sources : List Source

-- the sources are wanted ones, in their order
pub record IsCover (C : CoverOf) : Type 0 where
  pub answer : IsAnswer C.answer
  pub sources : IsPartOf C.sources (all_sources C.answer)

abbrev pub cover_presentation : CoverOf → TailedPresentation
cover_presentation C = covering C.answer C.sources

abbrev pub rowed_cover : CoverOf → RowedAnswer
rowed_cover C = cover_on C.answer C.sources
