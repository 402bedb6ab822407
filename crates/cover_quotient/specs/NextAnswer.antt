-- The next answer: the flat reading of an answer with rows, in which the tails are generators of the next class, each
-- defined by a relation or an image. No limit on the rank.
-- From: one step of Newman and O'Brien's p-quotient method.
use Rattle.std.specs.Prelude.{ℕ, suc, List, ◌++◌, ◌-◌, get_or, length, map, replicate}
use Rattle.pq_base.specs.Answer.{Answer, Definition as Source, class_of}
use Rattle.pq_base.specs.Answer.Definition.{image}
use Rattle.fp_echelon.specs.Reduced.{BasisRow}
use Rattle.pc_presentation.specs.Rowed.{followed_by, flat}
use Rattle.p_cover.specs.RowedAnswer.{RowedAnswer, rowed}
use Rattle.p_cover.specs.Covers.{CoverOf, rowed_cover}
use Rattle.cover_quotient.specs.Carried.{carried_answer}
use Rattle.cover_quotient.specs.Combinations.{TailCombinations}
use Rattle.cover_quotient.specs.Kept.{kept_columns, kept_rows, kept_combinations}

-- the tails as generators whose definitions are the given sources
abbrev pub next_answer : RowedAnswer → List Source → Answer
next_answer Y sources = record {
  presentation = flat (rowed Y);
  weights = Y.answer.weights ++ replicate Y.width (suc (class_of Y.answer));
  names = Y.answer.names;
  definitions = Y.answer.definitions ++ sources;
  images = followed_by Y.answer.images Y.image_rows;
}

-- the sources of tails at some columns
abbrev pub sources_at : List ℕ → List Source → List Source
sources_at columns sources = map (λ c. get_or sources (c - 1) (image 0)) columns

-- a cover whose tails become combinations of kept ones
abbrev pub combined_cover : CoverOf → TailCombinations → RowedAnswer
combined_cover C K = carried_answer (length K.kept) K.rows (rowed_cover C)

-- the answer that the combinations make of a cover: the kept tails are its new generators
abbrev pub combined_answer : CoverOf → TailCombinations → Answer
combined_answer C K = next_answer (combined_cover C K) (sources_at K.kept C.sources)

-- the sources of the kept tails
abbrev pub kept_sources : CoverOf → List BasisRow → List Source
kept_sources C bs = sources_at (kept_columns (length C.sources) bs) C.sources

-- the cover modulo a reduced basis
abbrev pub cover_modulo : CoverOf → List BasisRow → RowedAnswer
cover_modulo C bs =
    carried_answer (length (kept_columns (length C.sources) bs)) (kept_rows C.answer.presentation.prime (length C.sources) bs)
    (rowed_cover C)

-- the answer that a reduced basis makes of a cover
abbrev pub eliminated : CoverOf → List BasisRow → Answer
eliminated C bs = combined_answer C (kept_combinations C.answer.presentation.prime (length C.sources) bs)
