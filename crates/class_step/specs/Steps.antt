-- What a step answers.
-- From: one step of Newman and O'Brien's p-quotient method.
use Rattle.std.specs.Prelude.{◌≡◌, ◌<◌, ◌+◌, List, [], length}
use Rattle.pq_base.specs.Limits.{max_rank}
use Rattle.fp_echelon.specs.Reduced.{BasisRow}
use Rattle.p_cover.specs.Covers.{CoverOf}
use Rattle.cover_quotient.specs.Kept.{kept_columns}
use Rattle.cover_quotient.specs.NextAnswer.{eliminated}
use Rattle.class_step.specs.declared.step.Step.{Step}
use Rattle.class_step.specs.declared.step.Step.TheVariants.{Next, Same, TooLarge}

-- what a step answers
abbrev pub IsStep : CoverOf → List BasisRow → Step → Type 0
IsStep C bs (Next a) = (a ≡ eliminated C bs) × (0 < length (kept_columns (length C.sources) bs))
IsStep C bs Same = kept_columns (length C.sources) bs ≡ []
IsStep C bs (TooLarge rank) = (rank ≡ C.answer.presentation.rank + length (kept_columns (length C.sources) bs)) × (max_rank < rank)
