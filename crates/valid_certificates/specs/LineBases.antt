-- The lines of a step as a reduced basis: a line says that its tail equals a sum of others, so the tail minus this sum is a row.
-- From: Gaussian elimination of tails in Newman and O'Brien's p-quotient method.
use Rattle.std.specs.Prelude.{◌≡◌, ◌<◌, ℕ, true, List, length}
use Rattle.std.specs.List.{All}
use Rattle.fp_echelon.specs.Reduced.{BasisRow}
use Rattle.p_cover.specs.Covers.{CoverOf}
use Rattle.cover_quotient.specs.Kept.{kept_columns}
use Rattle.cover_quotient.specs.NextAnswer.{eliminated}
use Rattle.cover_quotient.specs.FittingLaws.{IsBasisIn}
use Rattle.derivation_log.specs.Certificates.{StepLines}
use Rattle.derivation_log.specs.CertificateForms.{are_tail_lines}
use Rattle.derivation_log.specs.CertificateRuns.{kept_in, next_where, next_by}
use Rattle.derivation_log.specs.CertificateParts.{IsSumOfRows}

-- lines in the form that they have in a certificate, over a cover, each a sum of these rows
pub record AreLinesOver (C : CoverOf) (rows : List (List ℕ)) (s : StepLines) : Type 0 where
  pub prime : 1 < C.answer.presentation.prime
  pub form : are_tail_lines C.answer.presentation.prime (length s.sources) s.tails 1 s.tails ≡ true
  pub sums : All (IsSumOfRows C rows) s.tails

-- a reduced basis in the span of these rows, which keeps the tails that the lines keep, and makes the same next answer
pub record HasBasis (C : CoverOf) (rows : List (List ℕ)) (s : StepLines) : Type 0 where
  pub basis : List BasisRow
  pub is : IsBasisIn C rows basis
  pub kept : kept_in C s ≡ kept_columns (length C.sources) basis
  pub next : next_by C s ≡ next_where (kept_in C s) C.answer (eliminated C basis)

abbrev pub LinesHaveBases : Type 0
LinesHaveBases = (C : CoverOf) (rows : List (List ℕ)) (s : StepLines) → AreLinesOver C rows s → HasBasis C rows s
