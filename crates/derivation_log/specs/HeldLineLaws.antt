-- What is proved of the lines of held steps. Each statement is the contract of a function of `laws`.
-- From: Gaussian elimination of tails in Newman and O'Brien's p-quotient method.
use Rattle.std.specs.Prelude.{◌≡◌, length}
use Rattle.std.specs.List.{All}
use Rattle.p_cover.specs.Covers.{CoverOf}
use Rattle.cover_quotient.specs.NextAnswer.{eliminated}
use Rattle.derivation_log.specs.HeldSteps.{HeldStep}
use Rattle.derivation_log.specs.HeldRuns.{kept_by}
use Rattle.derivation_log.specs.CertificateRuns.{kept_in, next_where, next_by}
use Rattle.derivation_log.specs.CertificateParts.{IsSumOfRows}
use Rattle.derivation_log.specs.HeldLines.{IsTold, held_lines}

-- the lines of a step over a cover are sums of the rows that were added to its basis
abbrev pub HeldLinesAreSums : Type 0
HeldLinesAreSums = (C : CoverOf) (s : HeldStep) → IsTold s → s.prime ≡ C.answer.presentation.prime → s.width ≡ length C.sources
    → All (IsSumOfRows C s.added) (held_lines s).tails

-- the lines keep the tails that the basis keeps, and the next answer that they make is the one that the basis makes, where it keeps any
pub record MakesWhatTheBasisMakes (C : CoverOf) (s : HeldStep) : Type 0 where
  pub kept : kept_in C (held_lines s) ≡ kept_by C s
  pub next : next_by C (held_lines s) ≡ next_where (kept_by C s) C.answer (eliminated C s.rows)

abbrev pub HeldLinesMakeWhatTheBasisMakes : Type 0
HeldLinesMakeWhatTheBasisMakes = (C : CoverOf) (s : HeldStep) → IsTold s → s.prime ≡ C.answer.presentation.prime
    → s.width ≡ length C.sources → MakesWhatTheBasisMakes C s
