-- The lines of a certificate that a held step gives: a line for each pivot of its basis, which says the basis row. A log that keeps
-- lines keeps each list of steps that they are the lines of.
-- From: Gaussian elimination of tails in Newman and O'Brien's p-quotient method.
use Rattle.std.specs.Prelude.{◌≡◌, ◌≤◌, ℕ, zero, suc, true, cond, eqb, List, [], ◌∷◌, length, map, filter}
use Rattle.std.specs.List.{flat_map}
use Rattle.pq_base.specs.LPresentation.{LPresentation}
use Rattle.pq_base.specs.Canonical.{numbers_from}
use Rattle.fp_rows.specs.Row.{at_column}
use Rattle.fp_echelon.specs.Reduced.{BasisRow, pivots_of, at_pivot}
use Rattle.fp_echelon.specs.Reduction.{negative}
use Rattle.fp_echelon.specs.Basis.{IsBasis}
use Rattle.cover_quotient.specs.Kept.{is_listed}
use Rattle.derivation_log.specs.declared.source.Run.{Run}
use Rattle.derivation_log.specs.declared.source.Run.TheVariants.{Iterated, Whole}
use Rattle.derivation_log.specs.HeldSteps.{HeldStep, held_basis}
use Rattle.derivation_log.specs.Certificates.{TailLine, StepLines}
use Rattle.derivation_log.specs.CertificateForms.{max_number, are_sources_in}

-- a number with its coefficient, unless that is 0
abbrev pub pair_unless_zero : ℕ → ℕ → List (ℕ × ℕ)
pair_unless_zero k zero = []
pair_unless_zero k (suc e) = (k, suc e) ∷ []

-- the numbers of a list with their coefficients, but for those that are 0
abbrev pub pairs_of : (ℕ → ℕ) → List ℕ → List (ℕ × ℕ)
pairs_of f ks = flat_map (λ k. pair_unless_zero k (f k)) ks

-- minus the entry of a row at a column other than its pivot
abbrev pub kept_coefficient : ℕ → ℕ → List ℕ → ℕ → ℕ
kept_coefficient p pivot row c = cond (eqb c pivot) 0 (negative p (at_column row c))

-- the line of a pivot: minus the other entries of the basis row, and its coefficients
abbrev pub tail_line : ℕ → List BasisRow → ℕ → TailLine
tail_line p bs t = let b = at_pivot t bs in record {
  tail = t;
  kept = pairs_of (kept_coefficient p t b.row) (numbers_from 1 (length b.row));
  sums = pairs_of (at_column b.coefficients) (numbers_from 1 (length b.coefficients));
}

-- the columns, counted from 1, that are a pivot
abbrev pub pivot_columns : ℕ → List BasisRow → List ℕ
pivot_columns width bs = filter (λ t. is_listed t (pivots_of bs)) (numbers_from 1 width)

abbrev pub tail_lines : ℕ → ℕ → List BasisRow → List TailLine
tail_lines p width bs = map (tail_line p bs) (pivot_columns width bs)

-- the lines of a held step
abbrev pub held_lines : HeldStep → StepLines
held_lines s = record { sources = s.sources; tails = tail_lines s.prime s.width s.rows }

-- a step that a log can be told of: a basis whose width can be written, and a source for each row that was added
pub record IsTold (s : HeldStep) : Type 0 where
  pub basis : IsBasis (held_basis s)
  pub width : s.width ≤ max_number
  pub few : length s.added ≤ s.width
  pub sources : length s.sources ≡ length s.added

abbrev pub AreTold : List HeldStep → Type 0
AreTold [] = Unit {0}
AreTold (s ∷ ss) = IsTold s × AreTold ss

-- what contracts see of a log that keeps lines
pub record LinesOfRuns : Type 0 where
  pub iterated : List StepLines
  pub whole : List StepLines

abbrev pub lines_of : LinesOfRuns → Run → List StepLines
lines_of l Iterated = l.iterated
lines_of l Whole = l.whole

-- the steps whose lines these are
pub record AreLinesOf (lines : List StepLines) (steps : List HeldStep) : Type 0 where
  pub are : lines ≡ map held_lines steps
  pub told : AreTold steps

-- the log keeps the lists of steps that its lines are the lines of
abbrev pub KeepsLines : LinesOfRuns → Run → List HeldStep → Type 0
KeepsLines l run steps = AreLinesOf (lines_of l run) steps

-- a step with this prime, whose sources may be named in the run
pub record FitsCertificate (L : LPresentation) (p : ℕ) (run : Run) (s : HeldStep) : Type 0 where
  pub prime : s.prime ≡ p
  pub sources : are_sources_in L run s.sources ≡ true

abbrev pub FitCertificate : LPresentation → ℕ → Run → List HeldStep → Type 0
FitCertificate L p run [] = Unit {0}
FitCertificate L p run (s ∷ ss) = FitsCertificate L p run s × FitCertificate L p run ss

-- such steps are kept
pub record HoldsFitting (L : LPresentation) (p : ℕ) (run : Run) (keeps : List HeldStep → Type 0) : Type 0 where
  pub steps : List HeldStep
  pub kept : keeps steps
  pub fit : FitCertificate L p run steps
