-- The text of a certificate.
-- From: this project's own format. Numbers are in decimal; relators, endomorphisms, tails and the sources of a step count from 1.
use Rattle.std.specs.Prelude.{◌≡◌, ℕ, suc, Bool, true, false, List, [], ◌∷◌, ◌++◌, All, map, codes, decimal}
use Rattle.pq_base.specs.Lines.{text_of_lines}
use Rattle.pq_base.specs.LPresentation.{LPresentation, IsLPresentation}
use Rattle.pq_base.specs.Name.{IsName}
use Rattle.pc_presentation.specs.declared.overlap.Overlap.{Overlap}
use Rattle.pc_presentation.specs.declared.overlap.Overlap.TheVariants.{Triple, Left, Right, Own}
use Rattle.lpres_reader.specs.Limits.{IsWithinLimits}
use Rattle.lpres_reader.specs.CanonicalText.{canonical_lines}
use Rattle.answer_text.specs.AnswerText.{answer_lines}
use Rattle.answer_text.specs.AnswerPlaces.{prime_line, class_line}
use Rattle.answer_text.specs.OneText as answers
use Rattle.derivation_log.specs.declared.source.Run.{Run}
use Rattle.derivation_log.specs.declared.source.Run.TheVariants.{Iterated, Whole}
use Rattle.derivation_log.specs.declared.source.RowSource.{RowSource}
use Rattle.derivation_log.specs.declared.source.RowSource.TheVariants as source
use Rattle.derivation_log.specs.Certificates.{TailLine, StepLines, Certificate, has_two_runs}
use Rattle.derivation_log.specs.CertificateForms.{IsCertificate}

-- numbers, each behind a blank
abbrev pub numbers_text : List ℕ → List ℕ
numbers_text [] = []
numbers_text (n ∷ ns) = codes " " ++ (decimal n ++ numbers_text ns)

abbrev pub overlap_text : Overlap → List ℕ
overlap_text (Triple k j i) = codes "triple" ++ numbers_text (k ∷ j ∷ i ∷ [])
overlap_text (Left j i) = codes "left" ++ numbers_text (j ∷ i ∷ [])
overlap_text (Right j i) = codes "right" ++ numbers_text (j ∷ i ∷ [])
overlap_text (Own i) = codes "own" ++ numbers_text (i ∷ [])

-- the endomorphisms along which a relator is carried, where there are any
abbrev pub along_text : List ℕ → List ℕ
along_text [] = []
along_text (e ∷ s) = codes " along" ++ numbers_text (e ∷ s)

abbrev pub source_text : RowSource → List ℕ
source_text (source.Test o) = overlap_text o
source_text (source.Fixed i) = codes "fixed" ++ numbers_text (i ∷ [])
source_text (source.Iterated i s) = codes "iterated" ++ (numbers_text (i ∷ []) ++ along_text s)

abbrev pub source_line : RowSource → List ℕ
source_line a = codes "source " ++ source_text a

-- a number with its coefficient
abbrev pub pair_text : ℕ × ℕ → List ℕ
pair_text a = decimal a.0 ++ (codes ":" ++ decimal a.1)

-- pairs behind others
abbrev pub further_pairs_text : List (ℕ × ℕ) → List ℕ
further_pairs_text [] = []
further_pairs_text (a ∷ pairs) = codes " " ++ (pair_text a ++ further_pairs_text pairs)

abbrev pub pairs_text : List (ℕ × ℕ) → List ℕ
pairs_text [] = []
pairs_text (a ∷ pairs) = pair_text a ++ further_pairs_text pairs

-- what a tail equals: tails with coefficients, or 0
abbrev pub kept_text : List (ℕ × ℕ) → List ℕ
kept_text [] = codes "0"
kept_text (a ∷ pairs) = pairs_text (a ∷ pairs)

abbrev pub tail_line : TailLine → List ℕ
tail_line l = codes "tail " ++ (decimal l.tail ++ (codes " = " ++ (kept_text l.kept ++ (codes " by " ++ pairs_text l.sums))))

abbrev pub step_line : ℕ → List ℕ
step_line k = codes "step " ++ decimal k

-- the lines of step k
abbrev pub step_lines : ℕ → StepLines → List (List ℕ)
step_lines k s = step_line k ∷ (map source_line s.sources ++ map tail_line s.tails)

-- the lines of the steps behind k others
abbrev pub steps_lines : ℕ → List StepLines → List (List ℕ)
steps_lines k [] = []
steps_lines k (s ∷ ss) = step_lines (suc k) s ++ steps_lines (suc k) ss

abbrev pub run_line : Run → List ℕ
run_line Iterated = codes "run iterated"
run_line Whole = codes "run whole"

abbrev pub run_lines : Run → List StepLines → List (List ℕ)
run_lines run ss = run_line run ∷ steps_lines 0 ss

-- the run over the iterated part, where there are two runs
abbrev pub iterated_lines : Bool → List StepLines → List (List ℕ)
iterated_lines true ss = run_lines Iterated ss
iterated_lines false ss = []

abbrev pub version_line : ℕ → List ℕ
version_line v = codes "certificate " ++ decimal v

-- the lines of both runs
abbrev pub runs_lines : Certificate → List (List ℕ)
runs_lines c = iterated_lines (has_two_runs c.presentation) c.iterated ++ run_lines Whole c.whole

abbrev pub certificate_lines : Certificate → List (List ℕ)
certificate_lines c =
    version_line c.version
    ∷ (canonical_lines c.presentation
    ++ (prime_line c.prime ∷ class_line c.class ∷ (runs_lines c
    ++ (codes "answer" ∷ answer_lines c.answer))))

unfoldable pub certificate_text : Certificate → List ℕ
certificate_text c = text_of_lines (certificate_lines c)

-- a presentation within the limits of texts: its canonical text reads as it
pub record HasText (L : LPresentation) : Type 0 where
  pub names : All IsName L.names
  pub presentation : IsLPresentation L
  pub limits : IsWithinLimits L

-- a certificate of version 1 within the limits of texts
pub record IsWritable (c : Certificate) : Type 0 where
  pub version : c.version ≡ 1
  pub certificate : IsCertificate c
  pub presentation : HasText c.presentation
  pub answer : answers.IsWritable c.answer

-- one text has one certificate
abbrev pub OneTextOneCertificate : Type 0
OneTextOneCertificate = (c d : Certificate) → IsWritable c → IsWritable d → certificate_text c ≡ certificate_text d → c ≡ d
