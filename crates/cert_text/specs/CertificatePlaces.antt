-- The lines of a certificate's text one by one: which lines may stand at which place. What a whole answer wants beyond the form of its
-- lines, and that its names and its prime are those of the certificate, is no matter of a line's form.
-- From: this project's own format.
use Rattle.std.specs.Prelude.{◌≡◌, ◌≤◌, ℕ, suc, true, false, List, [], ◌∷◌, ◌++◌, length, reverse, codes}
use Rattle.pq_base.specs.Limits.{max_class}
use Rattle.pq_base.specs.LPresentation.{LPresentation}
use Rattle.pq_base.specs.Prime.{IsOffered}
use Rattle.lpres_reader.specs.CanonicalText.{canonical_lines}
use Rattle.answer_text.specs.AnswerPlaces.{prime_line, class_line}
use Rattle.answer_text.specs.AnswerPlaces as answers
use Rattle.answer_text.specs.AnswerPlaces.Place.{for_prime, at_end}
use Rattle.derivation_log.specs.declared.source.Run.{Run}
use Rattle.derivation_log.specs.declared.source.Run.TheVariants.{Iterated, Whole}
use Rattle.derivation_log.specs.declared.source.RowSource.{RowSource}
use Rattle.derivation_log.specs.Certificates.{TailLine, StepLines, has_two_runs}
use Rattle.derivation_log.specs.CertificateForms.{is_source_in, are_tail_lines}
use Rattle.cert_text.specs.CertificateText.{HasText, version_line, run_line, step_line, source_line, tail_line}

-- what the lines before the runs have said
pub record Head : Type 0 where
  pub presentation : LPresentation
  pub prime : ℕ
  pub class : ℕ

abbrev pub head_of : LPresentation → ℕ → ℕ → Head
head_of L p c = record { presentation = L; prime = p; class = c }

-- it is in range
pub record IsHead (H : Head) : Type 0 where
  pub presentation : HasText H.presentation
  pub offered : IsOffered H.prime

-- a step without lines, and a step with one line more
abbrev pub no_lines : StepLines
no_lines = record { sources = []; tails = [] }

abbrev pub with_source : StepLines → RowSource → StepLines
with_source s a = record { sources = s.sources ++ a ∷ []; tails = s.tails }

abbrev pub with_tail : StepLines → TailLine → StepLines
with_tail s l = record { sources = s.sources; tails = s.tails ++ l ∷ [] }

-- a place between two lines, by what the lines before it have said
pub data Place : Type 0 where
  for_version : Place
  for_generators : Place
  in_presentation : LPresentation → Place
  for_class : LPresentation → ℕ → Place
  for_run : Head → Place
  -- behind the steps of an earlier run, and behind some of this one, the last of them first
  in_run : Head → Run → List StepLines → List StepLines → Place
  -- behind the steps of both runs, and at a place of the answer's text
  in_answer : Head → List StepLines → List StepLines → answers.Place → Place

-- the line has the form of a line in its place, which is between the first place and the second. A line of the presentation has it
-- where it makes the lines of the presentation so far those of the canonical text of a presentation
pub data HasForm : Place → List ℕ → Place → Type 0 where
  version : HasForm for_version (version_line 1) for_generators
  generators : (L : LPresentation) (line : List ℕ) → HasText L → canonical_lines L ≡ line ∷ []
      → HasForm for_generators line (in_presentation L)
  item : (L M : LPresentation) (line : List ℕ) → HasText M → canonical_lines M ≡ canonical_lines L ++ line ∷ []
      → HasForm (in_presentation L) line (in_presentation M)
  prime : (L : LPresentation) (p : ℕ) → IsOffered p → HasForm (in_presentation L) (prime_line p) (for_class L p)
  class : (L : LPresentation) (p c : ℕ) → 1 ≤ c → c ≤ max_class → HasForm (for_class L p) (class_line c) (for_run (head_of L p c))
  first_of_two_runs : (H : Head) → has_two_runs H.presentation ≡ true → HasForm (for_run H) (run_line Iterated) (in_run H Iterated [] [])
  only_run : (H : Head) → has_two_runs H.presentation ≡ false → HasForm (for_run H) (run_line Whole) (in_run H Whole [] [])
  step : (H : Head) (run : Run) (earlier ss : List StepLines)
      → HasForm (in_run H run earlier ss) (step_line (suc (length ss))) (in_run H run earlier (no_lines ∷ ss))
  source : (H : Head) (run : Run) (earlier : List StepLines) (s : StepLines) (ss : List StepLines) (a : RowSource) → IsHead H
      → s.tails ≡ [] → is_source_in H.presentation run a ≡ true
      → HasForm (in_run H run earlier (s ∷ ss)) (source_line a) (in_run H run earlier (with_source s a ∷ ss))
  tail : (H : Head) (run : Run) (earlier : List StepLines) (s : StepLines) (ss : List StepLines) (l : TailLine) → IsHead H
      → are_tail_lines H.prime (length s.sources) (s.tails ++ l ∷ []) 1 (s.tails ++ l ∷ []) ≡ true
      → HasForm (in_run H run earlier (s ∷ ss)) (tail_line l) (in_run H run earlier (with_tail s l ∷ ss))
  second_run : (H : Head) (ss : List StepLines) → HasForm (in_run H Iterated [] ss) (run_line Whole) (in_run H Whole (reverse ss) [])
  answer : (H : Head) (earlier ss : List StepLines)
      → HasForm (in_run H Whole earlier ss) (codes "answer") (in_answer H earlier (reverse ss) for_prime)
  of_answer : (H : Head) (earlier steps : List StepLines) (P : answers.Place) (line : List ℕ) (Q : answers.Place) → answers.HasForm P line Q
      → HasForm (in_answer H earlier steps P) line (in_answer H earlier steps Q)

-- the answer is at its end
abbrev pub IsEnd : Place → Type 0
IsEnd for_version = ⊥
IsEnd for_generators = ⊥
IsEnd (in_presentation L) = ⊥
IsEnd (for_class L p) = ⊥
IsEnd (for_run H) = ⊥
IsEnd (in_run H run earlier ss) = ⊥
IsEnd (in_answer H earlier steps P) = P ≡ at_end
