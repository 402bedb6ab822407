-- The answers that the steps of a certificate build, from the trivial answer on: a tail with a line equals the sum that its line
-- names, the others are kept and become generators. Nothing of the sources is looked at.
-- From: the elimination of tails in Newman and O'Brien's p-quotient method.
use Rattle.std.specs.Prelude.{◌-◌, ℕ, zero, suc, not, eqb, cond, List, [], ◌∷◌, length, map, filter}
use Rattle.pq_base.specs.Answer.{Answer, Definition as Source}
use Rattle.pq_base.specs.Canonical.{numbers_from}
use Rattle.pc_presentation.specs.Pcp.{unit_row}
use Rattle.pc_presentation.specs.Parts.{trivial_answer}
use Rattle.p_cover.specs.Covers.{CoverOf}
use Rattle.cover_quotient.specs.Combinations.{TailCombinations}
use Rattle.cover_quotient.specs.Kept.{is_listed, entries_at}
use Rattle.cover_quotient.specs.NextAnswer.{sources_at, combined_answer}
use Rattle.derivation_log.specs.declared.source.Run.{Run}
use Rattle.derivation_log.specs.Certificates.{TailLine, StepLines, Certificate, step_of}

-- the coefficient of a number in pairs of numbers and coefficients, and 0 where the number isn't there
abbrev pub coefficient_in : List (ℕ × ℕ) → ℕ → ℕ
coefficient_in [] t = 0
coefficient_in (a ∷ pairs) t = cond (eqb a.0 t) a.1 (coefficient_in pairs t)

-- pairs as a row of some width
abbrev pub row_of_pairs : ℕ → List (ℕ × ℕ) → List ℕ
row_of_pairs width pairs = map (coefficient_in pairs) (numbers_from 1 width)

-- the row of a tail: that of its line, and where it has none the tail itself
abbrev pub tail_row : ℕ → List TailLine → ℕ → List ℕ
tail_row width [] t = unit_row width t
tail_row width (l ∷ ls) t = cond (eqb l.tail t) (row_of_pairs width l.kept) (tail_row width ls t)

-- the tails of a cover that have no line
abbrev pub kept_in : CoverOf → StepLines → List ℕ
kept_in C s = filter (λ t. not (is_listed t (map (λ (l : TailLine). l.tail) s.tails))) (numbers_from 1 (length C.sources))

-- what they come from
abbrev pub kept_sources_in : CoverOf → StepLines → List Source
kept_sources_in C s = sources_at (kept_in C s) C.sources

-- what the tails of a cover become
abbrev pub combinations_in : CoverOf → StepLines → TailCombinations
combinations_in C s = record {
  prime = C.answer.presentation.prime;
  kept = kept_in C s;
  rows = map (λ t. entries_at (kept_in C s) (tail_row (length C.sources) s.tails t)) (numbers_from 1 (length C.sources));
}

-- the one answer where nothing is kept, and else the other
abbrev pub next_where : List ℕ → Answer → Answer → Answer
next_where [] A N = A
next_where (t ∷ ts) A N = N

-- a step that keeps no tail leaves the answer as it is
abbrev pub next_by : CoverOf → StepLines → Answer
next_by C s = next_where (kept_in C s) C.answer (combined_answer C (combinations_in C s))

-- the answer after the first k steps of a run
abbrev pub answer_after : (Answer → CoverOf) → Certificate → Run → ℕ → Answer
answer_after cover c run zero = trivial_answer c.prime c.presentation.names
answer_after cover c run (suc k) = next_by (cover (answer_after cover c run k)) (step_of c run (suc k))

-- the cover of step k, counted from 1
abbrev pub cover_at : (Answer → CoverOf) → Certificate → Run → ℕ → CoverOf
cover_at cover c run k = cover (answer_after cover c run (k - 1))

-- the tails that step k keeps
abbrev pub kept_at : (Answer → CoverOf) → Certificate → Run → ℕ → List ℕ
kept_at cover c run k = kept_in (cover_at cover c run k) (step_of c run k)
