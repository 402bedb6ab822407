-- Rows over tails carried to rows over other tails, by linear maps: a map is given by the row of each tail.
-- From: quotients of the p-covering group by rows.
use Rattle.std.specs.Prelude.{ℕ, List, map}
use Rattle.fp_echelon.specs.Span.{combine}
use Rattle.pc_presentation.specs.Rowed.{RowedPresentation}
use Rattle.p_cover.specs.RowedAnswer.{RowedAnswer}

-- the row of width q that a row is carried to: the sum of the rows of its tails, each times its entry
abbrev pub carried : ℕ → ℕ → List (List ℕ) → List ℕ → List ℕ
carried p q rows x = combine p q x rows

-- a presentation with its rows carried
abbrev pub carried_presentation : ℕ → List (List ℕ) → RowedPresentation → RowedPresentation
carried_presentation q rows Y = record {
  base = Y.base;
  width = q;
  power_rows = map (carried Y.base.prime q rows) Y.power_rows;
  commutator_rows = map (λ (r : List (List ℕ)). map (carried Y.base.prime q rows) r) Y.commutator_rows;
}

-- an answer with its rows carried
abbrev pub carried_answer : ℕ → List (List ℕ) → RowedAnswer → RowedAnswer
carried_answer q rows Y = record {
  answer = Y.answer;
  width = q;
  rows = record {
    powers = map (carried Y.answer.presentation.prime q rows) Y.rows.powers;
    commutators = map (λ (r : List (List ℕ)). map (carried Y.answer.presentation.prime q rows) r) Y.rows.commutators;
  };
  image_rows = map (carried Y.answer.presentation.prime q rows) Y.image_rows;
}
