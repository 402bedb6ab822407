-- Where the first fault of an answer's text is, and that it is at one line only.
use Rattle.std.proofs.Common.{◌≡◌, ℕ, zero, suc, List, [], ◌∷◌, ◌++◌, ap, inl, inr}
use Rattle.answer_text.specs.AnswerPlaces.{Place, HasForm}
use Rattle.answer_text.specs.AnswerPlaces.Place.{for_prime}
use Rattle.answer_text.specs.AnswerFaults.{IsEnd, IsFirstBad, OneFaultLine}
use Rattle.answer_text.proofs.FormLaws.{tells_places}
use Rattle.answer_text.proofs.lines.LineByLine as line_by_line
use Rattle.answer_text.proofs.lines.FaultSteps as fault_steps

-- a fault behind a line that has its form
pub IsFirstBad-step : (P Q : Place) (l rest bytes : List ℕ) (k : ℕ) → HasForm P l Q → bytes ≡ l ++ 10 ∷ rest → IsFirstBad Q rest k
    → IsFirstBad P bytes (suc k)
IsFirstBad-step = fault_steps.IsFirstBad-step Place HasForm IsEnd tells_places

-- no line from here on
pub IsFirstBad-here : (P : Place) (bytes : List ℕ) → fault_steps.IsStuck Place HasForm IsEnd tells_places P bytes
    → (IsEnd P → bytes ≡ [] → ⊥)
    → IsFirstBad P bytes 0
IsFirstBad-here = fault_steps.IsFirstBad-here Place HasForm IsEnd tells_places

pub one_fault_line : OneFaultLine
one_fault_line bytes zero n a b = absurd a
one_fault_line bytes (suc j) zero a b = absurd b
one_fault_line bytes (suc j) (suc k) a b = elim a [
  | inl bad ↦ elim b [
    | inl worse ↦ ap (λ (x : ℕ). suc x) (line_by_line.first_bad-same Place HasForm IsEnd tells_places for_prime bytes j k bad worse)
    | inr whole ↦ absurd (bad.not_whole (suc k) whole.0)
  ]
  | inr whole ↦ elim b [
    | inl bad ↦ absurd (bad.not_whole (suc j) whole.0)
    | inr also ↦ line_by_line.IsWhole-same Place HasForm IsEnd tells_places for_prime bytes (suc j) (suc k) whole.0 also.0
  ]
]
