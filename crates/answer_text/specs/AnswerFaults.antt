-- The line of the first fault of bytes that are no answer's text. Lines are judged one by one, and a last piece without a
-- newline is no line. The first line that hasn't the form of a line in its place is the fault; where there is none, but the
-- lines together are no answer's, the fault is at the last line.
-- From: this project's own format.
use Rattle.std.specs.Prelude.{◌≡◌, ◌⊎◌, ℕ, zero, suc, List}
use Rattle.pq_base.specs.Answer.{Answer}
use Rattle.answer_text.specs.declared.fault.AnswerFault.{AnswerFault}
use Rattle.answer_text.specs.declared.fault.AnswerFault.TheVariants.{Line, NoMemory}
use Rattle.answer_text.specs.AnswerText.{answer_text}
use Rattle.answer_text.specs.OneText.{IsWritable}
use Rattle.answer_text.specs.LineByLine as line_by_line
use Rattle.answer_text.specs.AnswerPlaces.{Place, HasForm}
use Rattle.answer_text.specs.AnswerPlaces.Place.{for_prime, at_end}

-- behind the last line
abbrev pub IsEnd : Place → Type 0
IsEnd P = P ≡ at_end

-- from this place on, the first m lines have the form of a line in their place
abbrev pub Begins : Place → List ℕ → ℕ → Type 0
Begins = line_by_line.Begins Place HasForm

-- from this place on, the bytes are m lines that have the form of a line in their place, and the last of them is the end
abbrev pub IsWhole : Place → List ℕ → ℕ → Type 0
IsWhole = line_by_line.IsWhole Place HasForm IsEnd

-- k lines have the form of a line in their place, and what follows has none
abbrev pub IsFirstBad : Place → List ℕ → ℕ → Type 0
IsFirstBad = line_by_line.IsFirstBad Place HasForm IsEnd

abbrev pub IsAnswerText : List ℕ → Type 0
IsAnswerText bytes = (A : Answer) × IsWritable A × (bytes ≡ answer_text A)

-- lines count from 1
abbrev pub IsFaultLine : List ℕ → ℕ → Type 0
IsFaultLine bytes zero = ⊥
IsFaultLine bytes (suc k) = IsFirstBad for_prime bytes k ⊎ (IsWhole for_prime bytes (suc k) × (¬ IsAnswerText bytes))

abbrev pub IsFaultOf : List ℕ → AnswerFault → Type 0
IsFaultOf bytes (Line n) = IsFaultLine bytes n
IsFaultOf bytes NoMemory = Unit {0}

-- bytes have a fault at one line only
abbrev pub OneFaultLine : Type 0
OneFaultLine = (bytes : List ℕ) (m n : ℕ) → IsFaultLine bytes m → IsFaultLine bytes n → m ≡ n

-- bytes with a fault are no answer's text
abbrev pub FaultsAreNoAnswers : Type 0
FaultsAreNoAnswers = (bytes : List ℕ) (n : ℕ) → IsFaultLine bytes n → ¬ IsAnswerText bytes
