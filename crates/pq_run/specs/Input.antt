-- What a command reads, how many bytes that may be, and what it leaves in the source.
-- From: this project's own commands.
use Rattle.std.specs.Prelude.{◌≡◌, ◌<◌, ◌≤◌, ◌+◌, ℕ, List, [], length, drop, Option, Some, None, IfSome}
use Rattle.pq_base.specs.Limits.{max_presentation_bytes, max_certificate_bytes}
use Rattle.pq_run.specs.declared.command.Command.{Command}
use Rattle.pq_run.specs.declared.command.Command.TheVariants.{Quotient, Check, Sample}
use Rattle.pq_run.specs.declared.input.Input.{Input}
use Rattle.pq_run.specs.declared.input.Input.TheVariants.{Presentation, Certificate}
use Rattle.pq_run.specs.Command.{CommandWords}

-- what a command reads, where it reads anything
abbrev pub input_of : Command → Option Input
input_of (Quotient p c form) = Some Presentation
input_of Check = Some Certificate
input_of (Sample n) = None

-- the most bytes of an input
abbrev pub byte_limit : Input → ℕ
byte_limit Presentation = max_presentation_bytes
byte_limit Certificate = max_certificate_bytes

abbrev pub IsAbove : Input → List ℕ → Type 0
IsAbove input bytes = byte_limit input < length bytes

abbrev pub IsWithin : Input → List ℕ → Type 0
IsWithin input bytes = length bytes ≤ byte_limit input

-- what is read of the bytes that are left in a source, where it tells them: all, or none where there is no input
abbrev pub read_of : Option Input → Option (List ℕ) → Option (List ℕ)
read_of None left = Some []
read_of (Some input) left = left

-- the input was read to its end; where there is none, all is left as it was
abbrev pub IsReadToEnd : Option Input → Option (List ℕ) → Option (List ℕ) → Type 0
IsReadToEnd None left rest = rest ≡ left
IsReadToEnd (Some input) left rest = IfSome left (λ bytes. rest ≡ Some [])

-- the most bytes that are taken from a source: one more than the limit tells that an input is too long
abbrev pub most_taken : Option Input → ℕ
most_taken None = 0
most_taken (Some input) = byte_limit input + 1

-- at most so many bytes were taken from the front of what was left in a source
abbrev pub IsTaken : ℕ → Option (List ℕ) → Option (List ℕ) → Type 0
IsTaken most left rest = IfSome left (λ bytes. (n : ℕ) × (n ≤ most) × (rest ≡ Some (drop n bytes)))

-- a command took no more than it may
abbrev pub IsTakenBy : List (List ℕ) → Option (List ℕ) → Option (List ℕ) → Type 0
IsTakenBy words left rest = (command : Command) → CommandWords words command → IsTaken (most_taken (input_of command)) left rest
