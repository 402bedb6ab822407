-- Kinds of commands, and what becomes of their inputs.
-- From: this project's own commands.
use Rattle.std.specs.Prelude.{◌≡◌, ◌⊎◌, ℕ, List, Some}
use Rattle.derivation_log.specs.declared.source.Run.{Run}
use Rattle.derivation_log.specs.declared.source.Run.TheVariants.{Whole}
use Rattle.pq_run.specs.declared.command.Command.{Command}
use Rattle.pq_run.specs.declared.input.Input.{Input}
use Rattle.pq_run.specs.declared.input.Input.TheVariants.{Presentation, Certificate}
use Rattle.pq_run.specs.Command.{Asks, AtPrimeAndClass, AtSample}
use Rattle.pq_run.specs.Input.{input_of, IsAbove, IsWithin}
use Rattle.pq_run.specs.Texts.{IsReadable, HasLargeRank, HasSmallRanks}
use Rattle.pq_run.specs.CheckedTexts.{IsValidText}
use Rattle.pq_run.specs.SampleRanks.{HasLargeSampleRank, HasSmallSampleRanks}

-- a command that reads such an input
abbrev pub ReadsInput : Input → Command → Type 0
ReadsInput input command = input_of command ≡ Some input

-- a command that reads an input
abbrev pub IsReading : Command → Type 0
IsReading command = (input : Input) × ReadsInput input command

-- a command that reads an input, for which the bytes are too many
abbrev pub IsTooLong : List ℕ → Command → Type 0
IsTooLong bytes command = (input : Input) × ReadsInput input command × IsAbove input bytes

-- a command that reads such an input, for which the bytes aren't too many
abbrev pub IsGiven : Input → List ℕ → Command → Type 0
IsGiven input bytes command = ReadsInput input command × IsWithin input bytes

-- a command is given the bytes for a presentation, and they are none
abbrev pub IsBadText : List ℕ → Command → Type 0
IsBadText bytes command = IsGiven Presentation bytes command × ¬ IsReadable bytes

-- a command is given the bytes for a certificate, and they are no valid one
abbrev pub IsCertRefused : List ℕ → Command → Type 0
IsCertRefused bytes command = IsGiven Certificate bytes command × ¬ IsValidText bytes

-- a command is given the bytes for a presentation, and they are one in this part of which class k is the first whose largest quotient
-- has a rank above the limit: the rank is r
abbrev pub IsTooLargeFor : Run → ℕ → ℕ → List ℕ → Command → Type 0
IsTooLargeFor run k r bytes command = IsGiven Presentation bytes command × AtPrimeAndClass (λ p c. HasLargeRank p c run k r bytes) command

-- so, in some part and at some class
abbrev pub IsTooLarge : List ℕ → Command → Type 0
IsTooLarge bytes command = (run : Run) × (k : ℕ) × (r : ℕ) × IsTooLargeFor run k r bytes command

-- a command is given the bytes for a presentation, and they are one none of whose largest quotients up to the class asked for has a
-- rank above the limit, nor of its iterated part, where that is computed first
abbrev pub IsSmall : List ℕ → Command → Type 0
IsSmall bytes command = IsGiven Presentation bytes command × AtPrimeAndClass (λ p c. HasSmallRanks p c bytes) command

-- a command is given the bytes for a certificate, and they are a valid one
abbrev pub IsChecked : List ℕ → Command → Type 0
IsChecked bytes command = IsGiven Certificate bytes command × IsValidText bytes

-- either of both: it is answered
abbrev pub IsAnswered : List ℕ → Command → Type 0
IsAnswered bytes command = IsSmall bytes command ⊎ IsChecked bytes command

-- a command for a sample
abbrev pub IsSample : Command → Type 0
IsSample command = AtSample (λ n. Unit {0}) command

-- a sample of which class k is the first whose largest quotient has a rank above the limit: the rank is r. It is one of the whole
abbrev pub IsLargeSampleFor : Run → ℕ → ℕ → Command → Type 0
IsLargeSampleFor run k r command = (run ≡ Whole) × AtSample (HasLargeSampleRank k r) command

-- so, at some class
abbrev pub IsLargeSample : Command → Type 0
IsLargeSample command = (run : Run) × (k : ℕ) × (r : ℕ) × IsLargeSampleFor run k r command

-- a sample none of whose largest quotients up to its class has a rank above the limit: its summary is written
abbrev pub IsSmallSample : Command → Type 0
IsSmallSample command = AtSample HasSmallSampleRanks command

-- the words and the bytes determine the part, the first class whose rank is above the limit, and this rank
abbrev pub OneTooLarge : Type 0
OneTooLarge = (words : List (List ℕ)) (bytes : List ℕ) (run other : Run) (j k r s : ℕ) → Asks (IsTooLargeFor run j r bytes) words
    → Asks (IsTooLargeFor other k s bytes) words → (run ≡ other) × (j ≡ k) × (r ≡ s)

-- so do the words alone, where they ask for a sample
abbrev pub OneLargeSample : Type 0
OneLargeSample = (words : List (List ℕ)) (run other : Run) (j k r s : ℕ) → Asks (IsLargeSampleFor run j r) words
    → Asks (IsLargeSampleFor other k s) words → (run ≡ other) × (j ≡ k) × (r ≡ s)
