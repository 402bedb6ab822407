-- How a command ends: with its output, with a first part of it because the sink failed, or refused.
-- From: this project's own commands.
use Rattle.std.specs.Prelude.{◌≡◌, ◌⊎◌, ℕ, List, IfSome}
use Rattle.pq_base.specs.declared.status.Status.{Status}
use Rattle.pq_base.specs.declared.status.Status.TheVariants as status
use Rattle.pq_io.specs.Faults.{Rose}
use Rattle.pq_io.specs.Writing.{Gains, GainsProperPrefix}
use Rattle.pq_run.specs.declared.command.Command.{Command}
use Rattle.pq_run.specs.declared.refusal.Refusal.{Refusal}
use Rattle.pq_run.specs.declared.refusal.Refusal.TheVariants.{Text, TooLarge, CertificateLine, CertificatePart, NoMemory}
use Rattle.pq_run.specs.Command.{CommandWords, AreCommandWords, Asks}
use Rattle.pq_run.specs.Input.{input_of, read_of, IsReadToEnd}
use Rattle.pq_run.specs.Output.{Output, HasOneOutput}
use Rattle.pq_run.specs.Kinds.{IsReading, IsAnswered, IsSample, IsSmallSample}
use Rattle.pq_run.specs.Refusals.{refusal_line, refusal_status}
use Rattle.pq_run.specs.Cause.{IsCause}
use Rattle.pq_run.specs.Streams.{Reading, Writing}

-- an output for these bytes was written as far as a condition on it says
abbrev pub HasWritten : List (List ℕ) → List ℕ → (List ℕ → Type 0) → Type 0
HasWritten words bytes P = (output : List ℕ) × Output words bytes output × P output

-- a command has read its input to its end, and has written one output, and nothing else
pub record IsDone (words : List (List ℕ)) (r : Reading) (w : Writing) : Type 0 where
  pub command : Command
  pub spelled : CommandWords words command
  pub read : IsReadToEnd (input_of command) r.left r.rest
  pub written : IfSome (read_of (input_of command) r.left) (λ bytes. HasWritten words bytes (Gains w.taken w.then))

-- the same, but the sink failed, and a last part of the output wasn't written
pub record IsCut (words : List (List ℕ)) (r : Reading) (w : Writing) : Type 0 where
  pub command : Command
  pub spelled : CommandWords words command
  pub read : IsReadToEnd (input_of command) r.left r.rest
  pub written : IfSome (read_of (input_of command) r.left) (λ bytes. HasWritten words bytes (GainsProperPrefix w.taken w.then))
  pub fault : Rose w.before w.after

-- each output of the command for what was read is what was written, where a command's output is determined
abbrev pub IsOnlyOutput : List (List ℕ) → Reading → Writing → Type 0
IsOnlyOutput words r w = (command : Command) → CommandWords words command → HasOneOutput command
    → IfSome (read_of (input_of command) r.left) (λ bytes. (o : List ℕ) → Output words bytes o → Gains w.taken w.then o)

-- a sink took this line, or a proper prefix of it because it failed
abbrev pub TakesLine : Writing → List ℕ → Type 0
TakesLine w line = Gains w.taken w.then line ⊎ (Rose w.before w.after × GainsProperPrefix w.taken w.then line)

-- a command is refused: there is a cause, the status says which, and its line was written
pub record IsRefused (words : List (List ℕ)) (r : Reading) (w : Writing) (status : Status) : Type 0 where
  pub refusal : Refusal
  pub cause : IsCause words r refusal
  pub is : status ≡ refusal_status refusal
  pub line : TakesLine w (refusal_line refusal)

-- what the input decides comes, unless a read fails or memory is wanting before
abbrev pub IsDecided : Status → Status → Type 0
IsDecided decided end = (end ≡ decided) ⊎ ((end ≡ status.ReadFault) ⊎ (end ≡ status.NoMemory))

-- a command ended as this refusal has it: with its status, and its line was written
abbrev pub EndsAs : Refusal → Writing → Status → Type 0
EndsAs refusal w end = (end ≡ refusal_status refusal) × TakesLine w (refusal_line refusal)

-- a refusal whose line needs memory
abbrev pub NeedsMemory : Refusal → Type 0
NeedsMemory (Text fault) = Unit {0}
NeedsMemory (TooLarge run k rank) = Unit {0}
NeedsMemory (CertificateLine n) = Unit {0}
NeedsMemory (CertificatePart run k part) = Unit {0}
NeedsMemory _ = ⊥

-- a command ended as this refusal has it, or memory was wanting for its line, and this was told in its place
abbrev pub EndsBy : Refusal → Writing → Status → Type 0
EndsBy refusal w end = EndsAs refusal w end ⊎ (NeedsMemory refusal × EndsAs NoMemory w end)

-- what is known of a command that came to its output: what was read is answered, where it reads an input; the sample has small ranks,
-- where it is one for a sample
pub record CameToOutput (words : List (List ℕ)) (r : Reading) : Type 0 where
  pub command : AreCommandWords words
  pub answered : Asks IsReading words → IfSome r.left (λ bytes. Asks (IsAnswered bytes) words)
  pub sample : Asks IsSample words → Asks IsSmallSample words

pub data Ends (words : List (List ℕ)) (r : Reading) (w : Writing) (end : Status) : Type 0 where
  done : end ≡ status.Done → CameToOutput words r → IsDone words r w → Ends words r w end
  cut : end ≡ status.WriteFault → CameToOutput words r → IsCut words r w → Ends words r w end
  refused : IsRefused words r w end → Ends words r w end
