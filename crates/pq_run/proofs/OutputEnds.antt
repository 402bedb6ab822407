-- A command that came to its output ends with it, or with a first part of it because the sink failed.
use Rattle.std.proofs.Common.{◌≡◌, ◌⊎◌, ℕ, List, Some, IfSome, [], inl, inr, refl}
use Rattle.std.proofs.lemmas.Option.{IfSome_then}
use Rattle.pq_base.specs.declared.prime.Prime.{Prime}
use Rattle.pq_base.specs.declared.status.Status.{Status}
use Rattle.pq_base.specs.declared.status.Status.TheVariants as status
use Rattle.pq_base.specs.Prime.{prime_value}
use Rattle.pq_io.specs.Faults.{Rose}
use Rattle.pq_io.specs.Writing.{Gains, GainsProperPrefix}
use Rattle.pq_run.specs.declared.command.Command.TheVariants.{Quotient}
use Rattle.pq_run.specs.declared.command.Form.{Form}
use Rattle.pq_run.specs.declared.input.Input.TheVariants.{Presentation}
use Rattle.pq_run.specs.Command.{CommandWords, Asks}
use Rattle.pq_run.specs.Input.{IsWithin}
use Rattle.pq_run.specs.Texts.{HasSmallRanks}
use Rattle.pq_run.specs.Output.{OutputOf}
use Rattle.pq_run.specs.Kinds.{IsReading, IsAnswered, IsSample}
use Rattle.pq_run.specs.Streams.{Reading, Writing}
use Rattle.pq_run.specs.Ends.{HasWritten, CameToOutput, Ends}
use Rattle.pq_run.specs.Ends.Ends.{done, cut}
use Rattle.pq_run.proofs.Commands.{Asks-apart, reading-not_sample}
use Rattle.pq_run.proofs.Causes.{IfSome-both}

-- a sink took an output, or a proper prefix of it because it failed
abbrev pub Took : Writing → Status → List ℕ → Type 0
Took w end output =
    ((end ≡ status.Done) × Gains w.taken w.then output)
    ⊎ ((end ≡ status.WriteFault) × Rose w.before w.after × GainsProperPrefix w.taken w.then output)

module _ (words : List (List ℕ)) (p : Prime) (c : ℕ) (form : Form) (spelled : CommandWords words (Quotient p c form)) (r : Reading) where
  answered : (bytes : List ℕ) → IsWithin Presentation bytes → HasSmallRanks (prime_value p) c bytes → Asks (IsAnswered bytes) words
  answered bytes within small = (
    Quotient p c form,
    spelled,
    inl (
      (refl, within),
      small,
    ),
  )

  reading : Asks IsReading words
  reading = (Quotient p c form, spelled, (Presentation, refl))

  came : IfSome r.left (IsWithin Presentation) → IfSome r.left (HasSmallRanks (prime_value p) c) → CameToOutput words r
  came within small = record {
    command = (Quotient p c form, spelled);
    answered = λ reads.
        IfSome-both (IsWithin Presentation) (HasSmallRanks (prime_value p) c) (λ bytes. Asks (IsAnswered bytes) words) answered
        r.left within small;
    sample = λ asks. absurd (Asks-apart IsReading IsSample words (reading-not_sample (λ n. Unit {0})) reading asks);
  }

  written_so : (output : List ℕ) (P : List ℕ → Type 0) → IfSome r.left (λ text. OutputOf (Quotient p c form) text output) → P output
      → IfSome r.left (λ bytes. HasWritten words bytes P)
  written_so output P writes holds =
      IfSome_then r.left {P = λ text. OutputOf (Quotient p c form) text output} {Q = λ bytes. HasWritten words bytes P} writes
      (λ bytes w. (output, (Quotient p c form, spelled, w), holds))

  pub output_ends : (output : List ℕ) (w : Writing) (end : Status) → IfSome r.left (λ text. r.rest ≡ Some [])
      → IfSome r.left (IsWithin Presentation)
      → IfSome r.left (HasSmallRanks (prime_value p) c) → IfSome r.left (λ text. OutputOf (Quotient p c form) text output)
      → Took w end output → Ends words r w end
  output_ends output w end read within small writes (inl all) =
      done all.0 (came within small) (record {
        command = Quotient p c form;
        spelled = spelled;
        read = read;
        written = written_so output (Gains w.taken w.then) writes all.1;
      })
  output_ends output w end read within small writes (inr first) =
      cut first.0 (came within small) (record {
        command = Quotient p c form;
        spelled = spelled;
        read = read;
        written = written_so output (GainsProperPrefix w.taken w.then) writes first.2;
        fault = first.1;
      })
