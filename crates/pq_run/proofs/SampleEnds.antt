-- How a command for a sample ends. One of the largest quotients of the sample has a rank that is too large, or none has; so its number
-- decides the end, unless the sink fails or memory is wanting.
use Rattle.std.proofs.Common.{◌≡◌, ◌⊎◌, ℕ, List, inl, inr}
use Rattle.pq_base.specs.declared.status.Status.{Status}
use Rattle.pq_base.specs.declared.status.Status.TheVariants as status
use Rattle.pq_io.specs.Faults.{Rose}
use Rattle.pq_run.specs.declared.command.Command.{Command}
use Rattle.pq_run.specs.declared.input.Input.{Input}
use Rattle.pq_run.specs.declared.input.Input.TheVariants.{Presentation, Certificate}
use Rattle.pq_run.specs.declared.refusal.Refusal.{Refusal}
use Rattle.pq_run.specs.declared.refusal.Refusal.TheVariants.{Words, ReadFault, InputTooLong, Text, TooLarge, CertificateLine}
use Rattle.pq_run.specs.declared.refusal.Refusal.TheVariants.{CertificatePart, NoMemory}
use Rattle.pq_run.specs.Command.{Asks}
use Rattle.pq_run.specs.SampleRanks.{HasLargeSampleRank, HasSmallSampleRanks}
use Rattle.pq_run.specs.Kinds.{ReadsInput, IsReading, IsSample, IsLargeSample, IsSmallSample}
use Rattle.pq_run.specs.Refusals.{refusal_status}
use Rattle.pq_run.specs.Streams.{Reading, Writing}
use Rattle.pq_run.specs.Cause.{IsCause}
use Rattle.pq_run.specs.Ends.{Ends}
use Rattle.pq_run.specs.Ends.Ends.{done, cut, refused}
use Rattle.pq_run.proofs.Commands.{Asks-words, Asks-weaker, Asks-apart, AtSample-weaker, AtSample-both, reading-not_sample}

large-small : (c : Command) → IsLargeSample c → IsSmallSample c → ⊥
large-small c large small =
    AtSample-both (HasLargeSampleRank large.1 large.2) HasSmallSampleRanks ⊥ (λ n l s. s large.1 large.2 l.last l.large l.order) c
    large.3.1 small

large-sample : (c : Command) → IsLargeSample c → IsSample c
large-sample c large = AtSample-weaker (HasLargeSampleRank large.1 large.2) (λ n. Unit {0}) (λ n l. tt) c large.3.1

small-sample : (c : Command) → IsSmallSample c → IsSample c
small-sample c small = AtSample-weaker HasSmallSampleRanks (λ n. Unit {0}) (λ n s. tt) c small

-- the ends, each with what it says of the sample and of the counts of faults
data SampleEnd (words : List (List ℕ)) (w : Writing) (end : Status) : Type 0 where
  whole : end ≡ status.Done → Asks IsSmallSample words → SampleEnd words w end
  part : end ≡ status.WriteFault → Asks IsSmallSample words → Rose w.before w.after → SampleEnd words w end
  large : end ≡ status.TooLarge → Asks IsLargeSample words → SampleEnd words w end
  wanting : end ≡ status.NoMemory → SampleEnd words w end

module _ (words : List (List ℕ)) (r : Reading) (w : Writing) (end : Status) where
  reads_nothing : Asks IsReading words → Asks IsSample words → ⊥
  reads_nothing = Asks-apart IsReading IsSample words (reading-not_sample (λ n. Unit {0}))

  reads_no_input : (input : Input) → Asks (ReadsInput input) words → Asks IsSample words → ⊥
  reads_no_input input reads = reads_nothing (Asks-weaker (ReadsInput input) IsReading words (λ c k. (input, k)) reads)

  refused_end : (refusal : Refusal) → Asks IsSample words → IsCause words r refusal → end ≡ refusal_status refusal → SampleEnd words w end
  refused_end Words ask cause is = absurd (cause (Asks-words IsSample words ask))
  refused_end ReadFault ask cause is = absurd (reads_nothing cause.0 ask)
  refused_end (InputTooLong input) ask cause is = absurd (reads_no_input input cause.0 ask)
  refused_end (Text fault) ask cause is = absurd (reads_no_input Presentation cause.0 ask)
  refused_end (TooLarge run k rank) ask (inl of_input) is = absurd (reads_no_input Presentation of_input.0 ask)
  refused_end (TooLarge run k rank) ask (inr of_sample) is = large is (of_sample.0, of_sample.1, (run, k, rank, of_sample.2))
  refused_end (CertificateLine n) ask cause is = absurd (reads_no_input Certificate cause.0 ask)
  refused_end (CertificatePart run k judged) ask cause is = absurd (reads_no_input Certificate cause.0 ask)
  refused_end NoMemory ask cause is = wanting is

  sample_end : Ends words r w end → Asks IsSample words → SampleEnd words w end
  sample_end (done is came by) ask = whole is (came.sample ask)
  sample_end (cut is came by) ask = part is (came.sample ask) by.fault
  sample_end (refused by) ask = refused_end by.refusal ask by.cause by.is

  both : Asks IsLargeSample words → Asks IsSmallSample words → ⊥
  both = Asks-apart IsLargeSample IsSmallSample words large-small

  large_end : SampleEnd words w end → Asks IsLargeSample words → (end ≡ status.TooLarge) ⊎ (end ≡ status.NoMemory)
  large_end (whole is small) h = absurd (both h small)
  large_end (part is small rose) h = absurd (both h small)
  large_end (large is _) h = inl is
  large_end (wanting is) h = inr is

  small_end : SampleEnd words w end → Asks IsSmallSample words → ¬ Rose w.before w.after → (end ≡ status.Done) ⊎ (end ≡ status.NoMemory)
  small_end (whole is _) h firm = inl is
  small_end (part is _ rose) h firm = absurd (firm rose)
  small_end (large is l) h firm = absurd (both l h)
  small_end (wanting is) h firm = inr is

  pub sample_too_large-ends : Ends words r w end → Asks IsLargeSample words → (end ≡ status.TooLarge) ⊎ (end ≡ status.NoMemory)
  sample_too_large-ends ends h = large_end (sample_end ends (Asks-weaker IsLargeSample IsSample words large-sample h)) h

  pub sample_complete-ends : Ends words r w end → Asks IsSmallSample words → ¬ Rose w.before w.after → (end ≡ status.Done)
      ⊎ (end ≡ status.NoMemory)
  sample_complete-ends ends h firm = small_end (sample_end ends (Asks-weaker IsSmallSample IsSample words small-sample h)) h firm
