-- What the tower finds for a sample: its canonical largest quotient, whose summary is an output, or a rank that is too large, which is
-- the cause of a refusal.
use Rattle.std.proofs.Common.{◌≡◌, ℕ, List, inl, inr, refl, subst}
use Rattle.pq_base.specs.declared.status.Status.{Status}
use Rattle.pq_base.specs.LPresentation.{LPresentation}
use Rattle.pq_base.specs.Answer.{Answer}
use Rattle.derivation_log.specs.declared.source.Run.TheVariants.{Iterated, Whole}
use Rattle.tower.specs.declared.refusal.TowerRefusal.{TowerRefusal}
use Rattle.tower.specs.declared.refusal.TowerRefusal.TheVariants as tower
use Rattle.tower.specs.Answers.{IsQuotient}
use Rattle.tower.specs.TwoRuns.{TakesTwoRuns, IsRefusalOfWhole}
use Rattle.samples.specs.Samples.{sample_presentation, sample_prime, sample_class}
use Rattle.samples.specs.Summary.{summary_text}
use Rattle.samples.proofs.Samples.{samples_have_one_part}
use Rattle.pq_run.specs.declared.command.Command.TheVariants.{Sample}
use Rattle.pq_run.specs.declared.refusal.Refusal.{Refusal}
use Rattle.pq_run.specs.declared.refusal.Refusal.TheVariants.{Words, ReadFault, InputTooLong, Text, TooLarge, CertificateLine}
use Rattle.pq_run.specs.declared.refusal.Refusal.TheVariants.{CertificatePart, NoMemory}
use Rattle.pq_run.specs.Command.{CommandWords}
use Rattle.pq_run.specs.SampleRanks.{HasSmallSampleRanks}
use Rattle.pq_run.specs.Kinds.{IsReading, IsSample}
use Rattle.pq_run.specs.Output.{WritesSummary}
use Rattle.pq_run.specs.Refusals.{refusal_of_tower}
use Rattle.pq_run.specs.Streams.{Reading, Writing}
use Rattle.pq_run.specs.Cause.{IsSampleCause, IsCause}
use Rattle.pq_run.specs.Ends.{CameToOutput, Ends}
use Rattle.pq_run.specs.Ends.Ends.{done, cut}
use Rattle.pq_run.proofs.Commands.{Asks-apart, reading-not_sample}
use Rattle.pq_run.proofs.OutputEnds.{Took}

one_run : (n : ℕ) → TakesTwoRuns (sample_presentation n) → ⊥
one_run n takes = elim (samples_have_one_part n) [ inl none ↦ takes.0 none | inr none ↦ takes.1 none ]

refusal_of_sample : (n : ℕ) (e : TowerRefusal) → IsRefusalOfWhole (sample_presentation n) (sample_prime n) sample_class e
    → IsSampleCause n (refusal_of_tower e)
refusal_of_sample n (tower.TooLarge Iterated k rank) cause = absurd (one_run n cause.0)
refusal_of_sample n (tower.TooLarge Whole k rank) cause = (refl, cause.1)
refusal_of_sample n tower.NoMemory cause = tt

module _ (n : ℕ) (L : LPresentation) (p : ℕ) (same : L ≡ sample_presentation n) (prime : p ≡ sample_prime n) where
  of_sample : (P : LPresentation → ℕ → Type 0) → P L p → P (sample_presentation n) (sample_prime n)
  of_sample P holds = subst (λ (q : ℕ). P (sample_presentation n) q) prime (subst (λ (M : LPresentation). P M p) same holds)

  pub small_sample_ranks : (A : Answer) → IsQuotient L p sample_class A → HasSmallSampleRanks n
  small_sample_ranks A quotient = let here = of_sample (λ M q. IsQuotient M q sample_class A) quotient in here.small

  pub writes_summary : (A : Answer) (written : List ℕ) → IsQuotient L p sample_class A → written ≡ summary_text n A
      → WritesSummary n written
  writes_summary A written quotient told =
      let here = of_sample (λ M q. IsQuotient M q sample_class A) quotient in
      record { answer = A; largest = here.largest; canonical = here.canonical; text = told }

  pub sample_refused : (e : TowerRefusal) → IsRefusalOfWhole L p sample_class e → IsSampleCause n (refusal_of_tower e)
  sample_refused e cause = refusal_of_sample n e (of_sample (λ M q. IsRefusalOfWhole M q sample_class e) cause)

module _ (words : List (List ℕ)) (n : ℕ) (spelled : CommandWords words (Sample n)) (r : Reading) where
  pub sample_cause : (refusal : Refusal) → IsSampleCause n refusal → IsCause words r refusal
  sample_cause Words cause = absurd cause
  sample_cause ReadFault cause = absurd cause
  sample_cause (InputTooLong input) cause = absurd cause
  sample_cause (Text fault) cause = absurd cause
  sample_cause (TooLarge run k rank) cause = inr (Sample n, spelled, cause)
  sample_cause (CertificateLine m) cause = absurd cause
  sample_cause (CertificatePart run k part) cause = absurd cause
  sample_cause NoMemory cause = (Sample n, spelled)

  came : HasSmallSampleRanks n → CameToOutput words r
  came small = record {
    command = (Sample n, spelled);
    answered = λ reads. absurd (Asks-apart IsReading IsSample words (reading-not_sample (λ m. Unit {0})) reads (Sample n, spelled, tt));
    sample = λ asks. (Sample n, spelled, small);
  }

  -- a command that came to its output ends with it, or with a first part of it because the sink failed
  pub summary_ends : (output : List ℕ) (w : Writing) (end : Status) → r.rest ≡ r.left → HasSmallSampleRanks n → WritesSummary n output
      → Took w end output → Ends words r w end
  summary_ends output w end untouched small writes (inl all) =
      done all.0 (came small) (record {
        command = Sample n;
        spelled = spelled;
        read = untouched;
        written = (output, (Sample n, spelled, writes), all.1);
      })
  summary_ends output w end untouched small writes (inr first) =
      cut first.0 (came small) (record {
        command = Sample n;
        spelled = spelled;
        read = untouched;
        written = (output, (Sample n, spelled, writes), first.2);
        fault = first.1;
      })
