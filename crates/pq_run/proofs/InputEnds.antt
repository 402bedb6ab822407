-- How a command ends that reads an input, where the source tells it. The input is too long, or no presentation, or one of a rank that
-- is too large, or no valid certificate, or answered, and at most one of these; so it decides the end, unless a device fails or memory
-- is wanting.
use Rattle.std.proofs.Common.{◌≡◌, ◌⊎◌, ℕ, List, Option, Some, None, IfSome, inl, inr, refl, subst}
use Rattle.pq_base.specs.declared.status.Status.{Status}
use Rattle.pq_base.specs.declared.status.Status.TheVariants as status
use Rattle.pq_base.specs.Prime.{prime_value}
use Rattle.pq_io.specs.Faults.{Rose}
use Rattle.pq_run.specs.declared.command.Command.{Command}
use Rattle.pq_run.specs.declared.input.Input.{Input}
use Rattle.pq_run.specs.declared.input.Input.TheVariants.{Presentation, Certificate}
use Rattle.pq_run.specs.declared.refusal.Refusal.{Refusal}
use Rattle.pq_run.specs.declared.refusal.Refusal.TheVariants.{Words, ReadFault, InputTooLong, Text, TooLarge, CertificateLine}
use Rattle.pq_run.specs.declared.refusal.Refusal.TheVariants.{CertificatePart, NoMemory}
use Rattle.pq_run.specs.Command.{Asks}
use Rattle.pq_run.specs.Input.{IsAbove, IsWithin}
use Rattle.pq_run.specs.Texts.{IsReadable, HasLargeRank, HasSmallRanks, HasFault}
use Rattle.pq_run.specs.SampleRanks.{HasLargeSampleRank}
use Rattle.pq_run.specs.CheckedTexts.{IsValidText, HasFailingPart}
use Rattle.pq_run.specs.Kinds.{ReadsInput, IsReading, IsTooLong, IsGiven, IsBadText, IsCertRefused, IsTooLargeFor, IsTooLarge, IsSmall}
use Rattle.pq_run.specs.Kinds.{IsChecked, IsAnswered, IsLargeSampleFor}
use Rattle.pq_run.specs.Refusals.{refusal_status}
use Rattle.pq_run.specs.Streams.{Reading, Writing}
use Rattle.cert_text.specs.CertificateFaults.{IsFaultLine}
use Rattle.pq_run.specs.Cause.{IsCause}
use Rattle.pq_run.specs.Ends.{Ends, IsDecided}
use Rattle.pq_run.specs.Ends.Ends.{done, cut, refused}
use Rattle.pq_run.proofs.Commands.{Asks-words, Asks-weaker, Asks-apart, AtPrimeAndClass-gives, AtPrimeAndClass-both, one_input}
use Rattle.pq_run.proofs.Commands.{reading-not_sample, too_long-not_given}
use Rattle.pq_run.proofs.CheckedTexts.{fault-not_valid, failing-not_valid}
use Rattle.pq_run.proofs.Texts.{HasFault-unreadable, HasLargeRank-HasSmallRanks}

-- one input is for a presentation, or for a certificate
given_apart : (bytes : List ℕ) (c : Command) → IsGiven Presentation bytes c → IsGiven Certificate bytes c → ⊥
given_apart bytes c x y = differ (one_input Presentation Certificate c x.0 y.0)
  where
    differ : Presentation ≡ Certificate → ⊥
    differ e = cc

-- what an input is given for
module _ (bytes : List ℕ) where
  small-readable : (c : Command) → IsSmall bytes c → IsReadable bytes
  small-readable c is = AtPrimeAndClass-gives (λ p d. HasSmallRanks p d bytes) (IsReadable bytes)
      (λ p d h. (h.presentation, h.reads)) c is.1

  large-readable : (c : Command) → IsTooLarge bytes c → IsReadable bytes
  large-readable c is =
      AtPrimeAndClass-gives (λ p d. HasLargeRank p d is.0 is.1 is.2 bytes) (IsReadable bytes) (λ p d h. (h.presentation, h.reads)) c is.3.1

  large-small : (c : Command) → IsTooLarge bytes c → IsSmall bytes c → ⊥
  large-small c large small =
      AtPrimeAndClass-both (λ p d. HasLargeRank p d large.0 large.1 large.2 bytes) (λ p d. HasSmallRanks p d bytes) ⊥
      (λ p d h s. HasLargeRank-HasSmallRanks (prime_value p) d large.0 large.1 large.2 bytes h s) c large.3.1 small.1

  -- of what the input may be, at most one holds
  long-answered : (c : Command) → IsTooLong bytes c → IsAnswered bytes c → ⊥
  long-answered c long (inl small) = too_long-not_given bytes Presentation c long small.0
  long-answered c long (inr checked) = too_long-not_given bytes Certificate c long checked.0

  bad-answered : (c : Command) → IsBadText bytes c → IsAnswered bytes c → ⊥
  bad-answered c bad (inl small) = bad.1 (small-readable c small)
  bad-answered c bad (inr checked) = given_apart bytes c bad.0 checked.0

  large-answered : (c : Command) → IsTooLarge bytes c → IsAnswered bytes c → ⊥
  large-answered c large (inl small) = large-small c large small
  large-answered c large (inr checked) = given_apart bytes c large.3.0 checked.0

  cert-answered : (c : Command) → IsCertRefused bytes c → IsAnswered bytes c → ⊥
  cert-answered c cert (inl small) = given_apart bytes c small.0 cert.0
  cert-answered c cert (inr checked) = cert.1 checked.1

  answered-reading : (c : Command) → IsAnswered bytes c → IsReading c
  answered-reading c (inl small) = (Presentation, small.0.0)
  answered-reading c (inr checked) = (Certificate, checked.0.0)

-- the ends, each with what it says of the input and of the counts of faults
data InputEnd (words : List (List ℕ)) (bytes : List ℕ) (r : Reading) (w : Writing) (end : Status) : Type 0 where
  whole : end ≡ status.Done → Asks (IsAnswered bytes) words → InputEnd words bytes r w end
  part : end ≡ status.WriteFault → Asks (IsAnswered bytes) words → Rose w.before w.after → InputEnd words bytes r w end
  long : end ≡ status.InputTooLong → Asks (IsTooLong bytes) words → InputEnd words bytes r w end
  faulty : end ≡ status.BadText → Asks (IsBadText bytes) words → InputEnd words bytes r w end
  large : end ≡ status.TooLarge → Asks (IsTooLarge bytes) words → InputEnd words bytes r w end
  invalid : end ≡ status.CertRefused → Asks (IsCertRefused bytes) words → InputEnd words bytes r w end
  unread : end ≡ status.ReadFault → Rose r.before r.after → InputEnd words bytes r w end
  wanting : end ≡ status.NoMemory → InputEnd words bytes r w end

module _ (words : List (List ℕ)) (bytes : List ℕ) (r : Reading) (w : Writing) (end : Status) (is_left : r.left ≡ Some bytes) where
  here : (P : List ℕ → Type 0) → IfSome r.left P → P bytes
  here P holds = subst (λ (left : Option (List ℕ)). IfSome left P) is_left holds

  refused_end : (refusal : Refusal) → Asks IsReading words → IsCause words r refusal → end ≡ refusal_status refusal
      → InputEnd words bytes r w end
  refused_end Words ask cause is = absurd (cause (Asks-words IsReading words ask))
  refused_end ReadFault ask cause is = unread is cause.1
  refused_end (InputTooLong input) ask cause is = long is (cause.0.0, cause.0.1, (input, cause.0.2, here (IsAbove input) cause.1))
  refused_end (Text fault) ask cause is =
      let has = here (λ b. IsWithin Presentation b × HasFault fault b) cause.1 in
      faulty is (cause.0.0, cause.0.1, ((cause.0.2, has.0), HasFault-unreadable bytes fault has.1))
  refused_end (TooLarge run k rank) ask (inl of_input) is =
      let has = here (λ b. Asks (IsTooLargeFor run k rank b) words) of_input.1 in
      large is (has.0, has.1, (run, k, rank, has.2))
  refused_end (TooLarge run k rank) ask (inr of_sample) is =
      absurd (Asks-apart IsReading (IsLargeSampleFor run k rank) words
      (λ c reads l. reading-not_sample (HasLargeSampleRank k rank) c reads l.1) ask of_sample)
  refused_end (CertificateLine n) ask cause is =
      let has = here (λ b. IsWithin Certificate b × IsFaultLine b n) cause.1 in
      invalid is (cause.0.0, cause.0.1, ((cause.0.2, has.0), fault-not_valid bytes n has.1))
  refused_end (CertificatePart run k judged) ask cause is =
      let has = here (λ b. IsWithin Certificate b × HasFailingPart run k judged b) cause.1 in
      invalid is (cause.0.0, cause.0.1, ((cause.0.2, has.0), failing-not_valid run k judged bytes has.1))
  refused_end NoMemory ask cause is = wanting is

  input_end : Ends words r w end → Asks IsReading words → InputEnd words bytes r w end
  input_end (done is came by) ask = whole is (here (λ b. Asks (IsAnswered b) words) (came.answered ask))
  input_end (cut is came by) ask = part is (here (λ b. Asks (IsAnswered b) words) (came.answered ask)) by.fault
  input_end (refused by) ask = refused_end by.refusal ask by.cause by.is

  -- an input that is too long isn't given
  long-given : (input : Input) (K : Command → Type 0) → ((c : Command) → K c → IsGiven input bytes c) → Asks (IsTooLong bytes) words
      → Asks K words → ⊥
  long-given input K gives = Asks-apart (IsTooLong bytes) K words (λ c long k. too_long-not_given bytes input c long (gives c k))

  long-bad : Asks (IsTooLong bytes) words → Asks (IsBadText bytes) words → ⊥
  long-bad = long-given Presentation (IsBadText bytes) (λ c k. k.0)

  long-large : Asks (IsTooLong bytes) words → Asks (IsTooLarge bytes) words → ⊥
  long-large = long-given Presentation (IsTooLarge bytes) (λ c k. k.3.0)

  long-cert : Asks (IsTooLong bytes) words → Asks (IsCertRefused bytes) words → ⊥
  long-cert = long-given Certificate (IsCertRefused bytes) (λ c k. k.0)

  bad-large : Asks (IsBadText bytes) words → Asks (IsTooLarge bytes) words → ⊥
  bad-large bad a = bad.2.1 (large-readable bytes a.0 a.2)

  bad-cert : Asks (IsBadText bytes) words → Asks (IsCertRefused bytes) words → ⊥
  bad-cert = Asks-apart (IsBadText bytes) (IsCertRefused bytes) words (λ c bad cert. given_apart bytes c bad.0 cert.0)

  large-cert : Asks (IsTooLarge bytes) words → Asks (IsCertRefused bytes) words → ⊥
  large-cert = Asks-apart (IsTooLarge bytes) (IsCertRefused bytes) words (λ c large cert. given_apart bytes c large.3.0 cert.0)

  -- what isn't answered
  not_answered : (K : Command → Type 0) → ((c : Command) → K c → IsAnswered bytes c → ⊥) → Asks K words → Asks (IsAnswered bytes) words → ⊥
  not_answered K apart = Asks-apart K (IsAnswered bytes) words apart

  long_end : InputEnd words bytes r w end → Asks (IsTooLong bytes) words → IsDecided status.InputTooLong end
  long_end (whole is a) h = absurd (not_answered (IsTooLong bytes) (long-answered bytes) h a)
  long_end (part is a rose) h = absurd (not_answered (IsTooLong bytes) (long-answered bytes) h a)
  long_end (long is _) h = inl is
  long_end (faulty is other) h = absurd (long-bad h other)
  long_end (large is other) h = absurd (long-large h other)
  long_end (invalid is other) h = absurd (long-cert h other)
  long_end (unread is rose) h = inr (inl is)
  long_end (wanting is) h = inr (inr is)

  bad_end : InputEnd words bytes r w end → Asks (IsBadText bytes) words → IsDecided status.BadText end
  bad_end (whole is a) h = absurd (not_answered (IsBadText bytes) (bad-answered bytes) h a)
  bad_end (part is a rose) h = absurd (not_answered (IsBadText bytes) (bad-answered bytes) h a)
  bad_end (long is other) h = absurd (long-bad other h)
  bad_end (faulty is _) h = inl is
  bad_end (large is other) h = absurd (bad-large h other)
  bad_end (invalid is other) h = absurd (bad-cert h other)
  bad_end (unread is rose) h = inr (inl is)
  bad_end (wanting is) h = inr (inr is)

  large_end : InputEnd words bytes r w end → Asks (IsTooLarge bytes) words → IsDecided status.TooLarge end
  large_end (whole is a) h = absurd (not_answered (IsTooLarge bytes) (large-answered bytes) h a)
  large_end (part is a rose) h = absurd (not_answered (IsTooLarge bytes) (large-answered bytes) h a)
  large_end (long is other) h = absurd (long-large other h)
  large_end (faulty is other) h = absurd (bad-large other h)
  large_end (large is _) h = inl is
  large_end (invalid is other) h = absurd (large-cert h other)
  large_end (unread is rose) h = inr (inl is)
  large_end (wanting is) h = inr (inr is)

  cert_end : InputEnd words bytes r w end → Asks (IsCertRefused bytes) words → IsDecided status.CertRefused end
  cert_end (whole is a) h = absurd (not_answered (IsCertRefused bytes) (cert-answered bytes) h a)
  cert_end (part is a rose) h = absurd (not_answered (IsCertRefused bytes) (cert-answered bytes) h a)
  cert_end (long is other) h = absurd (long-cert other h)
  cert_end (faulty is other) h = absurd (bad-cert other h)
  cert_end (large is other) h = absurd (large-cert other h)
  cert_end (invalid is _) h = inl is
  cert_end (unread is rose) h = inr (inl is)
  cert_end (wanting is) h = inr (inr is)

  answered_end : InputEnd words bytes r w end → Asks (IsAnswered bytes) words → ¬ Rose r.before r.after → ¬ Rose w.before w.after
      → (end ≡ status.Done) ⊎ (end ≡ status.NoMemory)
  answered_end (whole is a) h steady firm = inl is
  answered_end (part is a rose) h steady firm = absurd (firm rose)
  answered_end (long is other) h steady firm = absurd (not_answered (IsTooLong bytes) (long-answered bytes) other h)
  answered_end (faulty is other) h steady firm = absurd (not_answered (IsBadText bytes) (bad-answered bytes) other h)
  answered_end (large is other) h steady firm = absurd (not_answered (IsTooLarge bytes) (large-answered bytes) other h)
  answered_end (invalid is other) h steady firm = absurd (not_answered (IsCertRefused bytes) (cert-answered bytes) other h)
  answered_end (unread is rose) h steady firm = absurd (steady rose)
  answered_end (wanting is) h steady firm = inr is

module _ (words : List (List ℕ)) (r : Reading) (w : Writing) (end : Status) (ends : Ends words r w end) where
  told : (left : Option (List ℕ)) (Q : List ℕ → Type 0) → ((bytes : List ℕ) → left ≡ Some bytes → Q bytes) → IfSome left Q
  told None Q by = tt
  told (Some bytes) Q by = by bytes refl

  -- the end, where these bytes were left and the command reads them
  by_input : (K : Command → Type 0) → ((c : Command) → K c → IsReading c) → (bytes : List ℕ) → r.left ≡ Some bytes → Asks K words
      → InputEnd words bytes r w end
  by_input K reads bytes is_left h = input_end words bytes r w end is_left ends (Asks-weaker K IsReading words reads h)

  pub too_long-ends : IfSome r.left (λ bytes. Asks (IsTooLong bytes) words → IsDecided status.InputTooLong end)
  too_long-ends = told r.left (λ bytes. Asks (IsTooLong bytes) words → IsDecided status.InputTooLong end)
      (λ bytes is_left h. long_end words bytes r w end is_left (by_input (IsTooLong bytes) (λ c k. (k.0, k.1)) bytes is_left h) h)

  pub bad_text-ends : IfSome r.left (λ bytes. Asks (IsBadText bytes) words → IsDecided status.BadText end)
  bad_text-ends = told r.left (λ bytes. Asks (IsBadText bytes) words → IsDecided status.BadText end)
      (λ bytes is_left h. bad_end words bytes r w end is_left (by_input (IsBadText bytes) (λ c k. (Presentation, k.0.0)) bytes is_left h) h)

  pub too_large-ends : IfSome r.left (λ bytes. Asks (IsTooLarge bytes) words → IsDecided status.TooLarge end)
  too_large-ends = told r.left (λ bytes. Asks (IsTooLarge bytes) words → IsDecided status.TooLarge end)
      (λ bytes is_left h. large_end words bytes r w end is_left
      (by_input (IsTooLarge bytes) (λ c k. (Presentation, k.3.0.0)) bytes is_left h) h)

  pub cert_refused-ends : IfSome r.left (λ bytes. Asks (IsCertRefused bytes) words → IsDecided status.CertRefused end)
  cert_refused-ends = told r.left (λ bytes. Asks (IsCertRefused bytes) words → IsDecided status.CertRefused end)
      (λ bytes is_left h. cert_end words bytes r w end is_left
      (by_input (IsCertRefused bytes) (λ c k. (Certificate, k.0.0)) bytes is_left h) h)

  pub complete-ends : IfSome r.left
      (λ bytes. Asks (IsAnswered bytes) words → ¬ Rose r.before r.after → ¬ Rose w.before w.after → (end ≡ status.Done)
      ⊎ (end ≡ status.NoMemory))
  complete-ends = told r.left
      (λ bytes. Asks (IsAnswered bytes) words → ¬ Rose r.before r.after → ¬ Rose w.before w.after → (end ≡ status.Done)
      ⊎ (end ≡ status.NoMemory))
      (λ bytes is_left h. answered_end words bytes r w end is_left (by_input (IsAnswered bytes) (answered-reading bytes) bytes is_left h) h)
