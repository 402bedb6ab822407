-- The words and the bytes determine the part, the first class whose rank is above the limit, and this rank. For a sample the words do.
use Rattle.std.proofs.Common.{◌≡◌, ◌<◌, sym, ◌∙◌, subst, arith}
use Rattle.pq_base.specs.declared.prime.Prime.{Prime}
use Rattle.pq_base.specs.declared.prime.Prime.TheVariants.{P2, P3, P5, P7}
use Rattle.pq_base.specs.Prime.{prime_value}
use Rattle.pq_base.proofs.PrimeLaws.{offered-two}
use Rattle.samples.specs.Samples.{sample_presentation, sample_prime, sample_class}
use Rattle.samples.proofs.Samples.{sample_primes_are_offered}
use Rattle.pq_run.specs.Texts.{HasLargeRank}
use Rattle.pq_run.specs.SampleRanks.{HasLargeSampleRank}
use Rattle.pq_run.specs.Kinds.{IsTooLargeFor, OneTooLarge, IsLargeSampleFor, OneLargeSample}
use Rattle.pq_run.proofs.Commands.{one_command, AtPrimeAndClass-both, AtSample-both}
use Rattle.pq_run.proofs.Texts.{one_large_rank, one_large_order}

pub prime_value-above : (p : Prime) → 1 < prime_value p
prime_value-above P2 = omega arith
prime_value-above P3 = omega arith
prime_value-above P5 = omega arith
prime_value-above P7 = omega arith

pub one_too_large : OneTooLarge
one_too_large words bytes run other j k r s x y =
    let same : y.0 ≡ x.0 = one_command words y.0 x.0 y.1 x.1 in
    let here : IsTooLargeFor other k s bytes x.0 = subst (IsTooLargeFor other k s bytes) same y.2 in
    AtPrimeAndClass-both (λ p c. HasLargeRank p c run j r bytes) (λ p c. HasLargeRank p c other k s bytes)
    ((run ≡ other) × (j ≡ k) × (r ≡ s))
    (λ p c one two. one_large_rank (prime_value p) c run other j k r s bytes (prime_value-above p) one two) x.0 x.2.1 here.1

pub one_large_sample : OneLargeSample
one_large_sample words run other j k r s x y =
    let same : y.0 ≡ x.0 = one_command words y.0 x.0 y.1 x.1 in
    let here : IsLargeSampleFor other k s x.0 = subst (IsLargeSampleFor other k s) same y.2 in
    let numbers = AtSample-both (HasLargeSampleRank j r) (HasLargeSampleRank k s) ((j ≡ k) × (r ≡ s))
    (λ n. one_large_order (sample_presentation n) (sample_prime n) sample_class j k r s
    (offered-two (sample_prime n) (sample_primes_are_offered n)))
    x.0 x.2.1 here.1 in
    (x.2.0 ∙ sym here.0, numbers.0, numbers.1)
