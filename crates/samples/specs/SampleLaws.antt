-- What holds of samples. Each statement is the contract of a function of `laws`.
use Rattle.std.specs.Prelude.{ℕ}
use Rattle.pq_base.specs.LPresentation.{IsLPresentation}
use Rattle.pq_base.specs.Prime.{IsOffered}
use Rattle.samples.specs.Samples.{sample_presentation, sample_prime}

-- each sample is a presentation: its names are distinct, and its relators and images are words in the generators that are named
abbrev pub SamplesArePresentations : Type 0
SamplesArePresentations = (n : ℕ) → IsLPresentation (sample_presentation n)

-- the prime of each sample is one that the engine works with
abbrev pub SamplePrimesAreOffered : Type 0
SamplePrimesAreOffered = (n : ℕ) → IsOffered (sample_prime n)
