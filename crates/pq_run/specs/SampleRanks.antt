-- What a sample may be: one some of whose largest quotients up to its class have a rank above the limit, or one with none such. A sample
-- has no iterated part that is computed first.
-- From: this project's own commands.
use Rattle.std.specs.Prelude.{◌<◌, ◌≤◌, ℕ}
use Rattle.pq_base.specs.Limits.{max_rank}
use Rattle.pq_base.specs.Largest.{HasOrder}
use Rattle.samples.specs.Samples.{sample_presentation, sample_prime, sample_class}
use Rattle.tower.specs.Answers.{IsTooLarge}

-- the first largest quotient of the sample, up to its class, that has a rank above the limit is that of class k: its rank is r
abbrev pub HasLargeSampleRank : ℕ → ℕ → ℕ → Type 0
HasLargeSampleRank k r n = IsTooLarge (sample_presentation n) (sample_prime n) sample_class k r

-- each largest quotient of the sample, up to its class, has a rank within the limit
abbrev pub HasSmallSampleRanks : ℕ → Type 0
HasSmallSampleRanks n = (k r : ℕ) → k ≤ sample_class → max_rank < r → ¬ HasOrder (sample_presentation n) (sample_prime n) k r
