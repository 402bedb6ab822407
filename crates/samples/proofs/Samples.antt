-- A sample is a presentation within the limits, for a prime that is offered.
use Rattle.std.proofs.Common.{◌≡◌, ◌<◌, ◌≤◌, ◌⊎◌, ◌/◌, ◌%◌, ℕ, zero, suc, ℤ, List, [], ◌∷◌, get_or, length, All, inl, inr, refl, arith}
use Rattle.std.specs.Global.{Vec}
use Rattle.std.proofs.lemmas.List.Elements.{All-nil, All-cons, All-weaker}
use Rattle.pq_base.specs.Name.{IsName}
use Rattle.pq_base.specs.Prime.{offered_primes, IsOffered}
use Rattle.pq_base.specs.LPresentation.{IsLPresentation, AreWords, AreEndos}
use Rattle.lpres_reader.specs.Limits.{AreShort, letters_in, IsWithinLimits}
use Rattle.lpres_reader.specs.Parts.{IsPresentationWithinLimits}
use Rattle.lpres_reader.specs.Presentations.{made_of}
use Rattle.samples.specs.Samples.{drawn_words, relators_from, exchange, sample_names, presentation_of, sample_presentation}
use Rattle.samples.specs.Pieces.{AreDrawn}
use Rattle.samples.specs.SampleLaws.{SamplesArePresentations, SamplePrimesAreOffered}
use Rattle.samples.proofs.DrawnWords.{drawn_words_are_drawn}
use Rattle.samples.proofs.SampleNames.{length-sample_names, sample_names_are_distinct, All-sample_names}
use Rattle.samples.proofs.Parts.{AreWords-relators_from, length-relators_from, AreShort-relators_from, letters_in-relators_from}
use Rattle.samples.proofs.Parts.{AreWords-exchange, length-exchange, AreShort-exchange, letters_in-exchange}

module _ (ws : List (List ℤ)) (drawn : AreDrawn ws) where
  relators : AreWords (length sample_names) (relators_from 3 ws)
  relators = AreWords-relators_from (length sample_names) 3 ws drawn.each (omega (arith, length-sample_names)) (omega arith)
      (omega (arith, length-sample_names, drawn.count))

  images : AreEndos (length sample_names) (exchange ws ∷ [])
  images = (
    omega (arith, length-sample_names, length-exchange ws, drawn.count),
    AreWords-exchange (length sample_names) ws drawn.each (omega (arith, length-sample_names)),
    tt,
  )

  is_presentation : (b : ℕ) → IsLPresentation (presentation_of b ws)
  is_presentation zero = record { distinct = sample_names_are_distinct; fixed_words = relators; iterated_words = tt; endo_words = tt }
  is_presentation (suc k) =
      record { distinct = sample_names_are_distinct; fixed_words = tt; iterated_words = relators; endo_words = images }

  few_relators : length (relators_from 3 ws) ≤ 4096
  few_relators = omega (arith, length-relators_from 3 ws, drawn.count)

  relator_letters : letters_in (relators_from 3 ws) ≡ 6030
  relator_letters = omega (arith, letters_in-relators_from 3 ws drawn.each, drawn.count)

  image_letters : letters_in (exchange ws) ≡ 6002
  image_letters = omega (arith, letters_in-exchange ws drawn.each, drawn.count)

  name_lengths : All (λ n. length n ≤ 32) sample_names
  name_lengths = All-weaker IsName (λ n. length n ≤ 32) (λ n is. is.count) sample_names All-sample_names

  none : AreShort []
  none = All-nil (λ w. length w ≤ 65536)

  is_within : (b : ℕ) → IsWithinLimits (presentation_of b ws)
  is_within zero = record {
    some_generator = omega (arith, length-sample_names);
    generators = omega (arith, length-sample_names);
    name_lengths = name_lengths;
    fixed = few_relators;
    iterated = omega arith;
    endos = omega arith;
    fixed_letters = AreShort-relators_from 3 ws drawn.each;
    iterated_letters = none;
    endo_letters = All-nil AreShort;
    total = omega (arith, relator_letters);
  }
  is_within (suc k) = record {
    some_generator = omega (arith, length-sample_names);
    generators = omega (arith, length-sample_names);
    name_lengths = name_lengths;
    fixed = omega arith;
    iterated = few_relators;
    endos = omega arith;
    fixed_letters = none;
    iterated_letters = AreShort-relators_from 3 ws drawn.each;
    endo_letters = All-cons AreShort (exchange ws) [] (AreShort-exchange ws drawn.each) (All-nil AreShort);
    total = omega (arith, relator_letters, image_letters);
  }

  pub presentation_within_limits : (b : ℕ) → IsPresentationWithinLimits (presentation_of b ws)
  presentation_within_limits b = (is_presentation b, is_within b)

pub samples_are_presentations : SamplesArePresentations
unfolding sample_presentation
samples_are_presentations n = is_presentation (drawn_words 30 n) (drawn_words_are_drawn n) ((n / 4) % 2)

-- a sample has no fixed relators or no endomorphisms
pub samples_have_one_part : (n : ℕ) → ((sample_presentation n).fixed ≡ []) ⊎ ((sample_presentation n).endos ≡ [])
unfolding sample_presentation
samples_have_one_part n = one_part ((n / 4) % 2)
  where
    one_part : (b : ℕ) → ((presentation_of b (drawn_words 30 n)).fixed ≡ []) ⊎ ((presentation_of b (drawn_words 30 n)).endos ≡ [])
    one_part zero = inr refl
    one_part (suc k) = inl refl

offered_at : (k : ℕ) → k < 4 → IsOffered (get_or offered_primes k 0)
offered_at zero small = inl refl
offered_at (suc zero) small = inr (inl refl)
offered_at (suc (suc zero)) small = inr (inr (inl refl))
offered_at (suc (suc (suc zero))) small = inr (inr (inr (inl refl)))
offered_at (suc (suc (suc (suc k)))) small = absurd (omega arith)

pub sample_primes_are_offered : SamplePrimesAreOffered
sample_primes_are_offered n = offered_at (n % 4) (omega arith)

pub sample_within_limits : (n : ℕ) → IsPresentationWithinLimits (sample_presentation n)
unfolding sample_presentation
sample_within_limits n = presentation_within_limits (drawn_words 30 n) (drawn_words_are_drawn n) ((n / 4) % 2)

-- the presentation of these parts is the sample of a number
module _ (n : ℕ) (names : List (List ℕ)) (ws fixed iterated : List (List ℤ)) (endos : List (Vec (List ℤ))) where
  pub made_fixed : (n / 4) % 2 ≡ 0 → names ≡ sample_names → ws ≡ drawn_words 30 n → fixed ≡ relators_from 3 ws → iterated ≡ [] → endos ≡ []
      → made_of names fixed iterated endos ≡ sample_presentation n
  unfolding sample_presentation
  made_fixed even is_names drawn is_fixed is_iterated is_endos = rw (even, is_names, is_fixed, is_iterated, is_endos, drawn) refl

  pub made_iterated : (images : Vec (List ℤ)) → (n / 4) % 2 ≡ 1 → names ≡ sample_names → ws ≡ drawn_words 30 n → fixed ≡ []
      → iterated ≡ relators_from 3 ws
      → endos ≡ images ∷ [] → images.items ≡ exchange ws → made_of names fixed iterated endos ≡ sample_presentation n
  unfolding sample_presentation
  made_iterated images odd is_names drawn is_fixed is_iterated is_endos is_images =
      rw (odd, is_names, is_fixed, is_iterated, is_endos, is_images, drawn) refl
