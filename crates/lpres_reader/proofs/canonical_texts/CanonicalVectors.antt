-- Canonical texts that are worked out by hand: that of a lamplighter group, and words with a run of inverses.
use Rattle.std.proofs.Common.{◌≡◌, ℕ, List, [], ◌∷◌, codes, refl}
use Rattle.std.specs.Prelude.{ℤ, pos, negsuc, replicate}
use Rattle.std.specs.Fmt.{digits}
use Rattle.pq_base.specs.LPresentation.{LPresentation}
use Rattle.lpres_reader.specs.CanonicalText.{word_text, canonical_text}

abbrev names : List (List ℕ)
names = codes "a" ∷ codes "t" ∷ codes "u" ∷ []

-- fixed u*t^-1, iterated a^2 and [a,a^u], endo a -> a, t -> t, u -> u*t
abbrev lamplighter : LPresentation
lamplighter = record {
  names = names;
  fixed = (pos 3 ∷ negsuc 1 ∷ []) ∷ [];
  iterated = (pos 1 ∷ pos 1 ∷ []) ∷ (negsuc 0 ∷ negsuc 2 ∷ negsuc 0 ∷ pos 3 ∷ pos 1 ∷ negsuc 2 ∷ pos 1 ∷ pos 3 ∷ []) ∷ [];
  endos = ((pos 1 ∷ []) ∷ (pos 2 ∷ []) ∷ (pos 3 ∷ pos 2 ∷ []) ∷ []) ∷ [];
}

text-lamplighter : canonical_text lamplighter
    ≡ codes "generators a t u\nfixed u*t^-1\niterated a^2\niterated a^-1*u^-1*a^-1*u*a*u^-1*a*u\nendo a -> a, t -> t, u -> u*t\n"
unfolding canonical_text word_text digits
text-lamplighter = refl

-- a power is one run, however its letters came together
text-powers : word_text names (pos 3 ∷ replicate {A = ℤ} 12 (negsuc 0)) ≡ codes "u*a^-12"
unfolding word_text digits
text-powers = refl

text-empty_word : word_text names [] ≡ codes "1"
unfolding word_text
text-empty_word = refl
