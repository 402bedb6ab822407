-- Words of a presentation as texts: `a1*a2^3`, and `1` for the empty word.
use Rattle.std.specs.Prelude.{◌<◌, ◌≤◌, All, ℕ, zero, suc, List, [], ◌∷◌, ◌++◌, codes, decimal}
use Rattle.pc_presentation.specs.declared.syllable.Syllable.{Syllable}

-- generator number k
abbrev pub generator_text : ℕ → List ℕ
generator_text k = codes "a" ++ decimal k

-- an exponent, which is left out where it is 1
abbrev pub exponent_text : ℕ → List ℕ
exponent_text zero = codes "^0"
exponent_text (suc zero) = []
exponent_text (suc (suc e)) = codes "^" ++ decimal (suc (suc e))

abbrev pub syllable_text : Syllable → List ℕ
syllable_text s = generator_text s.generator ++ exponent_text s.exponent

-- syllables behind others
abbrev pub further_text : List Syllable → List ℕ
further_text [] = []
further_text (s ∷ ss) = codes "*" ++ (syllable_text s ++ further_text ss)

abbrev pub word_text : List Syllable → List ℕ
word_text [] = codes "1"
word_text (s ∷ ss) = syllable_text s ++ further_text ss

-- no exponent is 0
abbrev pub AreExponents : List Syllable → Type 0
AreExponents w = All (λ s. 1 ≤ s.exponent) w

-- a syllable that a text can hold
abbrev pub IsWritten : Syllable → Type 0
IsWritten s = (s.generator < 1000) × (1 ≤ s.exponent) × (s.exponent < 100)
