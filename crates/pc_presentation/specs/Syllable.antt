-- Sparse words: lists of syllables with rising generators, which stand for lists of exponents.
-- Generators count from 1 in syllables, and places from 0: generator k + 1 is at place k.
use Rattle.std.specs.Prelude.{◌≡◌, ◌<◌, ◌≤◌, ◌+◌, length, ℕ, zero, suc, ℤ, pos, eqb, cond, List, [], ◌∷◌, ◌++◌, All, Bool, true, nat_lt}
use Rattle.std.specs.Prelude.{◌&&◌, IsTrue}
use Rattle.pq_base.specs.SignedWord.{copies}
use Rattle.pq_base.specs.Table.{AllBelow}
use Rattle.pq_base.specs.Presentation.{IsNormal, word_from}
use Rattle.pc_presentation.specs.declared.syllable.Syllable.{Syllable}

abbrev pub syllable : ℕ → ℕ → Syllable
syllable g e = record { generator = g; exponent = e }

-- the exponent of the generator at place k, which no syllable before the first has
abbrev pub first_exponent : ℕ → List Syllable → ℕ
first_exponent k [] = 0
first_exponent k (s ∷ w) = cond (eqb s.generator (suc k)) s.exponent 0

-- the syllables after that generator
abbrev pub after_first : ℕ → List Syllable → List Syllable
after_first k [] = []
after_first k (s ∷ w) = cond (eqb s.generator (suc k)) w (s ∷ w)

-- the exponents of n generators from place k on
abbrev pub spread : ℕ → ℕ → List Syllable → List ℕ
spread zero k w = []
spread (suc n) k w = first_exponent k w ∷ spread n (suc k) (after_first k w)

-- the syllables of the exponents that aren't 0, of the generators from place k on
abbrev pub syllables_of : ℕ → List ℕ → List Syllable
syllables_of k [] = []
syllables_of k (zero ∷ es) = syllables_of (suc k) es
syllables_of k (suc e ∷ es) = syllable (suc k) (suc e) ∷ syllables_of (suc k) es

-- strictly rising generators from place k on, of n generators in all, and exponents from 1 to p - 1
abbrev pub AreSyllables : ℕ → ℕ → ℕ → List Syllable → Type 0
AreSyllables p n k [] = Unit {0}
AreSyllables p n k (s ∷ w) = (k < s.generator) × (s.generator ≤ n) × (1 ≤ s.exponent) × (s.exponent < p) × AreSyllables p n s.generator w

-- the letters of a sparse word
abbrev pub letters_of : List Syllable → List ℤ
letters_of [] = []
letters_of (s ∷ w) = copies (pos s.generator ∷ []) s.exponent ++ letters_of w

-- each generator is one of n
abbrev pub AreGenerators : ℕ → List Syllable → Type 0
AreGenerators n w = All (λ s. (1 ≤ s.generator) × (s.generator ≤ n)) w

-- each generator is after place k
abbrev pub AreLater : ℕ → List Syllable → Type 0
AreLater k w = All (λ s. k < s.generator) w

-- generators rise strictly, from after k on, and exponents are from 1 to p - 1
abbrev pub is_normal_from : ℕ → ℕ → List Syllable → Bool
is_normal_from p k [] = true
is_normal_from p k (s ∷ w) = nat_lt k s.generator && (nat_lt 0 s.exponent && (nat_lt s.exponent p && is_normal_from p s.generator w))

-- generators, which count from 1, rise strictly, and exponents are from 1 to p - 1
abbrev pub IsNormalWord : ℕ → List Syllable → Type 0
IsNormalWord p w = IsTrue (is_normal_from p 0 w)

-- the word is generator g alone, counted from 1
abbrev pub IsGenerator : ℕ → List Syllable → Type 0
IsGenerator g w = w ≡ syllable g 1 ∷ []

-- sparse words and lists of exponents are two forms of one thing, in which a letter means the same
pub record SparseWordsAreExponents : Type 0 where
  pub spread_undoes : (k : ℕ) (e : List ℕ) → spread (length e) k (syllables_of k e) ≡ e
  pub spread_is_undone : (p n m k : ℕ) (w : List Syllable) → k + m ≡ n → AreSyllables p n k w → syllables_of k (spread m k w) ≡ w
  pub sparse : (p n k : ℕ) (e : List ℕ) → k + length e ≤ n → AllBelow p e → AreSyllables p n k (syllables_of k e)
  pub normal : (p n m k : ℕ) (w : List Syllable) → 1 ≤ p → AreSyllables p n k w → IsNormal p m (spread m k w)
  pub same_letters : (k : ℕ) (e : List ℕ) → letters_of (syllables_of k e) ≡ word_from k e
