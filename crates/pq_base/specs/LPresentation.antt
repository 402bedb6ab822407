-- L-presentations: generators, fixed relators, iterated relators, and endomorphisms of the free group that carry
-- the iterated relators along. They stand for infinitely many relators.
-- From: L. Bartholdi, Endomorphic presentations of branch groups, 2003.
use Rattle.std.specs.Prelude.{◌≡◌, ◌≢◌, ◌<◌, ℕ, zero, suc, ℤ, List, [], ◌∷◌, get_or, length}
use Rattle.pq_base.specs.SignedWord.{sub, HasLetters}
use Rattle.pq_base.specs.Table.{Table, value, AllBelow}

-- a name is its bytes; an endomorphism is the list of the images of the generators
pub record LPresentation : Type 0 where
  pub names : List (List ℕ)
  pub fixed : List (List ℤ)
  pub iterated : List (List ℤ)
  pub endos : List (List (List ℤ))

-- endomorphism number e, counted from 1
abbrev pub endo_at : List (List (List ℤ)) → ℕ → List (List ℤ)
endo_at endos zero = []
endo_at endos (suc n) = get_or endos n []

-- the image of a word along a list of endomorphism numbers: the first of the list is applied last
abbrev pub along : List (List (List ℤ)) → List ℕ → List ℤ → List ℤ
along endos [] w = w
along endos (e ∷ s) w = sub (along endos s w) (endo_at endos e)

-- every entry is the number of one of n endomorphisms
abbrev pub AreEndoNumbers : ℕ → List ℕ → Type 0
AreEndoNumbers n [] = Unit {0}
AreEndoNumbers n (zero ∷ s) = ⊥
AreEndoNumbers n (suc e ∷ s) = (e < n) × AreEndoNumbers n s

-- the fixed relators, and the images of the iterated ones along every list of endomorphisms
pub data IsRelator (L : LPresentation) : List ℤ → Type 0 where
  fixed_relator : (i : ℕ) → i < length L.fixed → IsRelator L (get_or L.fixed i [])
  iterated_relator : (s : List ℕ) (i : ℕ) → AreEndoNumbers (length L.endos) s → i < length L.iterated
      → IsRelator L (along L.endos s (get_or L.iterated i []))

-- the two parts that are computed: all of it, and the presentation without its fixed relators
pub data Part : Type 0 where
  whole : Part
  iterated_part : Part

abbrev pub part : LPresentation → Part → LPresentation
part L whole = L
part L iterated_part = record L { fixed = [] }

-- a list of elements of a table, one for each generator, at which every relator has value 0
pub record Obeys (T : Table) (f : List ℕ) (L : LPresentation) : Type 0 where
  pub count : length f ≡ length L.names
  pub elements : AllBelow T.size f
  pub kills : (r : List ℤ) → IsRelator L r → value T f r ≡ 0

-- two places of the list never hold one name
abbrev pub AreDistinct : List (List ℕ) → Type 0
AreDistinct names = (i j : ℕ) → i < j → j < length names → get_or names i [] ≢ get_or names j []

-- each word of a list is over n generators
abbrev pub AreWords : ℕ → List (List ℤ) → Type 0
AreWords n [] = Unit {0}
AreWords n (w ∷ ws) = HasLetters n w × AreWords n ws

-- each endomorphism has an image for each of n generators
abbrev pub AreEndos : ℕ → List (List (List ℤ)) → Type 0
AreEndos n [] = Unit {0}
AreEndos n (f ∷ fs) = (length f ≡ n) × AreWords n f × AreEndos n fs

-- distinct names, and words over as many generators as there are names
pub record IsLPresentation (L : LPresentation) : Type 0 where
  pub distinct : AreDistinct L.names
  pub fixed_words : AreWords (length L.names) L.fixed
  pub iterated_words : AreWords (length L.names) L.iterated
  pub endo_words : AreEndos (length L.names) L.endos
