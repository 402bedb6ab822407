-- Images of words along lists of endomorphisms: the first endomorphism acts on the list of images or of elements first.
use Rattle.std.proofs.Common.{◌≡◌, ℕ, zero, suc, ℤ, List, [], ◌∷◌, get_or, length, map}
use Rattle.pq_base.specs.SignedWord.{sub, HasLetters}
use Rattle.pq_base.specs.LPresentation.{LPresentation, IsLPresentation, IsRelator, endo_at, along, AreWords, AreEndos}
use Rattle.pq_base.specs.LPresentation.IsRelator.{fixed_relator, iterated_relator}
use Rattle.pq_base.specs.Table.{Table, IsGroup, AllBelow, value}
use Rattle.pq_base.proofs.words.WordLaws.{sub-sub}
use Rattle.pq_base.proofs.words.LetterLaws.{HasLetters-sub, HasLetters-get_or}
use Rattle.pq_base.proofs.tables.TableGroup.{value-sub}

pub sub-along : (endos : List (List (List ℤ))) (e : ℕ) (s : List ℕ) (w : List ℤ) (f : List (List ℤ))
    → sub (along endos (e ∷ s) w) f ≡ sub (along endos s w) (map (λ (u : List ℤ). sub u f) (endo_at endos e))
sub-along endos e s w f = sub-sub (along endos s w) (endo_at endos e) f

pub value-along : (T : Table) (g : IsGroup T) (f : List ℕ) (h : AllBelow T.size f) (endos : List (List (List ℤ))) (e : ℕ) (s : List ℕ)
    (w : List ℤ)
    → value T f (along endos (e ∷ s) w) ≡ value T (map (value T f) (endo_at endos e)) (along endos s w)
value-along T g f h endos e s w = value-sub T g f h (along endos s w) (endo_at endos e)

-- images stay over the generators
AreWords-get_or : (n : ℕ) (endos : List (List (List ℤ))) (i : ℕ) → AreEndos n endos → AreWords n (get_or endos i [])
AreWords-get_or n [] i h = tt
AreWords-get_or n (f ∷ fs) zero h = h.1
AreWords-get_or n (f ∷ fs) (suc i) h = AreWords-get_or n fs i h.2

pub AreWords-endo_at : (n : ℕ) (endos : List (List (List ℤ))) (e : ℕ) → AreEndos n endos → AreWords n (endo_at endos e)
AreWords-endo_at n endos zero h = tt
AreWords-endo_at n endos (suc i) h = AreWords-get_or n endos i h

pub HasLetters-along : (n : ℕ) (endos : List (List (List ℤ))) (s : List ℕ) (w : List ℤ) → AreEndos n endos → HasLetters n w
    → HasLetters n (along endos s w)
HasLetters-along n endos [] w h i = i
HasLetters-along n endos (e ∷ s) w h i = HasLetters-sub n (along endos s w) (endo_at endos e) (AreWords-endo_at n endos e h)

-- so every relator is over the generators
pub HasLetters-IsRelator : (L : LPresentation) → IsLPresentation L → {r : List ℤ} → IsRelator L r → HasLetters (length L.names) r
HasLetters-IsRelator L l (fixed_relator i h) = HasLetters-get_or (length L.names) L.fixed i l.fixed_words
HasLetters-IsRelator L l (iterated_relator s i e h) =
    HasLetters-along (length L.names) L.endos s (get_or L.iterated i []) l.endo_words
    (HasLetters-get_or (length L.names) L.iterated i l.iterated_words)
