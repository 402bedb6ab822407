-- Elements of a group table that obey an L-presentation fit its largest quotient of class c at level c.
use Rattle.std.proofs.Common.{◌≡◌, ℕ, ◌<◌, ℤ, List, [], ◌++◌, get_or, length, ap, sym, ◌∙◌, subst, arith}
use Rattle.pq_base.specs.SignedWord.{inv, sub, HasLetters}
use Rattle.pq_base.specs.LPresentation.{LPresentation, Obeys, AreWords}
use Rattle.pq_base.specs.Table.{Table, IsGroup, InLevel, times, inverse, value}
use Rattle.pq_base.specs.Presentation.{IsRelatorOf, letter}
use Rattle.pq_base.specs.Joined.{Joined}
use Rattle.pq_base.specs.Answer.{Answer, IsAnswer, image_words}
use Rattle.pq_base.specs.Largest.{IsLargest}
use Rattle.pq_base.specs.EntryWords.{spelling_words}
use Rattle.pq_base.proofs.words.WordLaws.{sub-append, sub-inv, sub-letter}
use Rattle.pq_base.proofs.words.LetterLaws.{HasLetters-append, HasLetters-inv, HasLetters-get_or, HasLetters-letter, HasLetters-relator}
use Rattle.pq_base.proofs.words.LetterLaws.{HasLetters-sub}
use Rattle.pq_base.proofs.words.JoinedLaws.{joined-refl, joined-from_equal, joined-trans, joined-append, joined-inv, inv-append-joined}
use Rattle.pq_base.proofs.words.JoinedLaws.{relator-joined}
use Rattle.pq_base.proofs.words.SpelledBack.{spelled_words-back}
use Rattle.pq_base.proofs.words.SpellingLetters.{AreWords-spelling_words}
use Rattle.pq_base.proofs.tables.TableGroup.{value-append, value-inv, value-letter, value-sub}
use Rattle.pq_base.proofs.tables.LevelQuotients.{LevelQuotient}
use Rattle.pq_base.proofs.KilledWords.{killed-level}
use Rattle.cover_quotient.specs.Fits.{spelled_elements, Fits}
use Rattle.cover_quotient.proofs.stages.ImageNumbers.{AreWords-image_words}

module _ (L : LPresentation) (p c : ℕ) (A : Answer) (largest : IsLargest L p c A) (T : Table) (f : List ℕ) (g : IsGroup T)
    (obeys : Obeys T f L)
    (Q : LevelQuotient T p c f) where
  is : IsAnswer A
  is = largest.answer

  -- a word that dies in the quotient has a value in the level
  dies-level : (w : List ℤ) → HasLetters (length A.names) w → Joined A.presentation (sub w (image_words A)) []
      → InLevel T A.presentation.prime c (value T f w)
  dies-level w letters dies =
      subst (λ (q : ℕ). InLevel T q c (value T f w)) (sym largest.prime) (killed-level L p c A largest T f g obeys Q w letters dies)

  -- words in spelled generators
  AreWords-spelled : AreWords (length A.names) (spelling_words A)
  AreWords-spelled = subst (λ (n : ℕ). AreWords n (spelling_words A)) is.image_count (AreWords-spelling_words A is)

  back : (w : List ℤ) → HasLetters A.presentation.rank w → Joined A.presentation (sub (sub w (spelling_words A)) (image_words A)) w
  back = spelled_words-back A.presentation A.presentation.rank (spelling_words A) (image_words A) largest.generated

  relator-level : (r : List ℤ) → IsRelatorOf A.presentation r → InLevel T A.presentation.prime c (value T (spelled_elements T f A) r)
  relator-level r e =
      subst (λ (x : ℕ). InLevel T A.presentation.prime c x) (value-sub T g f obeys.elements r (spelling_words A))
      (dies-level (sub r (spelling_words A)) (HasLetters-sub (length A.names) r (spelling_words A) AreWords-spelled)
      (joined-trans (back r (HasLetters-relator A.presentation is.presentation e)) (relator-joined A.presentation e)))

  -- the image of a given generator, behind the inverse of the word of its exponents in spelled generators
  module _ (i : ℕ) (l : i < length A.images) where
    abbrev v : List ℤ
    v = get_or (image_words A) i []

    abbrev u : List ℤ
    u = inv (sub v (spelling_words A)) ++ letter i

    u-letters : HasLetters (length A.names) u
    u-letters =
        let count = is.image_count in
        HasLetters-append (length A.names) (inv (sub v (spelling_words A))) (letter i)
        (HasLetters-inv (length A.names) (sub v (spelling_words A)) (HasLetters-sub (length A.names) v (spelling_words A) AreWords-spelled))
        (HasLetters-letter (length A.names) i (omega arith))

    u-under_images : sub u (image_words A) ≡ inv (sub (sub v (spelling_words A)) (image_words A)) ++ v
    u-under_images =
        sub-append (inv (sub v (spelling_words A))) (letter i) (image_words A)
        ∙ ap (λ (w : List ℤ). w ++ sub (letter i) (image_words A)) (sub-inv (sub v (spelling_words A)) (image_words A))
        ∙ ap (λ (w : List ℤ). inv (sub (sub v (spelling_words A)) (image_words A)) ++ w) (sub-letter i (image_words A))

    v-letters : HasLetters A.presentation.rank v
    v-letters = HasLetters-get_or A.presentation.rank (image_words A) i (AreWords-image_words A is largest.consistent)

    u-dies : Joined A.presentation (sub u (image_words A)) []
    u-dies =
        joined-trans (joined-from_equal A.presentation u-under_images)
        (joined-trans (joined-append (joined-inv (back v v-letters)) (joined-refl A.presentation v)) (inv-append-joined A.presentation v))

    u-value : value T f u ≡ times T (inverse T (value T (spelled_elements T f A) v)) (get_or f i 0)
    u-value =
        value-append T g f obeys.elements (inv (sub v (spelling_words A))) (letter i)
        ∙ ap (λ (x : ℕ). times T x (value T f (letter i)))
        (value-inv T g f obeys.elements (sub v (spelling_words A)) ∙ ap (inverse T) (value-sub T g f obeys.elements v (spelling_words A)))
        ∙ ap (times T (inverse T (value T (spelled_elements T f A) v))) (value-letter T g f obeys.elements i)

    image-level : InLevel T A.presentation.prime c
        (times T (inverse T (value T (spelled_elements T f A) (get_or (image_words A) i []))) (get_or f i 0))
    image-level = subst (λ (x : ℕ). InLevel T A.presentation.prime c x) u-value (dies-level u u-letters u-dies)

  pub largest-fits : Fits T f c A
  largest-fits = record { relators = relator-level; images = image-level }
