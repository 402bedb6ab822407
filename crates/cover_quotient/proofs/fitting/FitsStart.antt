-- All elements of a group table fit each answer at level 0, which is the whole group; and where they fit it at a level that
-- is trivial, the map of the given generators factors through the answer exactly once.
use Rattle.std.proofs.Common.{◌≡◌, ℕ, ◌+◌, ◌<◌, ℤ, List, [], ◌∷◌, ◌++◌, get_or, length, map, ap, sym, ◌∙◌, arith, length-append}
use Rattle.std.proofs.Math.ListN.{get_or-map}
use Rattle.std.proofs.lemmas.Grind.{same_number_lists}
use Rattle.std.proofs.lemmas.List.{length-map}
use Rattle.pq_base.specs.Table.{Table, IsGroup, AllBelow, HasTableClass, times, inverse, value}
use Rattle.pq_base.specs.Presentation.{normal_word}
use Rattle.pq_base.specs.Answer.{Answer, Definition, IsAnswer, image_words, spell, spelled, spellings}
use Rattle.pq_base.specs.Largest.{Factors, FactorsOnce}
use Rattle.pq_base.proofs.tables.TableLaws.{inverse-below, inverse-inverse, inverse-unique, get_or-below, value-below}
use Rattle.pq_base.proofs.tables.TableGroup.{value-letter, value-sub, value-joined}
use Rattle.pq_base.proofs.Generated.{generated}
use Rattle.pq_base.specs.EntryWords.{spelling_words}
use Rattle.cover_quotient.specs.Fits.{spelled_elements, Fits}
use Rattle.cover_quotient.specs.FittingLaws.{FitsAtZero, FitsFactors}

length-spellings : (p : ℕ) (words : List (List ℤ)) (ds : List Definition) → length (spellings p words ds) ≡ length words + length ds
length-spellings p words [] = omega arith
length-spellings p words (d ∷ ds) =
    let more = length-append words (spelled p words d ∷ []) in
    length-spellings p (words ++ spelled p words d ∷ []) ds ∙ omega arith

pub length-spelling_words : (A : Answer) → IsAnswer A → length (spelling_words A) ≡ A.presentation.rank
length-spelling_words A is =
    let c = is.definition_count in
    length-spellings A.presentation.prime [] A.definitions ∙ omega arith

pub length-spelled_elements : (T : Table) (f : List ℕ) (A : Answer) → IsAnswer A → length (spelled_elements T f A) ≡ A.presentation.rank
length-spelled_elements T f A is = length-map (spelling_words A) (value T f) ∙ length-spelling_words A is

module _ (T : Table) (g : IsGroup T) (f : List ℕ) (h : AllBelow T.size f) where
  pub values-below : (words : List (List ℤ)) → AllBelow T.size (map (value T f) words)
  values-below [] = tt
  values-below (w ∷ words) = (value-below T g f h w, values-below words)

  pub fits-at_zero : (A : Answer) → Fits T f 0 A
  fits-at_zero A = record {
    relators = λ r is. value-below T g (spelled_elements T f A) (values-below (spelling_words A)) r;
    images = λ i l.
        let v : ℕ = value T (spelled_elements T f A) (get_or (image_words A) i []) in
        g.closed (inverse T v) (get_or f i 0)
        (inverse-below T g v (value-below T g (spelled_elements T f A) (values-below (spelling_words A)) (get_or (image_words A) i [])))
        (get_or-below T.size f i g.nonempty h);
  }

  module _ (A : Answer) (is : IsAnswer A) (c : ℕ) (fits : Fits T f c A) (class : HasTableClass T A.presentation.prime c)
      (count : length f ≡ length A.names) where
    factors : Factors T f A (spelled_elements T f A)
    factors = record {
      count = length-spelled_elements T f A is;
      elements = values-below (spelling_words A);
      relators = λ r e. class (value T (spelled_elements T f A) r) (fits.relators r e);
      images = λ i l.
          let v : ℕ = value T (spelled_elements T f A) (get_or (image_words A) i []) in
          let below : v < T.size =
          value-below T g (spelled_elements T f A) (values-below (spelling_words A)) (get_or (image_words A) i []) in
          sym (inverse-unique T g (inverse T v) (get_or f i 0) (inverse-below T g v below) (get_or-below T.size f i g.nonempty h)
          (class (times T (inverse T v) (get_or f i 0)) (fits.images i l))
          ∙ inverse-inverse T g v below);
    }

    only : (k : List ℕ) → Factors T f A k → k ≡ spelled_elements T f A
    only k through =
        let image_count : length (image_words A) ≡ length A.names = length-map A.images normal_word ∙ is.image_count in
        let values : map (value T k) (image_words A) ≡ f =
        same_number_lists (map (value T k) (image_words A)) f (length-map (image_words A) (value T k) ∙ image_count ∙ sym count)
        (λ i l.
        let m = length-map (image_words A) (value T k) in
        let images = is.image_count in
        get_or-map (value T k) (image_words A) i [] ∙ through.images i (omega arith)) in
        let rank = length-spelled_elements T f A is in
        let long = through.count in
        same_number_lists k (spelled_elements T f A) (long ∙ sym rank)
        (λ j l.
        sym (value-letter T g k through.elements j)
        ∙ value-joined T g k through.elements A.presentation through.relators (generated A is j (omega arith))
        ∙ value-sub T g k through.elements (spell A j) (image_words A)
        ∙ ap (λ (x : List ℕ). value T x (spell A j)) values
        ∙ sym (get_or-map (value T f) (spelling_words A) j []))

    pub factors-once : FactorsOnce T f A
    factors-once = record { through = spelled_elements T f A; factors = factors; only = only }

pub fits_at_zero : FitsAtZero
fits_at_zero T f A g h = fits-at_zero T g f h A

pub fits_factors : FitsFactors
fits_factors T f c A g h is count class fits = factors-once T g f h A is c fits class count
