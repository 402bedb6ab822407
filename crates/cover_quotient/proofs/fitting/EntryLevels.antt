-- Where elements of a group table fit an answer at a level, what each relation and each image fails by is in that level.
use Rattle.std.proofs.Common.{◌≡◌, ℕ, zero, suc, ◌<◌, ℤ, pos, List, [], ◌∷◌, ◌++◌, get_or, ap, sym, ◌∙◌, subst}
use Rattle.pq_base.specs.SignedWord.{inv, copies, comm, sub}
use Rattle.pq_base.specs.Table.{Table, IsGroup, AllBelow, InLevel, times, inverse, value}
use Rattle.pq_base.specs.Presentation.{IsRelatorOf, letter, power_word, commutator_word}
use Rattle.pq_base.specs.Presentation.IsRelatorOf.{power_relator, commutator_relator}
use Rattle.pq_base.specs.Answer.{Answer, Definition, image_words}
use Rattle.pq_base.specs.Answer.Definition.{image, commutator, power}
use Rattle.pq_base.proofs.tables.TableLaws.{inverse-below, inverse-inverse, inverse-times, times-inverse-times, value-below}
use Rattle.pq_base.proofs.tables.TableGroup.{value-append, value-inv, value-letter, value-sub}
use Rattle.pq_base.proofs.tables.TableSeries.{table_level-conjugate}
use Rattle.pq_base.specs.EntryWords.{IsSourceOf, spelling_words, entry_word}
use Rattle.cover_quotient.specs.Fits.{spelled_elements, Fits, tail_element}
use Rattle.cover_quotient.proofs.fitting.FitsStart.{values-below}

module _ (T : Table) (g : IsGroup T) (f : List ℕ) (h : AllBelow T.size f) where
  -- the quotient of a word by another in spelled generators
  pub quotient-number : (A : Answer) (w u : List ℤ)
      → value T f (inv (sub w (spelling_words A)) ++ u) ≡ times T (inverse T (value T (spelled_elements T f A) w)) (value T f u)
  quotient-number A w u =
      value-append T g f h (inv (sub w (spelling_words A))) u
      ∙ ap (λ (x : ℕ). times T x (value T f u))
      (value-inv T g f h (sub w (spelling_words A)) ∙ ap (inverse T) (value-sub T g f h w (spelling_words A)))

  turned : (a b : ℕ) → a < T.size → b < T.size → times T (times T a (inverse T b)) b ≡ a
  turned a b l m =
      g.associative a (inverse T b) b l (inverse-below T g b m) m ∙ ap (times T a) (inverse-times T g b m) ∙ g.neutral_right a l

  module _ (A : Answer) (c : ℕ) (fits : Fits T f c A) where
    relation-level : (w u : List ℤ) → InLevel T A.presentation.prime c (value T (spelled_elements T f A) (u ++ inv w))
        → InLevel T A.presentation.prime c (value T f (inv (sub w (spelling_words A)) ++ sub u (spelling_words A)))
    relation-level w u e =
        let p : ℕ = A.presentation.prime in
        let E : List ℕ = spelled_elements T f A in
        let below : AllBelow T.size (spelled_elements T f A) = values-below T g f h (spelling_words A) in
        let a : ℕ = value T (spelled_elements T f A) u in
        let b : ℕ = value T (spelled_elements T f A) w in
        let la = value-below T g E below u in
        let lb = value-below T g E below w in
        let relator : value T (spelled_elements T f A) (u ++ inv w) ≡ times T a (inverse T b) =
        value-append T g E below u (inv w) ∙ ap (times T a) (value-inv T g E below w) in
        let conjugate : InLevel T p c (times T (inverse T b) (times T (times T a (inverse T b)) b)) =
        table_level-conjugate T g p c (times T a (inverse T b)) b (subst (λ (x : ℕ). InLevel T p c x) relator e) lb in
        let entry : value T f (inv (sub w (spelling_words A)) ++ sub u (spelling_words A)) ≡ times T (inverse T b) a =
        quotient-number A w (sub u (spelling_words A)) ∙ ap (times T (inverse T b)) (value-sub T g f h u (spelling_words A)) in
        subst (λ (x : ℕ). InLevel T p c x) (ap (times T (inverse T b)) (turned a b la lb) ∙ sym entry) conjugate

    pub entry-level : (d : Definition) → IsSourceOf A d → InLevel T A.presentation.prime c (tail_element T f A d)
    entry-level (image zero) s = absurd s
    entry-level (image (suc i)) s =
        let w : List ℤ = get_or (image_words A) i [] in
        let entry : value T f (entry_word A (image (suc i)))
        ≡ times T (inverse T (value T (spelled_elements T f A) (get_or (image_words A) i []))) (get_or f i 0) =
        quotient-number A w (pos (suc i) ∷ []) ∙ ap (times T (inverse T (value T (spelled_elements T f A) w))) (value-letter T g f h i) in
        subst (λ (x : ℕ). InLevel T A.presentation.prime c x) (sym entry) (fits.images i s)
    entry-level (commutator zero i) s = absurd s
    entry-level (commutator (suc j) zero) s = absurd s
    entry-level (commutator (suc j) (suc i)) s =
        relation-level (commutator_word A.presentation j i) (comm (letter j) (letter i))
        (fits.relators (comm (letter j) (letter i) ++ inv (commutator_word A.presentation j i)) (commutator_relator j i s.0 s.1))
    entry-level (power zero) s = absurd s
    entry-level (power (suc j)) s =
        relation-level (power_word A.presentation j) (copies (letter j) A.presentation.prime)
        (fits.relators (copies (letter j) A.presentation.prime ++ inv (power_word A.presentation j)) (power_relator j s))

  -- and elements fit an answer where all these are in the level
  turned_back : (a b : ℕ) → a < T.size → b < T.size
      → times T (inverse T (inverse T b)) (times T (times T (inverse T b) a) (inverse T b)) ≡ times T a (inverse T b)
  turned_back a b l m =
      let i = inverse-below T g b m in
      ap (λ (x : ℕ). times T x (times T (times T (inverse T b) a) (inverse T b))) (inverse-inverse T g b m)
      ∙ ap (times T b) (g.associative (inverse T b) a (inverse T b) i l i)
      ∙ times-inverse-times T g b (times T a (inverse T b)) m (g.closed a (inverse T b) l i)

  module _ (A : Answer) (c : ℕ) (levels : (d : Definition) → IsSourceOf A d → InLevel T A.presentation.prime c (tail_element T f A d)) where
    relator-level : (w u : List ℤ)
        → InLevel T A.presentation.prime c (value T f (inv (sub w (spelling_words A)) ++ sub u (spelling_words A)))
        → InLevel T A.presentation.prime c (value T (spelled_elements T f A) (u ++ inv w))
    relator-level w u e =
        let p : ℕ = A.presentation.prime in
        let E : List ℕ = spelled_elements T f A in
        let below : AllBelow T.size (spelled_elements T f A) = values-below T g f h (spelling_words A) in
        let a : ℕ = value T (spelled_elements T f A) u in
        let b : ℕ = value T (spelled_elements T f A) w in
        let la = value-below T g E below u in
        let lb = value-below T g E below w in
        let entry : value T f (inv (sub w (spelling_words A)) ++ sub u (spelling_words A)) ≡ times T (inverse T b) a =
        quotient-number A w (sub u (spelling_words A)) ∙ ap (times T (inverse T b)) (value-sub T g f h u (spelling_words A)) in
        let conjugate : InLevel T p c (times T (inverse T (inverse T b)) (times T (times T (inverse T b) a) (inverse T b))) =
        table_level-conjugate T g p c (times T (inverse T b) a) (inverse T b) (subst (λ (x : ℕ). InLevel T p c x) entry e)
        (inverse-below T g b lb) in
        let relator : value T (spelled_elements T f A) (u ++ inv w) ≡ times T a (inverse T b) =
        value-append T g E below u (inv w) ∙ ap (times T a) (value-inv T g E below w) in
        subst (λ (x : ℕ). InLevel T p c x) (turned_back a b la lb ∙ sym relator) conjugate

    relators-level : {r : List ℤ} → IsRelatorOf A.presentation r → InLevel T A.presentation.prime c (value T (spelled_elements T f A) r)
    relators-level (power_relator j l) =
        relator-level (power_word A.presentation j) (copies (letter j) A.presentation.prime) (levels (power (suc j)) l)
    relators-level (commutator_relator j i l m) =
        relator-level (commutator_word A.presentation j i) (comm (letter j) (letter i)) (levels (commutator (suc j) (suc i)) (l, m))

    pub fits-from_levels : Fits T f c A
    fits-from_levels = record {
      relators = λ r e. relators-level e;
      images = λ i l.
          let w : List ℤ = get_or (image_words A) i [] in
          subst (λ (x : ℕ). InLevel T A.presentation.prime c x)
          (quotient-number A w (pos (suc i) ∷ []) ∙ ap (times T (inverse T (value T (spelled_elements T f A) w))) (value-letter T g f h i))
          (levels (image (suc i)) l);
    }
