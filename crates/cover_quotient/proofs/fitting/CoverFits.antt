-- Elements of a group table that fit an answer at level c, in its covers: up to level c + 1 each relation of a cover holds and
-- the words of justified rows are trivial, so they fit the next answer at level c + 1.
use Rattle.std.proofs.Common.{◌≡◌, ℕ, suc, ◌<◌, None, ℤ, List, [], ◌∷◌, ◌++◌, get_or, length, map, refl, ap, ap₂, sym, ◌∙◌, subst, inl, inr}
use Rattle.std.specs.List.{All}
use Rattle.pq_base.specs.Table.{Table, IsGroup, AllBelow, InLevel, times, inverse, value}
use Rattle.pq_base.specs.Presentation.{IsRelatorOf, word_from}
use Rattle.pq_base.specs.Joined.{Joined}
use Rattle.pq_base.specs.Answer.{Answer, Definition, IsAnswer}
use Rattle.pq_base.specs.Answer.Definition.{image}
use Rattle.pq_base.proofs.groups.Groups.{Group, value_in}
use Rattle.pq_base.proofs.tables.TableSeries.{table_level-zero}
use Rattle.pq_base.proofs.tables.TableGroup.{Element, elements, get_or-elements}
use Rattle.fp_rows.specs.Rows.{IsRow, add_rows}
use Rattle.fp_echelon.specs.Span.{AreRows, InSpan}
use Rattle.pc_presentation.specs.Rowed.{flat}
use Rattle.p_cover.specs.RowedAnswer.{rowed, rowed_images, tails_word}
use Rattle.pq_base.specs.EntryWords.{IsSourceOf, spelling_words, entry_word}
use Rattle.p_cover.specs.Sources.{place_in}
use Rattle.p_cover.specs.Covers.{CoverOf, IsCover, rowed_cover}
use Rattle.cover_quotient.specs.Fits.{spelled_elements, Fits, tail_element, cover_elements, LeftOutFit, IsJustified}
use Rattle.cover_quotient.proofs.fitting.EntryLevels.{entry-level}
use Rattle.pq_base.proofs.groups.LevelGroups.{level_group, numbers, numbers-elements, numbers-values, value_in-number, same_one-level}
use Rattle.pq_base.proofs.groups.LevelGroups.{level-same_one, level-central, level-order}
use Rattle.cover_quotient.proofs.fitting.TailValues.{spelled_in, with_tails}
use Rattle.cover_quotient.proofs.fitting.CoverValues.{entry_elements}
use Rattle.cover_quotient.proofs.carried_rows.RowValues.{row_value-sum, span-one}
use Rattle.cover_quotient.proofs.kept_tails.KeptValues.{AreCentral, cover-is, cover-sources, cover-relators, cover-joined}
use Rattle.cover_quotient.proofs.fitting.JustifiedValues.{image-value, empty-justified, word-justified}

module _ (T : Table) (g : IsGroup T) (p k : ℕ) where
  pub length-elements : (f : List ℕ) (h : AllBelow T.size f) → length (elements T f h) ≡ length f
  length-elements [] h = refl
  length-elements (x ∷ f) h = ap suc (length-elements f h.1)

  pub numbers-append : (xs ys : List (Element T)) → numbers T g p k (xs ++ ys) ≡ numbers T g p k xs ++ numbers T g p k ys
  numbers-append [] ys = refl
  numbers-append (x ∷ xs) ys = ap (λ (l : List ℕ). x.number ∷ l) (numbers-append xs ys)

  module _ (f : List ℕ) (h : AllBelow T.size f) (A : Answer) where
    -- values of words in the given generators
    pub given-number : (w : List ℤ) → (value_in (level_group T g p k) (elements T f h) w).number ≡ value T f w
    given-number w =
        value_in-number T g p k (elements T f h) w ∙ ap (λ (l : List ℕ). value T l w) (numbers-elements T g p k f h)

    numbers-entries : (ds : List Definition)
        → numbers T g p k (entry_elements (level_group T g p k) (elements T f h) A ds) ≡ map (tail_element T f A) ds
    numbers-entries [] = refl
    numbers-entries (d ∷ ds) = ap₂ (λ (x : ℕ) (xs : List ℕ). x ∷ xs) (given-number (entry_word A d)) (numbers-entries ds)

    numbers-with_tails : (is : IsAnswer A) (ds : List Definition)
        → numbers T g p k (with_tails (level_group T g p k) (elements T f h) A is
        (entry_elements (level_group T g p k) (elements T f h) A ds))
        ≡ spelled_elements T f A ++ map (tail_element T f A) ds
    numbers-with_tails is ds =
        numbers-append (spelled_in (level_group T g p k) (elements T f h) A) (entry_elements (level_group T g p k) (elements T f h) A ds)
        ∙ ap₂ (λ (xs ys : List ℕ). xs ++ ys)
        (numbers-values T g p k (elements T f h) f (numbers-elements T g p k f h) (spelling_words A)) (numbers-entries ds)

    -- and in the generators and tails
    pub tails-number : (is : IsAnswer A) (ds : List Definition) (w : List ℤ)
        → (value_in (level_group T g p k)
        (with_tails (level_group T g p k) (elements T f h) A is (entry_elements (level_group T g p k) (elements T f h) A ds)) w).number
        ≡ value T (spelled_elements T f A ++ map (tail_element T f A) ds) w
    tails-number is ds w =
        value_in-number T g p k (with_tails (level_group T g p k) (elements T f h) A is
        (entry_elements (level_group T g p k) (elements T f h) A ds)) w
        ∙ ap (λ (l : List ℕ). value T l w) (numbers-with_tails is ds)

module _ (T : Table) (g : IsGroup T) (f : List ℕ) (below : AllBelow T.size f) (c : ℕ) (C : CoverOf) (is : IsCover C)
    (some : 1 < C.answer.presentation.prime) (left : LeftOutFit T f c C) (fits : Fits T f c C.answer) where
  abbrev p : ℕ
  p = C.answer.presentation.prime

  abbrev Q : Group
  Q = level_group T g C.answer.presentation.prime (suc c)

  abbrev F : List (Element T)
  F = elements T f below

  abbrev h : List (Element T)
  h = with_tails Q F C.answer is.answer (entry_elements Q F C.answer C.sources)

  entry-number : (d : Definition) → (value_in Q F (entry_word C.answer d)).number ≡ tail_element T f C.answer d
  entry-number d = given-number T g p (suc c) f below C.answer (entry_word C.answer d)

  entry-in_level : (d : Definition) → IsSourceOf C.answer d → InLevel T p c (value_in Q F (entry_word C.answer d)).number
  entry-in_level d s = subst (λ (x : ℕ). InLevel T p c x) (sym (entry-number d)) (entry-level T g f below C.answer c fits d s)

  pub cover-central : AreCentral (level_group T g C.answer.presentation.prime (suc c)) (elements T f below) C.answer
  cover-central = record {
    central = λ d s x. level-central T g p c (value_in Q F (entry_word C.answer d)) x (entry-in_level d s);
    order = λ d s. level-order T g p c (value_in Q F (entry_word C.answer d)) (entry-in_level d s);
  }

  pub cover-left_out : (d : Definition) → IsSourceOf C.answer d → place_in C.sources d ≡ None
      → (level_group T g C.answer.presentation.prime (suc c)).same
      (value_in (level_group T g C.answer.presentation.prime (suc c)) (elements T f below) (entry_word C.answer d))
      (level_group T g C.answer.presentation.prime (suc c)).one
  cover-left_out d s e =
      level-same_one T g p (suc c) (value_in Q F (entry_word C.answer d))
      (subst (λ (x : ℕ). InLevel T p (suc c) x) (sym (entry-number d)) (left d s e))

  cover-number : (w : List ℤ) → (value_in Q h w).number ≡ value T (cover_elements T f C) w
  cover-number w = tails-number T g p (suc c) f below C.answer is.answer C.sources w

  -- what is one
  pub one-in_level : (w : List ℤ) → Q.same (value_in Q h w) Q.one
      → InLevel T C.answer.presentation.prime (suc c) (value T (cover_elements T f C) w)
  one-in_level w e =
      subst (λ (x : ℕ). InLevel T p (suc c) x) (cover-number w) (same_one-level T g p (suc c) (value_in Q h w) e)

  pub relator-in_level : (r : List ℤ) → IsRelatorOf (flat (rowed (rowed_cover C))) r
      → InLevel T C.answer.presentation.prime (suc c) (value T (cover_elements T f C) r)
  relator-in_level r e =
      one-in_level r (cover-relators Q F C.answer is.answer some C.sources is.sources cover-central cover-left_out r e)

  pub image-in_level : (i : ℕ) → i < length C.answer.images
      → InLevel T C.answer.presentation.prime (suc c)
      (times T (inverse T (value T (cover_elements T f C) (get_or (rowed_images (rowed_cover C)) i []))) (get_or f i 0))
  image-in_level i l =
      let w : List ℤ = get_or (rowed_images (rowed_cover C)) i [] in
      subst (λ (x : ℕ). InLevel T p (suc c) x)
      (ap₂ (λ (x y : ℕ). times T (inverse T x) y) (cover-number w) (get_or-elements T g f below i))
      (image-value Q F C.answer is.answer some C.sources is.sources cover-central cover-left_out i l)

  pub joined-in_level : (u v : List ℤ) → Joined (flat (rowed (rowed_cover C))) u v
      → InLevel T C.answer.presentation.prime (suc c)
      (times T (inverse T (value T (cover_elements T f C) u)) (value T (cover_elements T f C) v))
  joined-in_level u v e =
      subst (λ (x : ℕ). InLevel T p (suc c) x)
      (ap₂ (λ (x y : ℕ). times T (inverse T x) y) (cover-number u) (cover-number v))
      (cover-joined Q F C.answer is.answer some C.sources is.sources cover-central cover-left_out {u = u} {v = v} e)

  pub tail-in_level : (t : ℕ) → t < length C.sources
      → InLevel T C.answer.presentation.prime c (tail_element T f C.answer (get_or C.sources t (image 0)))
  tail-in_level t l =
      entry-level T g f below C.answer c fits (get_or C.sources t (image 0))
      (cover-sources Q F C.answer is.answer some C.sources is.sources cover-central cover-left_out t (image 0) l)

  -- sums of rows
  pub sum-in_level : (x y : List ℕ) → IsRow C.answer.presentation.prime (length C.sources) x
      → IsRow C.answer.presentation.prime (length C.sources) y
      → InLevel T C.answer.presentation.prime (suc c)
      (times T (inverse T (value T (cover_elements T f C) (tails_word (rowed_cover C) (add_rows C.answer.presentation.prime x y))))
      (times T (value T (cover_elements T f C) (tails_word (rowed_cover C) x))
      (value T (cover_elements T f C) (tails_word (rowed_cover C) y))))
  sum-in_level x y row row' =
      let u : List ℤ = tails_word (rowed_cover C) x in
      let v : List ℤ = tails_word (rowed_cover C) y in
      let w : List ℤ = tails_word (rowed_cover C) (add_rows p x y) in
      subst (λ (z : ℕ). InLevel T p (suc c) z)
      (ap₂ (λ (a b : ℕ). times T (inverse T a) b) (cover-number w) (ap₂ (times T) (cover-number u) (cover-number v)))
      (row_value-sum Q (rowed (rowed_cover C))
      (cover-is Q F C.answer is.answer some C.sources is.sources cover-central cover-left_out).presentation some h
      (cover-relators Q F C.answer is.answer some C.sources is.sources cover-central cover-left_out) x y row row')

  -- justified rows
  module _ (count : length f ≡ length C.answer.names) where
    justified-one : (x : List ℕ) → IsJustified (rowed_cover C) T f x → Q.same (value_in Q h (word_from C.answer.presentation.rank x)) Q.one
    justified-one x (inl e) = empty-justified Q F C.answer is.answer some C.sources is.sources cover-central cover-left_out x e
    justified-one x (inr e) =
        word-justified Q F C.answer is.answer some C.sources is.sources cover-central cover-left_out
        (length-elements T g p (suc c) f below ∙ count) x e.word e.joined
        (level-same_one T g p (suc c) (value_in Q F e.word)
        (subst (λ (z : ℕ). InLevel T p (suc c) z) (sym (given-number T g p (suc c) f below C.answer e.word ∙ e.zero))
        (table_level-zero T g p (suc c))))

    all_justified : (rows : List (List ℕ)) → All (IsJustified (rowed_cover C) T f) rows
        → All (λ (r : List ℕ). Q.same (value_in Q h (word_from C.answer.presentation.rank r)) Q.one) rows
    all_justified rows all i d l = justified-one (get_or rows i d) (all i d l)

    pub span-is_one : (rows : List (List ℕ)) → AreRows C.answer.presentation.prime (length C.sources) rows
        → All (IsJustified (rowed_cover C) T f) rows → (x : List ℕ) → InSpan C.answer.presentation.prime (length C.sources) rows x
        → Q.same (value_in Q h (word_from C.answer.presentation.rank x)) Q.one
    span-is_one rows are all x s =
        span-one Q (rowed (rowed_cover C))
        (cover-is Q F C.answer is.answer some C.sources is.sources cover-central cover-left_out).presentation some h
        (cover-relators Q F C.answer is.answer some C.sources is.sources cover-central cover-left_out) rows are (all_justified rows all) x s

    pub span-in_level : (rows : List (List ℕ)) → AreRows C.answer.presentation.prime (length C.sources) rows
        → All (IsJustified (rowed_cover C) T f) rows → (x : List ℕ) → InSpan C.answer.presentation.prime (length C.sources) rows x
        → InLevel T C.answer.presentation.prime (suc c) (value T (cover_elements T f C) (tails_word (rowed_cover C) x))
    span-in_level rows are all x s = one-in_level (tails_word (rowed_cover C) x) (span-is_one rows are all x s)
