-- Modulo a reduced basis in the span of justified rows, elements that fit an answer at level c fit the next answer at level
-- c + 1; and where no tail is kept, the same answer.
use Rattle.std.proofs.Common.{◌≡◌, ℕ, zero, suc, ◌<◌, ℤ, List, [], ◌∷◌, ◌++◌, get_or, length, refl, ap, ap₂, sym, ◌∙◌, subst, arith}
use Rattle.std.specs.List.{All}
use Rattle.std.proofs.lemmas.List.{length-map}
use Rattle.pq_base.specs.Table.{Table, IsGroup, AllBelow, InLevel, times, inverse, value}
use Rattle.pq_base.specs.Presentation.{IsRelatorOf, word_from}
use Rattle.pq_base.specs.Answer.{Answer, Definition, image_words}
use Rattle.pq_base.proofs.groups.Groups.{Group, value_in}
use Rattle.pq_base.proofs.tables.TableGroup.{Element, elements, get_or-elements}
use Rattle.fp_echelon.specs.Span.{AreRows, InSpan, EachInSpan}
use Rattle.fp_echelon.specs.Reduced.{BasisRow, rows_of, IsReduced}
use Rattle.pc_presentation.specs.Rowed.{IsRowed, flat}
use Rattle.p_cover.specs.RowedAnswer.{RowedAnswer, rowed, row_at, tails_word}
use Rattle.pq_base.specs.EntryWords.{IsSourceOf, entry_word}
use Rattle.p_cover.specs.Covers.{CoverOf, IsCover, rowed_cover}
use Rattle.cover_quotient.specs.Fits.{spelled_elements, Fits, tail_element, LeftOutFit, IsJustified}
use Rattle.cover_quotient.specs.Carried.{carried}
use Rattle.cover_quotient.specs.Kept.{kept_columns, kept_rows}
use Rattle.cover_quotient.specs.NextAnswer.{kept_sources, cover_modulo, eliminated}
use Rattle.cover_quotient.specs.Defining.{KeptMayBeKept}
use Rattle.cover_quotient.proofs.carried_rows.CarriedPresentations.{carried-rowed}
use Rattle.cover_quotient.proofs.kept_tails.KeptRows.{kept_rows-are_rows}
use Rattle.cover_quotient.proofs.kept_tails.KeptCombinations.{carried-is_row}
use Rattle.cover_quotient.proofs.fitting.EntryLevels.{fits-from_levels}
use Rattle.pq_base.proofs.groups.LevelGroups.{level_group, same_one-level}
use Rattle.cover_quotient.proofs.fitting.TailValues.{with_tails, images-value, relators-value}
use Rattle.cover_quotient.proofs.fitting.CoverValues.{entry_elements}
use Rattle.cover_quotient.proofs.kept_tails.KeptValues.{cover-is, tails-central, tails-order, kept-sources, row_at-carried, kept-entries}
use Rattle.cover_quotient.proofs.kept_tails.KeptSpellings.{next-elements, next-image_count, next-image}
use Rattle.cover_quotient.proofs.fitting.CoverFits.{given-number, tails-number, cover-central, cover-left_out, span-is_one}

each-at : (p width : ℕ) (rows xs : List (List ℕ)) → EachInSpan p width rows xs → (i : ℕ) (d : List ℕ) → i < length xs
    → InSpan p width rows (get_or xs i d)
each-at p width rows [] h i d l = absurd (omega arith)
each-at p width rows (x ∷ xs) h zero d l = h.0
each-at p width rows (x ∷ xs) h (suc i) d l = each-at p width rows xs h.1 i d (omega arith)

no_entries : (x : List ℕ) → length x ≡ 0 → x ≡ []
no_entries [] e = refl
no_entries (a ∷ x) e = absurd (omega arith)

module _ (T : Table) (g : IsGroup T) (f : List ℕ) (below : AllBelow T.size f) (c : ℕ) (C : CoverOf) (is : IsCover C)
    (some : 1 < C.answer.presentation.prime) (left : LeftOutFit T f c C) (fits : Fits T f c C.answer)
    (count : length f ≡ length C.answer.names) (bs : List BasisRow) (reduced : IsReduced C.answer.presentation.prime (length C.sources) bs)
    (rows : List (List ℕ)) (are : AreRows C.answer.presentation.prime (length C.sources) rows)
    (all : All (IsJustified (rowed_cover C) T f) rows)
    (each : EachInSpan C.answer.presentation.prime (length C.sources) rows (rows_of bs)) where
  abbrev p : ℕ
  p = C.answer.presentation.prime

  abbrev A : Answer
  A = C.answer

  abbrev Q : Group
  Q = level_group T g C.answer.presentation.prime (suc c)

  abbrev F : List (Element T)
  F = elements T f below

  abbrev h : List (Element T)
  h = with_tails Q F C.answer is.answer (entry_elements Q F C.answer C.sources)

  abbrev K : List ℕ
  K = kept_columns (length C.sources) bs

  abbrev Y : RowedAnswer
  Y = cover_modulo C bs

  abbrev kept : List Definition
  kept = kept_sources C bs

  abbrev h' : List (Element T)
  h' = with_tails Q F C.answer is.answer (entry_elements Q F C.answer kept)

  trivial : All (λ (r : List ℕ). Q.same (value_in Q h (word_from C.answer.presentation.rank r)) Q.one) (rows_of bs)
  trivial i d l =
      span-is_one T g f below c C is some left fits count rows are all (get_or (rows_of bs) i d)
      (each-at p (length C.sources) rows (rows_of bs) each i d l)

  entries : (d : Definition) → IsSourceOf C.answer d
      → Q.same (value_in Q F (entry_word C.answer d)) (value_in Q h' (tails_word Y (row_at Y d)))
  entries d s =
      kept-entries Q F A is.answer some C.sources is.sources (cover-central T g f below c C is some left fits)
      (cover-left_out T g f below c C is some left fits) bs reduced trivial d s

  sources : All (IsSourceOf C.answer) kept
  sources =
      kept-sources Q F A is.answer some C.sources is.sources (cover-central T g f below c C is some left fits)
      (cover-left_out T g f below c C is some left fits) bs reduced trivial

  modulo-rowed : IsRowed (rowed Y)
  modulo-rowed =
      carried-rowed (rowed (rowed_cover C))
      (cover-is Q F A is.answer some C.sources is.sources (cover-central T g f below c C is some left fits)
      (cover-left_out T g f below c C is some left fits)).presentation
      (omega arith) (length K) (kept_rows p (length C.sources) bs) (kept_rows-are_rows p (length C.sources) some bs reduced)

  modulo-count : length A.images ≡ length Y.image_rows
  modulo-count =
      is.answer.image_count
      ∙ sym (cover-is Q F A is.answer some C.sources is.sources (cover-central T g f below c C is some left fits)
      (cover-left_out T g f below c C is some left fits)).image_count
      ∙ sym (length-map (rowed_cover C).image_rows (carried p (length K) (kept_rows p (length C.sources) bs)))

  modulo-relators : (r : List ℤ) → IsRelatorOf (flat (rowed Y)) r → Q.same (value_in Q h' r) Q.one
  modulo-relators r e =
      relators-value Q F Y is.answer modulo-rowed (entry_elements Q F A kept) entries
      (tails-central Q F A (cover-central T g f below c C is some left fits) kept sources)
      (tails-order Q F A (cover-central T g f below c C is some left fits) kept sources) {r = r} e

  pub next-fits : KeptMayBeKept C bs → Fits T f (suc c) (eliminated C bs)
  next-fits may = record {
    relators = λ r e.
        subst (λ (x : ℕ). InLevel T p (suc c) x) (next-number r) (same_one-level T g p (suc c) (value_in Q h' r) (modulo-relators r e));
    images = λ i l.
        let m = next-image_count Y is.answer modulo-count kept in
        let inside : i < length A.images = omega arith in
        let w : List ℤ = get_or (image_words A) i [] ++ tails_word Y (get_or Y.image_rows i []) in
        subst (λ (x : ℕ). InLevel T p (suc c) x)
        (ap₂ (λ (x y : ℕ). times T (inverse T x) y)
        (next-number w ∙ ap (value T (spelled_elements T f (eliminated C bs))) (sym (next-image Y is.answer modulo-count kept i inside)))
        (get_or-elements T g f below i))
        (images-value Q F Y is.answer modulo-rowed (entry_elements Q F A kept) entries i inside);
  }
    where
      next-number : (w : List ℤ) → (value_in Q h' w).number ≡ value T (spelled_elements T f (eliminated C bs)) w
      next-number w =
          tails-number T g p (suc c) f below A is.answer kept w
          ∙ ap (λ (l : List ℕ). value T l w) (sym (next-elements T f A is.answer Y refl kept sources may))

  -- without a kept tail
  pub same-fits : kept_columns (length C.sources) bs ≡ [] → Fits T f (suc c) C.answer
  same-fits none = fits-from_levels T g f below A (suc c) entry-trivial
    where
      no_row : (d : Definition) → IsSourceOf C.answer d → row_at Y d ≡ []
      no_row d s =
          let x : List ℕ = row_at (rowed_cover C) d in
          no_entries (row_at Y d)
          (ap length
          (row_at-carried Q F A is.answer some C.sources is.sources (cover-central T g f below c C is some left fits)
          (cover-left_out T g f below c C is some left fits) bs reduced trivial d s)
          ∙ (carried-is_row p (length C.sources) some bs reduced x).count ∙ ap length none)

      entry-trivial : (d : Definition) → IsSourceOf C.answer d → InLevel T p (suc c) (tail_element T f C.answer d)
      entry-trivial d s =
          subst (λ (x : ℕ). InLevel T p (suc c) x) (given-number T g p (suc c) f below A (entry_word A d))
          (same_one-level T g p (suc c) (value_in Q F (entry_word A d))
          (subst (λ (x : List ℕ). Q.same (value_in Q F (entry_word C.answer d)) (value_in Q h' (tails_word Y x))) (no_row d s)
          (entries d s)))
