-- The word of the row of a source is joined to the value of the word of the source, which is a relator, or the empty word of an
-- overlap. So the row is justified wherever that word has value 0.
use Rattle.std.proofs.Common.{◌≡◌, ◌≤◌, ◌-◌, ℕ, zero, suc, ℤ, List, [], ◌∷◌, ◌++◌, get_or, length, refl, ap, sym, subst, arith, inr}
use Rattle.pq_base.specs.SignedWord.{sub, HasLetters}
use Rattle.pq_base.specs.LPresentation.{LPresentation, IsLPresentation, IsRelator, AreEndos}
use Rattle.pq_base.specs.LPresentation.IsRelator.{fixed_relator, iterated_relator}
use Rattle.pq_base.specs.Table.{Table, value}
use Rattle.pq_base.specs.Joined.{Joined}
use Rattle.pq_base.proofs.words.JoinedLaws.{joined-sym}
use Rattle.pq_base.proofs.words.LetterLaws.{HasLetters-get_or}
use Rattle.pq_base.proofs.words.AlongLaws.{HasLetters-along}
use Rattle.pc_presentation.specs.declared.overlap.Overlap.{Overlap}
use Rattle.pc_presentation.specs.OverlapNumbers.{overlap_of}
use Rattle.pc_presentation.specs.Rowed.{IsRowed, flat}
use Rattle.pc_presentation.specs.Collection.{State}
use Rattle.pc_presentation.specs.Arithmetic.{IsMeaning}
use Rattle.pc_presentation.specs.Tailed.{rowed_presentation}
use Rattle.pc_presentation.proofs.consistent.OverlapNumberLaws.{overlap_of-is}
use Rattle.pc_presentation.proofs.consistent.OverlapRows.{overlap_row-trivial}
use Rattle.p_cover.specs.RowedAnswer.{rowed, rowed_images, tails_word}
use Rattle.p_cover.specs.Covers.{CoverOf, IsCover, cover_presentation, rowed_cover}
use Rattle.p_cover.proofs.CoverRows.{covers_are_rowed_answers}
use Rattle.p_cover.proofs.ImageValues.{row_of_word-joined}
use Rattle.p_cover.proofs.ImagesAlong.{row_along-joined}
use Rattle.cover_quotient.specs.Fits.{IsJustified}
use Rattle.derivation_log.specs.declared.source.RowSource.{RowSource}
use Rattle.derivation_log.specs.declared.source.RowSource.TheVariants.{Test, Fixed, Iterated}
use Rattle.derivation_log.specs.RowSources.{AreSourceNumbers, source_word, IsRowOfOverlap, IsRowOf, AreRowsOf}

pub source_word-letters : (L : LPresentation) → IsLPresentation L → (s : RowSource) → HasLetters (length L.names) (source_word L s)
source_word-letters L is (Test o) = tt
source_word-letters L is (Fixed i) = HasLetters-get_or (length L.names) L.fixed (i - 1) is.fixed_words
source_word-letters L is (Iterated i s) =
    HasLetters-along (length L.names) L.endos s (get_or L.iterated (i - 1) []) is.endo_words
    (HasLetters-get_or (length L.names) L.iterated (i - 1) is.iterated_words)

module _ (C : CoverOf) (cover : IsCover C) (push : State → ℕ → State)
    (meaning : IsMeaning (rowed_presentation (cover_presentation C)) push) where
  pub cover-rowed : IsRowed (rowed_presentation (cover_presentation C))
  cover-rowed = (covers_are_rowed_answers C.answer C.sources cover.answer cover.sources).0.presentation

  pub row_of_overlap-trivial : (L : LPresentation) (o : Overlap) (x : List ℕ) → AreSourceNumbers L C.answer.presentation.rank (Test o)
      → IsRowOfOverlap C push o x → Joined (flat (rowed (rowed_cover C))) (tails_word (rowed_cover C) x) []
  row_of_overlap-trivial L o x numbers row =
      let two = cover.answer.presentation.prime in
      subst (λ (y : List ℕ). Joined (flat (rowed (rowed_cover C))) (tails_word (rowed_cover C) y) []) (sym row.row)
      (overlap_row-trivial (rowed_presentation (cover_presentation C)) cover-rowed (omega arith) push meaning (overlap_of o)
      (overlap_of-is C.answer.presentation.rank o numbers) row.agree)

  module _ (L : LPresentation) (is : IsLPresentation L) (names : C.answer.names ≡ L.names) where
    letters : (w : List ℤ) → HasLetters (length L.names) w → HasLetters (length C.answer.names) w
    letters w l = subst (λ (ns : List (List ℕ)). HasLetters (length ns) w) (sym names) l

    endos_of : AreEndos (length C.answer.names) L.endos
    endos_of = subst (λ (ns : List (List ℕ)). AreEndos (length ns) L.endos) (sym names) is.endo_words

    pub row_of_source-joined : (s : RowSource) (x : List ℕ) → IsRowOf L C push s x
        → Joined (flat (rowed (rowed_cover C))) (sub (source_word L s) (rowed_images (rowed_cover C))) (tails_word (rowed_cover C) x)
    row_of_source-joined (Test o) x h = joined-sym (row_of_overlap-trivial L o x h.numbers h.row)
    row_of_source-joined (Fixed i) x h =
        row_of_word-joined C cover push meaning (source_word L (Fixed i))
        (letters (source_word L (Fixed i)) (source_word-letters L is (Fixed i))) x h.row
    row_of_source-joined (Iterated i []) x h =
        row_of_word-joined C cover push meaning (source_word L (Iterated i []))
        (letters (source_word L (Iterated i [])) (source_word-letters L is (Iterated i []))) x h.row
    row_of_source-joined (Iterated i (e ∷ s)) x h =
        let a = h.numbers in
        let relator : List ℤ = get_or L.iterated (i - 1) [] in
        row_along-joined C cover push meaning L.endos endos_of (e ∷ s) a.2 relator
        (letters relator (HasLetters-get_or (length L.names) L.iterated (i - 1) is.iterated_words)) x h.row

    pub row_of_source-justified : (T : Table) (f : List ℕ) (s : RowSource) (x : List ℕ) → value T f (source_word L s) ≡ 0
        → IsRowOf L C push s x
        → IsJustified (rowed_cover C) T f x
    row_of_source-justified T f s x none h =
        inr (record { word = source_word L s; joined = joined-sym (row_of_source-joined s x h); zero = none })

-- in a table in which the relators have value 0 the word of every source has
pub source_word-zero : (L : LPresentation) (T : Table) (f : List ℕ) → ((r : List ℤ) → IsRelator L r → value T f r ≡ 0)
    → (n : ℕ) (s : RowSource) → AreSourceNumbers L n s → value T f (source_word L s) ≡ 0
source_word-zero L T f kills n (Test o) h = refl
source_word-zero L T f kills n (Fixed i) h =
    let a = h.0 in let b = h.1 in kills (get_or L.fixed (i - 1) []) (fixed_relator (i - 1) (omega arith))
source_word-zero L T f kills n (Iterated i s) h =
    let a = h.0 in let b = h.1 in kills (source_word L (Iterated i s)) (iterated_relator s (i - 1) h.2 (omega arith))

module _ (L : LPresentation) (C : CoverOf) (push : State → ℕ → State) where
  -- one row more
  pub rows_of-push : (ss : List RowSource) (xs : List (List ℕ)) (s : RowSource) (x : List ℕ) → AreRowsOf L C push ss xs
      → IsRowOf L C push s x
      → AreRowsOf L C push (ss ++ s ∷ []) (xs ++ x ∷ [])
  rows_of-push [] [] s x all one = (one, tt)
  rows_of-push [] (y ∷ xs) s x all one = absurd all
  rows_of-push (t ∷ ss) [] s x all one = absurd all
  rows_of-push (t ∷ ss) (y ∷ xs) s x all one = (all.0, rows_of-push ss xs s x all.1 one)

  pub rows_of-length : (ss : List RowSource) (xs : List (List ℕ)) → AreRowsOf L C push ss xs → length ss ≡ length xs
  rows_of-length [] [] all = refl
  rows_of-length [] (x ∷ xs) all = absurd all
  rows_of-length (s ∷ ss) [] all = absurd all
  rows_of-length (s ∷ ss) (x ∷ xs) all = ap suc (rows_of-length ss xs all.1)

  -- the n-th row is that of the n-th source
  pub rows_of-at : (ss : List RowSource) (xs : List (List ℕ)) (n : ℕ) (d : RowSource) (e : List ℕ) → AreRowsOf L C push ss xs
      → suc n ≤ length ss
      → IsRowOf L C push (get_or ss n d) (get_or xs n e)
  rows_of-at [] xs n d e all l = absurd (omega arith)
  rows_of-at (s ∷ ss) [] n d e all l = absurd all
  rows_of-at (s ∷ ss) (x ∷ xs) zero d e all l = all.0
  rows_of-at (s ∷ ss) (x ∷ xs) (suc n) d e all l = rows_of-at ss xs n d e all.1 (omega arith)
