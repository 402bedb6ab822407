-- What a full cover leaves out defines a generator. So its row is the row of zeros, and its word dies under any images, since both
-- sides of its relation are spelled alike.
use Rattle.std.proofs.Common.{◌≡◌, ◌<◌, ◌-◌, ◌||◌, ℕ, suc, Bool, true, false, None, Some, ℤ, List, [], ◌∷◌, ◌++◌, get_or, length, ap, sym}
use Rattle.std.proofs.Common.{◌∙◌, inl, inr, arith}
use Rattle.std.specs.List.{Contains}
use Rattle.std.proofs.lemmas.Bool.{cases_Bool, false≢true}
use Rattle.std.proofs.lemmas.List.{get_or_default}
use Rattle.std.proofs.lemmas.Option.{none-some}
use Rattle.pq_base.specs.SignedWord.{inv, sub}
use Rattle.pq_base.specs.Presentation.{Presentation}
use Rattle.pq_base.specs.Joined.{Joined}
use Rattle.pq_base.specs.Answer.{Answer, Definition as Source, IsAnswer, definition_at, spelled}
use Rattle.pq_base.specs.Answer.Definition.{image}
use Rattle.pq_base.specs.Canonical.{same_definition, is_among}
use Rattle.pq_base.specs.EntryWords.{IsSourceOf, spelling_words, entry_word}
use Rattle.pq_base.proofs.words.WordLaws.{word_from-zeros, sub-append, sub-inv}
use Rattle.pq_base.proofs.words.JoinedLaws.{joined-from_equal, joined-trans, inv-append-joined}
use Rattle.pq_base.proofs.words.SpelledLists.{definition-entry}
use Rattle.pc_presentation.specs.Rowed.{flat}
use Rattle.pc_presentation.specs.Pcp.{row_of}
use Rattle.p_cover.specs.RowedAnswer.{rowed, row_at, tails_word}
use Rattle.p_cover.specs.Sources.{place_in}
use Rattle.p_cover.specs.Covers.{rowed_cover, all_sources}
use Rattle.p_cover.proofs.PartLaws.{part_of_itself}
use Rattle.p_cover.proofs.PlaceLaws.{same_definition-eq}
use Rattle.p_cover.proofs.CoverRows.{among-itself, definition-source, row_at-source}
use Rattle.p_cover.proofs.SourcesOnce.{each_source_once, tails_and_sources_are_inverse}
use Rattle.p_cover.proofs.SourceNumbers.{source-by_name, source-by_place}
use Rattle.cover_quotient.specs.Stages.{full_cover_of}
use Rattle.endo_lift.specs.Lifts.{AreJoinedIn}
use Rattle.endo_lift.specs.LiftLaws.{FullCoversLeaveOutNothing}

-- a place in a list
pub record IsAt (ds : List Source) (d : Source) : Type 0 where
  pub place : ℕ
  pub inside : place < length ds
  pub entry : get_or ds place (image 0) ≡ d

among-at : (d : Source) (es : List Source) → is_among d es ≡ true → IsAt es d
among-at d [] h = absurd (false≢true h)
among-at d (e ∷ es) h = elim (cases_Bool (same_definition d e)) [
  | inl same ↦ record { place = 0; inside = omega arith; entry = sym (same_definition-eq d e same) }
  | inr other ↦
      let later : IsAt es d = among-at d es (sym (ap (λ (b : Bool). b || is_among d es) other) ∙ h) in
      let inner = later.inside in
      record { place = suc later.place; inside = omega arith; entry = later.entry }
]

module _ (A : Answer) (is : IsAnswer A) (d : Source) (s : IsSourceOf A d) (e : place_in (all_sources A) d ≡ None) where
  -- what defines nothing has a place
  defines_something : is_among d A.definitions ≡ false → ⊥
  defines_something none =
      let count : length A.definitions ≡ A.presentation.rank = is.definition_count in
      let among : Contains (all_sources A) d =
      ((each_source_once A is).members d).1 (
        source-by_name A is d s,
        λ k l same.
            false≢true (sym none ∙ ap (λ (x : Source). is_among x A.definitions) (sym same) ∙ among-itself A.definitions k (omega arith)),
      ) in
      let inside : among.0 < length (all_sources A) = among.1 in
      let back : suc among.0 - 1 ≡ among.0 = omega arith in
      let entry : get_or (all_sources A) among.0 (image 0) ≡ d = get_or_default (all_sources A) among.0 (image 0) d among.1 ∙ among.2 in
      let place : place_in (all_sources A) d ≡ Some (suc among.0) =
      (tails_and_sources_are_inverse A (all_sources A) (part_of_itself (all_sources A)) d (suc among.0)).1
      (omega arith, omega arith, ap (λ (i : ℕ). get_or (all_sources A) i (image 0)) back ∙ entry) in
      none-some (suc among.0) (sym e ∙ place)

  defines : IsAt A.definitions d
  defines = elim (cases_Bool (is_among d A.definitions)) [
    | inl among ↦ among-at d A.definitions among
    | inr none ↦ absurd (defines_something none)
  ]

  -- the word of a definition, under any images
  pub left_out-dies : (Q : Presentation) (f : List (List ℤ)) → Joined Q (sub (entry_word A d) f) []
  left_out-dies Q f =
      let count : length A.definitions ≡ A.presentation.rank = is.definition_count in
      let k : ℕ = defines.place in
      let inside = defines.inside in
      let before : k < A.presentation.rank = omega arith in
      let entry : definition_at A k ≡ d = defines.entry in
      let u : List ℤ = spelled A.presentation.prime (spelling_words A) (definition_at A k) in
      let word : entry_word A d ≡ inv u ++ u =
      ap (entry_word A) (sym entry)
      ∙ definition-entry A is k before
      (source-by_place A is (definition_at A k) (definition-source A k (definition_at A k) is before (is.definitions k before))) in
      joined-trans
      (joined-from_equal Q
      (ap (λ (w : List ℤ). sub w f) word ∙ sub-append (inv u) u f ∙ ap (λ (w : List ℤ). w ++ sub u f) (sub-inv u f)))
      (inv-append-joined Q (sub u f))

  -- its row
  pub left_out-zeros : AreJoinedIn (full_cover_of A)
      (tails_word (rowed_cover (full_cover_of A)) (row_at (rowed_cover (full_cover_of A)) d)) []
  left_out-zeros =
      joined-from_equal (flat (rowed (rowed_cover (full_cover_of A))))
      (ap (tails_word (rowed_cover (full_cover_of A)))
      (row_at-source A (all_sources A) d (source-by_name A is d s) ∙ ap (row_of (length (all_sources A))) e)
      ∙ word_from-zeros A.presentation.rank (length (all_sources A)))

pub full_covers_leave_out_nothing : FullCoversLeaveOutNothing
full_covers_leave_out_nothing C is full d s e =
    left_out-zeros C.answer is.answer d s (ap (λ (ds : List Source). place_in ds d) (sym full) ∙ e)
