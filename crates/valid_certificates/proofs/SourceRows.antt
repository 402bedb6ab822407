-- The rows of sources by the plain rule are rows over the tails, and trusted wherever the presentation is obeyed: the word of each is
-- joined to the value of the word of its source, which has value 0 there.
use Rattle.std.proofs.Common.{◌≡◌, ◌-◌, ◌<◌, ℕ, ℤ, List, [], ◌∷◌, get_or, length, sym, ◌∙◌, subst, arith}
use Rattle.std.proofs.lemmas.List.{length-map}
use Rattle.std.proofs.lemmas.List.Elements.{All-nil, All-cons}
use Rattle.pq_base.specs.SignedWord.{HasLetters}
use Rattle.pq_base.specs.LPresentation.{LPresentation, IsLPresentation, AreEndos}
use Rattle.pq_base.specs.Prime.{IsOffered}
use Rattle.pq_base.proofs.PrimeLaws.{offered-two}
use Rattle.pq_base.proofs.words.LetterLaws.{HasLetters-get_or}
use Rattle.fp_rows.specs.Rows.{IsRow}
use Rattle.pc_presentation.specs.Rowed.{RowedPresentation, IsRowed}
use Rattle.pc_presentation.specs.Collection.{State, IsState, identity, plain_push}
use Rattle.pc_presentation.specs.Arithmetic.{IsMeaning}
use Rattle.pc_presentation.specs.ImageElements.{AreImageElements, states_of}
use Rattle.pc_presentation.specs.OverlapNumbers.{overlap_of}
use Rattle.pc_presentation.specs.Tailed.{Element, rowed_presentation}
use Rattle.pc_presentation.proofs.consistent.OverlapNumberLaws.{overlap_of-is}
use Rattle.pc_presentation.proofs.consistent.OverlapRows.{overlap_row-row}
use Rattle.pc_presentation.proofs.quotients.CollectorArithmetic.{plain_rule_is_a_meaning}
use Rattle.pc_presentation.proofs.quotients.WordValues.{value-state}
use Rattle.pc_presentation.proofs.rows.RowLaws.{identity-state}
use Rattle.p_cover.specs.Covers.{CoverOf, IsCover, cover_presentation}
use Rattle.p_cover.specs.Images.{ImagesOf}
use Rattle.p_cover.specs.ImageValues.{value_under}
use Rattle.p_cover.proofs.CoverRows.{covers_are_rowed_answers}
use Rattle.p_cover.proofs.ImageStates.{lifted-count}
use Rattle.p_cover.proofs.ImagesAlong.{carried-images}
use Rattle.cover_quotient.specs.Stages.{Obeying, IsTrustedOver}
use Rattle.derivation_log.specs.declared.source.RowSource.{RowSource}
use Rattle.derivation_log.specs.declared.source.RowSource.TheVariants.{Test, Fixed, Iterated}
use Rattle.derivation_log.specs.RowSources.{IsRowOf, AreRowsOf}
use Rattle.derivation_log.proofs.RowSources.{row_of_source-justified, source_word-zero}
use Rattle.valid_certificates.specs.ReachedAnswers.{AreTrusted, RowsOfSourcesAreTrusted}

module _ (L : LPresentation) (C : CoverOf) (words : IsLPresentation L) (cover : IsCover C) (offered : IsOffered C.answer.presentation.prime)
    (names : C.answer.names ≡ L.names) where
  abbrev Y : RowedPresentation
  Y = rowed_presentation (cover_presentation C)

  abbrev push : State → ℕ → State
  push = plain_push (rowed_presentation (cover_presentation C))

  is_rowed : IsRowed (rowed_presentation (cover_presentation C))
  is_rowed = (covers_are_rowed_answers C.answer C.sources cover.answer cover.sources).0.presentation

  meaning : IsMeaning (rowed_presentation (cover_presentation C)) (plain_push (rowed_presentation (cover_presentation C)))
  meaning = plain_rule_is_a_meaning Y is_rowed

  big : 1 < C.answer.presentation.prime
  big = let two = offered-two C.answer.presentation.prime offered in omega arith

  -- the value of a word under images with their inverses
  value-row : (f : ImagesOf) (w : List ℤ) → AreImageElements (cover_presentation C) push f.elements f.inverses
      → length f.elements ≡ length L.names → HasLetters (length L.names) w
      → IsRow C.answer.presentation.prime (length C.sources) (value_under C push f w).row
  value-row f w images count letters =
      let b = big in
      let state : IsState Y C.answer.presentation.rank (value_under C push f w) =
      value-state Y is_rowed big push meaning (states_of f.elements) (states_of f.inverses) (identity Y C.answer.presentation.rank) w
      images.states (identity-state Y C.answer.presentation.rank (omega arith))
      (subst (λ (n : ℕ). HasLetters n w) (sym (length-map f.elements (λ (e : Element). e.state) ∙ count)) letters) in
      record { count = state.row.count; below = state.row.below }

  endos_of : AreEndos (length L.names) L.endos
  endos_of = words.endo_words

  given : (f : ImagesOf) → length f.elements ≡ length C.answer.names → length f.elements ≡ length L.names
  given f count = subst (λ (ns : List (List ℕ)). length f.elements ≡ length ns) names count

  row-is : (s : RowSource) (x : List ℕ) → IsRowOf L C push s x → IsRow C.answer.presentation.prime (length C.sources) x
  row-is (Test o) x h =
      subst (IsRow C.answer.presentation.prime (length C.sources)) (sym h.row.row)
      (overlap_row-row Y is_rowed big push meaning (overlap_of o) (overlap_of-is C.answer.presentation.rank o h.numbers))
  row-is (Fixed i) x h =
      let r = h.row in
      subst (IsRow C.answer.presentation.prime (length C.sources)) (sym h.row.row)
      (value-row r.images (get_or L.fixed (i - 1) []) r.lifted.images (given r.images (lifted-count C cover push r.images r.lifted))
      (HasLetters-get_or (length L.names) L.fixed (i - 1) words.fixed_words))
  row-is (Iterated i []) x h =
      let r = h.row in
      subst (IsRow C.answer.presentation.prime (length C.sources)) (sym h.row.row)
      (value-row r.images (get_or L.iterated (i - 1) []) r.lifted.images (given r.images (lifted-count C cover push r.images r.lifted))
      (HasLetters-get_or (length L.names) L.iterated (i - 1) words.iterated_words))
  row-is (Iterated i (e ∷ s)) x h =
      let r = h.row in
      let carried = carried-images C push (length L.names) L.endos endos_of h.numbers.2
      (given r.start (lifted-count C cover push r.start r.lifted)) r.lifted.images r.carried in
      subst (IsRow C.answer.presentation.prime (length C.sources)) (sym h.row.row)
      (value-row r.images (get_or L.iterated (i - 1) []) carried.1 carried.0
      (HasLetters-get_or (length L.names) L.iterated (i - 1) words.iterated_words))

  row-trusted : (s : RowSource) (x : List ℕ) → IsRowOf L C push s x → IsTrustedOver (Obeying L) L.names C x
  row-trusted s x h T f admitted =
      row_of_source-justified C cover push meaning L words names T f s x
      (source_word-zero L T f admitted.admitted.kills C.answer.presentation.rank s h.numbers) h

  pub rows-trusted : (sources : List RowSource) (rows : List (List ℕ)) → AreRowsOf L C push sources rows → AreTrusted L C rows
  rows-trusted [] [] h = record { are = tt; trusted = All-nil (IsTrustedOver (Obeying L) L.names C) }
  rows-trusted [] (x ∷ rows) h = absurd h
  rows-trusted (s ∷ sources) [] h = absurd h
  rows-trusted (s ∷ sources) (x ∷ rows) h =
      let rest = rows-trusted sources rows h.1 in
      record {
        are = (row-is s x h.0, rest.are);
        trusted = All-cons (IsTrustedOver (Obeying L) L.names C) x rows (row-trusted s x h.0) rest.trusted;
      }

pub rows_of_sources_are_trusted : RowsOfSourcesAreTrusted
rows_of_sources_are_trusted L C sources rows words cover offered names h = rows-trusted L C words cover offered names sources rows h
