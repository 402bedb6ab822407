-- Elements of an answer's presentation without tails, found and tested, decide whether they make a map. The images of an answer, lifted to
-- its cover without tails, are its images.
use Rattle.std.proofs.Common.{◌≡◌, ◌↔◌, ℕ, Bool, IsTrue, List, [], ◌∷◌, length, map, refl, ap, sym, ◌∙◌, subst, arith}
use Rattle.std.specs.Prelude.{All}
use Rattle.std.proofs.lemmas.List.{length-map}
use Rattle.std.proofs.lemmas.List.Elements.{All-head, All-tail}
use Rattle.pq_base.specs.Presentation.{Presentation}
use Rattle.pq_base.specs.Joined.{IsConsistent}
use Rattle.pq_base.specs.Answer.{Answer, Definition, IsAnswer}
use Rattle.pq_base.specs.Answer.Definition.{image}
use Rattle.pq_base.specs.Canonical.{numbers_from}
use Rattle.pq_base.proofs.NumberLists.{length-numbers_from}
use Rattle.pc_presentation.specs.Rowed.{RowedPresentation, without_rows}
use Rattle.pc_presentation.specs.Collection.{State, IsState}
use Rattle.pc_presentation.specs.Arithmetic.{word_of}
use Rattle.pc_presentation.specs.Pcp.{TailedPresentation, IsTailedPresentation, row_of}
use Rattle.pc_presentation.specs.Tailed.{Element, rowed_presentation, IsElement}
use Rattle.pc_presentation.specs.ImageElements.{states_of}
use Rattle.p_cover.specs.Sources.{place_in}
use Rattle.p_cover.specs.RowedAnswer.{states_with}
use Rattle.p_cover.specs.Covers.{CoverOf}
use Rattle.p_cover.specs.Images.{lifted_images}
use Rattle.derivation_log.specs.PlainValues.{bare_state, images_of, MakeMap}
use Rattle.derivation_log.proofs.PlainGroups.{AreElements}
use Rattle.cert_checker.specs.MapWords.{words_of, AreDefinedWords, MakeMapOfWords}
use Rattle.cert_checker.proofs.Tailless.{tailless}
use Rattle.cert_checker.proofs.mapping.MadeMaps.{made, words-make}

-- the cover in which nothing carries a tail
abbrev pub bare_cover : Answer → CoverOf
bare_cover A = record { answer = A; sources = [] }

module _ (T : TailedPresentation) (P : Presentation) (tailed : IsTailedPresentation T) (same : T.presentation ≡ P)
    (none : T.tails ≡ 0) where
  pub bare : rowed_presentation T ≡ without_rows P
  bare = tailless T tailed none ∙ ap without_rows same

  pub elements-bare : (es : List Element) → All (IsElement T) es → AreElements P (states_of es)
  elements-bare [] are = tt
  elements-bare (e ∷ es) are = (
    subst (λ (n : ℕ). IsState (without_rows P) n e.state) (ap (λ (Q : Presentation). Q.rank) same)
        (subst (λ (Y : RowedPresentation). IsState Y T.presentation.rank e.state) bare (All-head (IsElement T) e es are).state),
    elements-bare es (All-tail (IsElement T) e es are),
  )

module _ (T : TailedPresentation) (B A : Answer) (of : IsAnswer B) (is : IsAnswer A) (tailed : IsTailedPresentation T)
    (same : T.presentation ≡ A.presentation) (none : T.tails ≡ 0) (consistent : IsConsistent A.presentation) where
  pub made-decided : (given es : List Element) → All (IsElement T) given → All (IsElement T) es → length given ≡ length B.names
      → length es ≡ B.presentation.rank
      → AreDefinedWords (rowed_presentation T) B (words_of T given) (words_of T es) B.presentation.rank → (b : Bool)
      → (IsTrue b ↔ MakeMapOfWords (rowed_presentation T) B (words_of T given) (words_of T es))
      → (IsTrue b ↔ MakeMap B A (states_of given))
  made-decided given es are_given are count_given count defined b decided =
      let f : List State = states_of given in
      let g : List State = states_of es in
      let judged = subst (λ (Y : RowedPresentation).
      AreDefinedWords Y B (map (word_of Y) (states_of given)) (map (word_of Y) (states_of es)) B.presentation.rank
      × (IsTrue b ↔ MakeMapOfWords Y B (map (word_of Y) (states_of given)) (map (word_of Y) (states_of es))))
      (bare T A.presentation tailed same none) (defined, decided) in
      let fs = elements-bare T A.presentation tailed same none given are_given in
      let gs = elements-bare T A.presentation tailed same none es are in
      let nf = length-map given (λ (e : Element). e.state) ∙ count_given in
      let ng = length-map es (λ (e : Element). e.state) ∙ count in (
        λ t. made B A of is consistent f g fs gs nf ng judged.0 (judged.1.0 t),
        λ m. judged.1.1 (words-make B A of is consistent f g fs gs nf ng judged.0 m),
      )

-- the images with rows of no tails
states_with-bare : (p : ℕ) (es : List (List ℕ)) (ns : List ℕ) → length es ≡ length ns
    → states_of (map (λ (s : State). let e : Element = record { prime = p; state = s } in e)
    (states_with es (map (λ (i : ℕ). row_of 0 (place_in [] (image i))) ns)))
    ≡ map bare_state es
states_with-bare p [] ns c = refl
states_with-bare p (e ∷ es) [] c = absurd (omega arith)
states_with-bare p (e ∷ es) (n ∷ ns) c = ap (λ (ss : List State). bare_state e ∷ ss) (states_with-bare p es ns (omega arith))

pub lifted-bare : (A : Answer) → IsAnswer A → states_of (lifted_images (bare_cover A)) ≡ images_of A
lifted-bare A is =
    states_with-bare A.presentation.prime A.images (numbers_from 1 (length A.names))
    (is.image_count ∙ sym (length-numbers_from 1 (length A.names)))

pub lifted-states-bare : (C : CoverOf) → IsAnswer C.answer → C.sources ≡ [] → states_of (lifted_images C) ≡ images_of C.answer
lifted-states-bare C is none =
    ap (λ (ds : List Definition). states_of (lifted_images (record { answer = C.answer; sources = ds }))) none ∙ lifted-bare C.answer is
