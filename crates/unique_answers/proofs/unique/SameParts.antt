-- Two answers that are one answer D where they are cut to class k: where the entries of D have one new part in both, so has each relation
-- and image of D, since what defines a generator has no new part.
use Rattle.std.proofs.Common.{◌≡◌, ◌≢◌, ◌⊎◌, ℕ, zero, suc, ◌<◌, false, ℤ, List, [], ◌∷◌, ◌++◌, get_or, length, inl, inr, ap, sym, ◌∙◌}
use Rattle.std.proofs.Common.{subst, arith}
use Rattle.std.specs.List.{All, Contains}
use Rattle.std.proofs.lemmas.Bool.{cases_Bool, false≢true}
use Rattle.std.proofs.lemmas.List.{append-nil, append_cancel_left, ext_get_or}
use Rattle.std.proofs.lemmas.List.Elements.{All-contains}
use Rattle.pq_base.specs.Presentation.{letter, word_from}
use Rattle.pq_base.specs.Answer.{Answer, Definition, IsAnswer, HasDefinition, class_of, definition_at}
use Rattle.pq_base.specs.Answer.Definition.{image}
use Rattle.pq_base.specs.Canonical.{same_definition, rank_up_to, new_count, new_part, want_order, up_to_class}
use Rattle.pq_base.specs.EntryWords.{IsSourceOf}
use Rattle.pq_base.proofs.vectors.CanonicalTests.{same-definition_refl}
use Rattle.pq_base.proofs.words.SpelledLists.{definition-side}
use Rattle.p_cover.proofs.PlaceLaws.{same_definition-eq}
use Rattle.p_cover.proofs.SourceNumbers.{source-by_name}
use Rattle.p_cover.proofs.SourcesOnce.{each_source_once}
use Rattle.cover_quotient.proofs.canonical_answers.ClassesByWeight.{counts-grow}
use Rattle.unique_answers.proofs.unique.ListParts.{zeros-from_word}
use Rattle.unique_answers.proofs.unique.CutParts.{cut-definition_count, cut-definition}
use Rattle.unique_answers.proofs.unique.CutAnswers.{cut-answer}
use Rattle.unique_answers.proofs.unique.NewParts.{side-next, new_part-normal}

-- the first place of a definition in a list, or none
record IsPlaceOf (ds : List Definition) (d : Definition) : Type 0 where
  pub place : ℕ
  pub inside : place < length ds
  pub entry : get_or ds place (image 0) ≡ d

place-or_none : (ds : List Definition) (d : Definition)
    → IsPlaceOf ds d ⊎ ((i : ℕ) → i < length ds → get_or ds i (image 0) ≢ d)
place-or_none [] d = inr (λ i l. absurd (omega arith))
place-or_none (e ∷ ds) d = elim (cases_Bool (same_definition e d)) [
  | inl here ↦ inl (record { place = 0; inside = omega arith; entry = same_definition-eq e d here })
  | inr other ↦ elim (place-or_none ds d) [
    | inl later ↦ let b = later.inside in inl (record { place = suc later.place; inside = omega arith; entry = later.entry })
    | inr none ↦ inr (not_among other none)
  ]
]
  where
    not_among : same_definition e d ≡ false → ((i : ℕ) → i < length ds → get_or ds i (image 0) ≢ d)
        → (i : ℕ) → i < length (e ∷ ds) → get_or (e ∷ ds) i (image 0) ≢ d
    not_among other none zero l same =
        false≢true (sym other ∙ ap (λ (x : Definition). same_definition e x) (sym same) ∙ same-definition_refl e)
    not_among other none (suc i) l same = none i (omega arith) same

-- what defines a generator of class k has no new part
definition-part : (A : Answer) → IsAnswer A → (k : ℕ) (i : ℕ) (d : Definition) → i < rank_up_to A k → definition_at (up_to_class A k) i ≡ d
    → IsSourceOf (up_to_class A k) d → (g : ℕ) → get_or (new_part A k d) g 0 ≡ 0
definition-part A is k i d l defined source g =
    let grows = counts-grow k A.weights in
    let m : ℕ = rank_up_to A k in
    let D : Answer = up_to_class A k in
    let N : Answer = up_to_class A (suc k) in
    let before : HasDefinition (up_to_class A k) i d =
    subst (λ (e : Definition). HasDefinition (up_to_class A k) i e) defined ((cut-answer A is k).definitions i l) in
    let next : definition_at (up_to_class A (suc k)) i ≡ d =
    cut-definition A is (suc k) i (omega arith) ∙ sym (cut-definition A is k i l) ∙ defined in
    let after : HasDefinition (up_to_class A (suc k)) i d =
    subst (λ (e : Definition). HasDefinition (up_to_class A (suc k)) i e) next ((cut-answer A is (suc k)).definitions i (omega arith)) in
    let whole : letter i ++ word_from (rank_up_to A k) (new_part A k d) ≡ letter i ++ [] =
    ap (λ (w : List ℤ). w ++ word_from (rank_up_to A k) (new_part A k d)) (sym (definition-side D i d before))
    ∙ sym (side-next A is k d source) ∙ definition-side N i d after ∙ sym (append-nil (letter i)) in
    zeros-from_word m (new_part A k d) (append_cancel_left (letter i) (word_from (rank_up_to A k) (new_part A k d)) [] whole) g

module _ (A B : Answer) (a : IsAnswer A) (b : IsAnswer B) (k : ℕ) (same : up_to_class A k ≡ up_to_class B k)
    (class : class_of (up_to_class A k) ≡ k) (count : new_count A k ≡ new_count B k)
    (parts : All (λ (d : Definition). new_part A k d ≡ new_part B k d) (want_order (up_to_class A k) k)) where
  abbrev D : Answer
  D = up_to_class A k

  -- an entry that defines a generator
  defined-alike : (d : Definition) → IsSourceOf D d → IsPlaceOf D.definitions d → new_part A k d ≡ new_part B k d
  defined-alike d source at =
      let many = cut-definition_count A a k in
      let inside : at.place < length (up_to_class A k).definitions = at.inside in
      let ranks : rank_up_to A k ≡ rank_up_to B k = ap (λ (C : Answer). C.presentation.rank) same in
      let other : IsSourceOf (up_to_class B k) d = subst (λ (C : Answer). IsSourceOf C d) same source in
      let left = (new_part-normal A a k d source).count in
      let right = (new_part-normal B b k d other).count in
      ext_get_or 0 (new_part A k d) (new_part B k d) (omega arith)
      (λ g l.
      definition-part A a k at.place d (omega arith) at.entry source g
      ∙ sym (definition-part B b k at.place d (omega arith) (ap (λ (C : Answer). definition_at C at.place) (sym same) ∙ at.entry) other g))

  -- and one that defines none
  pub parts-alike : (d : Definition) → IsSourceOf (up_to_class A k) d → new_part A k d ≡ new_part B k d
  parts-alike d source = elim (place-or_none D.definitions d) [
    | inl at ↦ defined-alike d source at
    | inr none ↦
        let many = cut-definition_count A a k in
        let member : Contains (want_order D (class_of D)) d =
        ((each_source_once D (cut-answer A a k)).members d).1
        (source-by_name D (cut-answer A a k) d source, λ i l. none i (omega arith)) in
        All-contains (λ (e : Definition). new_part A k e ≡ new_part B k e) (want_order D k) d parts
        (subst (λ (j : ℕ). Contains (want_order (up_to_class A k) j) d) class member)
  ]
