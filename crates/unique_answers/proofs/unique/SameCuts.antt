-- Two answers that are one answer where they are cut to class k, with as many generators of weight k + 1, the same definitions of them,
-- and one new part of each relation and image, are one answer where they are cut to class k + 1.
use Rattle.std.proofs.Common.{◌≡◌, ℕ, suc, ◌+◌, ◌-◌, ◌<◌, List, [], ◌++◌, get_or, length, inl, inr, ap, ap₂, sym, ◌∙◌, subst, arith}
use Rattle.std.proofs.lemmas.Bool.{cases_lt}
use Rattle.std.proofs.lemmas.List.{ext_get_or}
use Rattle.pq_base.specs.Presentation.{power_side, commutator_side}
use Rattle.pq_base.specs.Answer.{Answer, Definition, IsAnswer, weight_at, definition_at}
use Rattle.pq_base.specs.Answer.Definition.{image, commutator, power}
use Rattle.pq_base.specs.Canonical.{rank_up_to, new_count, new_part, up_to_class, IsCanonical}
use Rattle.pq_base.specs.EntryWords.{IsSourceOf}
use Rattle.pq_base.proofs.Restrictions.{same_answers}
use Rattle.unique_answers.proofs.unique.CutParts.{cut-weight_count, cut-definition_count, cut-image_count, cut-weight, cut-definition}
use Rattle.unique_answers.proofs.unique.CutAnswers.{cut-answer}
use Rattle.unique_answers.proofs.unique.NewParts.{exponents_of, exponents-next, ranks-add}
use Rattle.unique_answers.proofs.unique.NewGenerators.{new-weight, new-power, new-commutator}

module _ (A B : Answer) (a : IsAnswer A) (b : IsAnswer B) (ca : IsCanonical A) (cb : IsCanonical B)
    (prime : A.presentation.prime ≡ B.presentation.prime) (names : A.names ≡ B.names) (k : ℕ) (same : up_to_class A k ≡ up_to_class B k)
    (count : new_count A k ≡ new_count B k)
    (definitions : (g : ℕ) → g < new_count A k → definition_at A (rank_up_to A k + g) ≡ definition_at B (rank_up_to B k + g))
    (parts : (d : Definition) → IsSourceOf (up_to_class A k) d → new_part A k d ≡ new_part B k d) where
  abbrev M : Answer
  M = up_to_class A (suc k)

  abbrev N : Answer
  N = up_to_class B (suc k)

  old-rank : rank_up_to A k ≡ rank_up_to B k
  old-rank = ap (λ (C : Answer). C.presentation.rank) same

  rank : rank_up_to A (suc k) ≡ rank_up_to B (suc k)
  rank = sym (ranks-add A a k) ∙ ap₂ (λ (x y : ℕ). x + y) old-rank count ∙ ranks-add B b k

  -- right sides and images of the relations of class k
  exponents-alike : (d : Definition) → IsSourceOf (up_to_class A k) d → exponents_of M d ≡ exponents_of N d
  exponents-alike d source =
      exponents-next A a k d source
      ∙ ap₂ (λ (x y : List ℕ). x ++ y) (ap (λ (C : Answer). exponents_of C d) same) (parts d source)
      ∙ sym (exponents-next B b k d (subst (λ (C : Answer). IsSourceOf C d) same source))

  power-alike : (i : ℕ) → i < rank_up_to A (suc k) → power_side M.presentation i ≡ power_side N.presentation i
  power-alike i l = elim (cases_lt i (rank_up_to A k)) [
    | inl old ↦ exponents-alike (power (suc i)) old
    | inr new ↦
        let ranks = rank in
        let olds = old-rank in
        let left = ((cut-answer A a (suc k)).presentation.power_sides i l).count in
        let right = ((cut-answer B b (suc k)).presentation.power_sides i (omega arith)).count in
        ext_get_or 0 (power_side M.presentation i) (power_side N.presentation i) (omega arith)
        (λ t h. new-power A a ca k i t new l ∙ sym (new-power B b cb k i t (omega arith) (omega arith)))
  ]

  commutator-alike : (j i : ℕ) → j < rank_up_to A (suc k) → i < j → commutator_side M.presentation j i ≡ commutator_side N.presentation j i
  commutator-alike j i l before = elim (cases_lt j (rank_up_to A k)) [
    | inl old ↦ exponents-alike (commutator (suc j) (suc i)) (old, before)
    | inr new ↦
        let ranks = rank in
        let olds = old-rank in
        let left = ((cut-answer A a (suc k)).presentation.commutator_sides j i l before).count in
        let right = ((cut-answer B b (suc k)).presentation.commutator_sides j i (omega arith) before).count in
        ext_get_or 0 (commutator_side M.presentation j i) (commutator_side N.presentation j i) (omega arith)
        (λ t h. new-commutator A a ca k j i t new l before ∙ sym (new-commutator B b cb k j i t (omega arith) (omega arith) before))
  ]

  powers-alike : M.presentation.powers ≡ N.presentation.powers
  powers-alike =
      let ranks = rank in
      let left = (cut-answer A a (suc k)).presentation.power_count in
      let right = (cut-answer B b (suc k)).presentation.power_count in
      ext_get_or [] M.presentation.powers N.presentation.powers (omega arith) (λ i l. power-alike i (omega arith))

  row-alike : (j : ℕ) → j < rank_up_to A (suc k) → get_or M.presentation.commutators j [] ≡ get_or N.presentation.commutators j []
  row-alike j l =
      let ranks = rank in
      let left = (cut-answer A a (suc k)).presentation.commutator_counts j l in
      let right = (cut-answer B b (suc k)).presentation.commutator_counts j (omega arith) in
      ext_get_or [] (get_or M.presentation.commutators j []) (get_or N.presentation.commutators j []) (omega arith)
      (λ i h. commutator-alike j i l (omega arith))

  commutators-alike : M.presentation.commutators ≡ N.presentation.commutators
  commutators-alike =
      let ranks = rank in
      let left = (cut-answer A a (suc k)).presentation.commutator_count in
      let right = (cut-answer B b (suc k)).presentation.commutator_count in
      ext_get_or [] M.presentation.commutators N.presentation.commutators (omega arith) (λ j l. row-alike j (omega arith))

  images-alike : M.images ≡ N.images
  images-alike =
      let left = cut-image_count A a (suc k) in
      let right = cut-image_count B b (suc k) in
      let here = cut-image_count A a k in
      let one_names : length A.names ≡ length B.names = ap length names in
      ext_get_or [] M.images N.images (omega arith) (λ i l. exponents-alike (image (suc i)) (omega arith))

  weight-alike : (i : ℕ) → i < rank_up_to A (suc k) → weight_at M i ≡ weight_at N i
  weight-alike i l = elim (cases_lt i (rank_up_to A k)) [
    | inl old ↦
        let ranks = rank in
        let olds = old-rank in
        cut-weight A a (suc k) i l ∙ sym (cut-weight A a k i old) ∙ ap (λ (C : Answer). weight_at C i) same
        ∙ cut-weight B b k i (omega arith) ∙ sym (cut-weight B b (suc k) i (omega arith))
    | inr new ↦
        let ranks = rank in
        let olds = old-rank in
        cut-weight A a (suc k) i l ∙ new-weight A a ca k i new l
        ∙ sym (cut-weight B b (suc k) i (omega arith) ∙ new-weight B b cb k i (omega arith) (omega arith))
  ]

  definition-alike : (i : ℕ) → i < rank_up_to A (suc k) → definition_at M i ≡ definition_at N i
  definition-alike i l = elim (cases_lt i (rank_up_to A k)) [
    | inl old ↦
        let ranks = rank in
        let olds = old-rank in
        cut-definition A a (suc k) i l ∙ sym (cut-definition A a k i old) ∙ ap (λ (C : Answer). definition_at C i) same
        ∙ cut-definition B b k i (omega arith) ∙ sym (cut-definition B b (suc k) i (omega arith))
    | inr new ↦
        let ranks = rank in
        let olds = old-rank in
        let sum = ranks-add A a k in
        let g : ℕ = i - rank_up_to A k in
        let place : rank_up_to A k + (i - rank_up_to A k) ≡ i = omega arith in
        let other : rank_up_to B k + (i - rank_up_to A k) ≡ i = omega arith in
        cut-definition A a (suc k) i l ∙ ap (definition_at A) (sym place) ∙ definitions g (omega arith) ∙ ap (definition_at B) other
        ∙ sym (cut-definition B b (suc k) i (omega arith))
  ]

  pub cuts-alike : up_to_class A (suc k) ≡ up_to_class B (suc k)
  cuts-alike =
      let ranks = rank in
      let left = cut-weight_count A a (suc k) in
      let right = cut-weight_count B b (suc k) in
      let first = cut-definition_count A a (suc k) in
      let second = cut-definition_count B b (suc k) in
      same_answers M N (record {
        prime = prime;
        rank = rank;
        powers = powers-alike;
        commutators = commutators-alike;
        weights = ext_get_or 0 M.weights N.weights (omega arith) (λ i l. weight-alike i (omega arith));
        names = names;
        definitions = ext_get_or (image 0) M.definitions N.definitions (omega arith) (λ i l. definition-alike i (omega arith));
        images = images-alike;
      })
