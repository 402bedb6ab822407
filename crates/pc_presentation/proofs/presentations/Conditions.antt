-- The conditions of an answer hold of the parts exactly where the tests pass.
use Rattle.std.proofs.Common.{◌≡◌, ℕ, zero, suc, ◌+◌, ◌-◌, ◌<◌, List, [], get_or, length, map, ap, sym, ◌∙◌, subst, arith}
use Rattle.std.proofs.lemmas.List.{get_or-map, length-map}
use Rattle.pq_base.specs.Presentation.{Presentation, normal_word, power_side, commutator_side}
use Rattle.pq_base.specs.Answer.{Answer, HasDefinition, image_words}
use Rattle.pq_base.specs.Answer.Definition.{image}
use Rattle.pc_presentation.specs.declared.syllable.Syllable.{Syllable}
use Rattle.pc_presentation.specs.declared.relation.Relation.TheVariants.{Power as PowerOf, Commutator as CommutatorOf}
use Rattle.pc_presentation.specs.declared.definition.Definition.{Definition}
use Rattle.pc_presentation.specs.declared.definition.Definition.TheVariants.{Image, Commutator, Power}
use Rattle.pc_presentation.specs.Syllable.{spread, syllables_of, IsGenerator}
use Rattle.pc_presentation.specs.Pcp.{TailedPresentation, IsTailedPresentation, right_side}
use Rattle.pc_presentation.specs.Definition.{definition_of}
use Rattle.pc_presentation.specs.Parts.{answer_of, AreImages, AreParts, AreTested, IsDefined}
use Rattle.pq_base.proofs.PrimeLaws.{positive_prime}
use Rattle.pc_presentation.proofs.presentations.PartsLaws.{AreWeights-tested, are_weights-AreWeights, image_at, AreNormal-spread}
use Rattle.pc_presentation.proofs.presentations.PartsLaws.{IsGenerator-word, word_from-IsGenerator}

less_one : (i : ℕ) → suc i - 1 ≡ i
less_one i = omega arith

power_side-at : (P : Presentation) (j : ℕ) → right_side P (PowerOf (suc j)) ≡ power_side P j
power_side-at P j = ap (power_side P) (less_one j)

commutator_side-at : (P : Presentation) (j i : ℕ) → right_side P (CommutatorOf (suc j) (suc i)) ≡ commutator_side P j i
commutator_side-at P j i =
    ap (λ (k : ℕ). commutator_side P k (suc i - 1)) (less_one j) ∙ ap (commutator_side P j) (less_one i)

module _ (T : TailedPresentation) (names : List (List ℕ)) (definitions : List Definition) (words : List (List Syllable)) where
  abbrev pub made : Answer
  made = answer_of T names definitions words

  weight_here : (k : ℕ) → get_or T.weights (suc k - 1) 0 ≡ get_or T.weights k 0
  weight_here k = ap (λ (i : ℕ). get_or T.weights i 0) (less_one k)

  image_word : (i : ℕ) → i < length words
      → get_or (image_words made) i [] ≡ normal_word (get_or (map (spread T.presentation.rank 0) words) i [])
  image_word i h =
      let long : length (map (spread T.presentation.rank 0) words) ≡ length words = length-map words (spread T.presentation.rank 0) in
      get_or-map normal_word (map (spread T.presentation.rank 0) words) i [] [] (omega arith)

  image_is : (i : ℕ) → AreImages T.presentation.prime T.presentation.rank words → i < length words
      → get_or words (suc i - 1) [] ≡ syllables_of 0 (get_or (map (spread T.presentation.rank 0) words) i [])
  image_is i a h =
      ap (λ (k : ℕ). get_or words k []) (less_one i) ∙ image_at T.presentation.prime T.presentation.rank i words a h

  pub HasDefinition-IsDefined : (k : ℕ) (d : Definition) → AreImages T.presentation.prime T.presentation.rank words
      → IsDefined T words (suc k) d
      → HasDefinition made k (definition_of d)
  HasDefinition-IsDefined k (Image zero) a h = absurd (omega arith)
  HasDefinition-IsDefined k (Image (suc i)) a h =
      let long : length (map (spread T.presentation.rank 0) words) ≡ length words = length-map words (spread T.presentation.rank 0) in
      let inside : i < length words = omega arith in (
        sym (weight_here k) ∙ h.0,
        omega arith,
        image_word i inside ∙ word_from-IsGenerator k 0 (get_or (map (spread T.presentation.rank 0) words) i [])
            (sym (image_is i a inside) ∙ h.3),
      )
  HasDefinition-IsDefined k (Commutator zero i) a h = absurd (omega arith)
  HasDefinition-IsDefined k (Commutator (suc j) zero) a h = absurd (omega arith)
  HasDefinition-IsDefined k (Commutator (suc j) (suc i)) a h =
      let weight = weight_here k in (
        omega arith,
        omega arith,
        omega arith,
        word_from-IsGenerator k (suc j) (commutator_side T.presentation j i)
            (subst (λ (e : List ℕ). IsGenerator (suc k) (syllables_of (suc j) e)) (commutator_side-at T.presentation j i) h.4),
      )
  HasDefinition-IsDefined k (Power zero) a h = absurd (omega arith)
  HasDefinition-IsDefined k (Power (suc j)) a h =
      let weight = weight_here k in (
        omega arith,
        omega arith,
        word_from-IsGenerator k (suc j) (power_side T.presentation j)
            (subst (λ (e : List ℕ). IsGenerator (suc k) (syllables_of (suc j) e)) (power_side-at T.presentation j) h.3),
      )

  pub IsDefined-HasDefinition : (k : ℕ) (d : Definition) → AreImages T.presentation.prime T.presentation.rank words
      → HasDefinition made k (definition_of d) → IsDefined T words (suc k) d
  IsDefined-HasDefinition k (Image zero) a h = absurd h
  IsDefined-HasDefinition k (Image (suc i)) a h =
      let long : length (map (spread T.presentation.rank 0) words) ≡ length words = length-map words (spread T.presentation.rank 0) in
      let below : i < length (map (spread T.presentation.rank 0) words) = h.1 in
      let inside : i < length words = omega arith in (
        weight_here k ∙ h.0,
        omega arith,
        omega arith,
        image_is i a inside ∙ IsGenerator-word k 0 (get_or (map (spread T.presentation.rank 0) words) i [])
            (sym (image_word i inside) ∙ h.2),
      )
  IsDefined-HasDefinition k (Commutator zero i) a h = absurd h
  IsDefined-HasDefinition k (Commutator (suc j) zero) a h = absurd h
  IsDefined-HasDefinition k (Commutator (suc j) (suc i)) a h =
      let weight = weight_here k in
      let heavy : 1 < get_or T.weights k 0 = h.0 in
      let before : i < j = h.1 in
      let earlier : j < k = h.2 in (
        omega arith,
        omega arith,
        omega arith,
        omega arith,
        subst (λ (e : List ℕ). IsGenerator (suc k) (syllables_of (suc j) e)) (sym (commutator_side-at T.presentation j i))
            (IsGenerator-word k (suc j) (commutator_side T.presentation j i) h.3),
      )
  IsDefined-HasDefinition k (Power zero) a h = absurd h
  IsDefined-HasDefinition k (Power (suc j)) a h =
      let weight = weight_here k in
      let heavy : 1 < get_or T.weights k 0 = h.0 in
      let earlier : j < k = h.1 in (
        omega arith,
        omega arith,
        omega arith,
        subst (λ (e : List ℕ). IsGenerator (suc k) (syllables_of (suc j) e)) (sym (power_side-at T.presentation j))
            (IsGenerator-word k (suc j) (power_side T.presentation j) h.2),
      )

  one_more : (k : ℕ) → k + 1 ≡ suc k
  one_more k = omega arith

  pub AreParts-tested : IsTailedPresentation T → AreTested T names definitions words → AreParts T names definitions words
  AreParts-tested is t = record {
    no_tails = t.no_tails;
    normal = t.normal;
    answer = record {
      presentation = is.presentation;
      weight_count = is.weight_count;
      weights = AreWeights-tested 1 T.weights t.rising;
      some_name = t.some_name;
      name_limit = t.name_limit;
      distinct = t.distinct;
      image_count = length-map words (spread T.presentation.rank 0) ∙ t.image_count;
      images = AreNormal-spread T.presentation.prime T.presentation.rank words (positive_prime T.presentation is.presentation) t.normal;
      definition_count = length-map definitions definition_of ∙ t.definition_count;
      definitions = λ k h.
          let count : length definitions ≡ T.presentation.rank = t.definition_count in
          subst (HasDefinition made k) (sym (get_or-map definition_of definitions k (Image 0) (image 0) (omega arith)))
          (HasDefinition-IsDefined k (get_or definitions k (Image 0)) t.normal
          (subst (λ (g : ℕ). IsDefined T words g (get_or definitions k (Image 0))) (one_more k) (t.defined k (Image 0) (omega arith))));
    };
  }

  pub AreTested-parts : AreParts T names definitions words → AreTested T names definitions words
  AreTested-parts a =
      let count : length definitions ≡ T.presentation.rank = sym (length-map definitions definition_of) ∙ a.answer.definition_count in
      record {
        no_tails = a.no_tails;
        rising = are_weights-AreWeights 1 T.weights a.answer.weights;
        some_name = a.answer.some_name;
        name_limit = a.answer.name_limit;
        distinct = a.answer.distinct;
        image_count = sym (length-map words (spread T.presentation.rank 0)) ∙ a.answer.image_count;
        normal = a.normal;
        definition_count = count;
        defined = λ k d h.
            subst (λ (g : ℕ). IsDefined T words g (get_or definitions k d)) (sym (one_more k))
            (IsDefined-HasDefinition k (get_or definitions k d) a.normal
            (subst (HasDefinition made k) (get_or-map definition_of definitions k d (image 0) h) (a.answer.definitions k (omega arith))));
      }
