-- An answer that is cut to a class is an answer: the definitions of the generators that stay are by such generators.
use Rattle.std.proofs.Common.{◌≡◌, ℕ, zero, suc, ◌-◌, ◌<◌, ◌≤◌, List, [], ◌∷◌, get_or, length, map, take, ap, sym, ◌∙◌, subst, arith}
use Rattle.std.specs.List.{All}
use Rattle.std.proofs.lemmas.List.{get_or-map, length-take-le}
use Rattle.std.proofs.lemmas.List.Elements.{All-weaker}
use Rattle.pq_base.specs.Presentation.{word_from, normal_word, power_side, commutator_side}
use Rattle.pq_base.specs.Answer.{Answer, Definition, IsAnswer, HasDefinition, AreWeights, AreNormal, weight_at, definition_at, image_words}
use Rattle.pq_base.specs.Answer.Definition.{image, commutator, power}
use Rattle.pq_base.specs.Canonical.{rank_up_to, want_order, up_to_class}
use Rattle.pq_base.specs.EntryWords.{IsSourceOf}
use Rattle.fp_rows.proofs.BelowLaws.{AllBelow-take}
use Rattle.p_cover.specs.CoverLaws.{IsSource}
use Rattle.p_cover.proofs.SourceNumbers.{source-by_place}
use Rattle.pc_presentation.proofs.cuts.CutSides.{cut-presentation}
use Rattle.cover_quotient.proofs.canonical_answers.ClassesByWeight.{rank-within}
use Rattle.cover_quotient.proofs.canonical_answers.EarlierTurns.{wanted-sources}
use Rattle.unique_answers.proofs.unique.CutParts.{letter-cut, cut-weight_count, cut-definition_count, cut-image_count, cut-weight}
use Rattle.unique_answers.proofs.unique.CutParts.{cut-definition, cut-image, cut-power_side, cut-commutator_side}

AreWeights-take : (least n : ℕ) (ws : List ℕ) → AreWeights least ws → AreWeights least (take n ws)
AreWeights-take least zero ws h = tt
AreWeights-take least (suc n) [] h = tt
AreWeights-take least (suc n) (w ∷ ws) h = (h.0, h.1, AreWeights-take w n ws h.2)

AreNormal-take : (p m n : ℕ) (es : List (List ℕ)) → n ≤ m → AreNormal p m es → AreNormal p n (map (take n) es)
AreNormal-take p m n [] l h = tt
AreNormal-take p m n (e ∷ es) l h =
    let long = h.0.count in
    (record { count = length-take-le n e (omega arith); below = AllBelow-take p n e h.0.below }, AreNormal-take p m n es l h.1)

module _ (A : Answer) (is : IsAnswer A) (k : ℕ) where
  abbrev N : Answer
  N = up_to_class A k

  abbrev n : ℕ
  n = rank_up_to A k

  weight-kept : (l : ℕ) (holds : ℕ → Type 0) → l < n → holds (weight_at A l) → holds (weight_at N l)
  weight-kept l holds b h = subst holds (sym (cut-weight A is k l b)) h

  -- a definition of a generator that stays
  definition-kept : (l : ℕ) (d : Definition) → l < n → HasDefinition A l d → HasDefinition N l d
  definition-kept l (image zero) b h = absurd h
  definition-kept l (image (suc i)) b h =
      let many : i < length A.images = h.1 in
      let names : length A.images ≡ length A.names = is.image_count in
      let count = cut-image_count A is k in
      let word : get_or (image_words A) i [] ≡ normal_word (get_or A.images i []) = get_or-map normal_word A.images i [] [] many in
      let cut_word : get_or (image_words N) i [] ≡ normal_word (take n (get_or A.images i [])) =
      get_or-map normal_word N.images i [] [] (omega arith) ∙ ap normal_word (cut-image A is k i many) in (
        weight-kept l (λ (w : ℕ). w ≡ 1) b h.0,
        omega arith,
        cut_word ∙ letter-cut n 0 n l (get_or A.images i []) (omega arith) b (sym word ∙ h.2),
      )
  definition-kept l (commutator zero i) b h = absurd h
  definition-kept l (commutator (suc j) zero) b h = absurd h
  definition-kept l (commutator (suc j) (suc i)) b h =
      let before : j < l = h.2 in (
        weight-kept l (λ (w : ℕ). 1 < w) b h.0,
        h.1,
        before,
        ap (word_from (suc j)) (cut-commutator_side A is k j i (omega arith))
            ∙ letter-cut n (suc j) (n - suc j) l (commutator_side A.presentation j i) (omega arith) b h.3,
      )
  definition-kept l (power zero) b h = absurd h
  definition-kept l (power (suc j)) b h =
      let before : j < l = h.1 in (
        weight-kept l (λ (w : ℕ). 1 < w) b h.0,
        before,
        ap (word_from (suc j)) (cut-power_side A is k j (omega arith))
            ∙ letter-cut n (suc j) (n - suc j) l (power_side A.presentation j) (omega arith) b h.2,
      )

  pub cut-answer : IsAnswer (up_to_class A k)
  cut-answer =
      let fits = rank-within A is k in
      record {
        presentation = cut-presentation A.presentation is.presentation n fits;
        weight_count = cut-weight_count A is k;
        weights = AreWeights-take 1 n A.weights is.weights;
        some_name = is.some_name;
        name_limit = is.name_limit;
        distinct = is.distinct;
        image_count = cut-image_count A is k;
        images = AreNormal-take A.presentation.prime A.presentation.rank n A.images fits is.images;
        definition_count = cut-definition_count A is k;
        definitions = λ l b.
            subst (λ (d : Definition). HasDefinition (up_to_class A k) l d) (sym (cut-definition A is k l b))
            (definition-kept l (definition_at A l) b (is.definitions l (omega arith)));
      }

  -- its entries are relations and images of it
  pub cut-entries : (c : ℕ) → All (IsSourceOf (up_to_class A k)) (want_order (up_to_class A k) c)
  cut-entries c =
      All-weaker (IsSource N) (IsSourceOf N) (source-by_place N cut-answer) (want_order N c) (wanted-sources N c)
