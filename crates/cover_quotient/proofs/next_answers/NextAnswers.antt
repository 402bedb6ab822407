-- The next answer is an answer: the tails of an answer with rows become generators of the next class, defined by sources
-- that may define them and that carry exactly these tails.
use Rattle.std.proofs.Common.{◌≡◌, ℕ, zero, suc, ◌+◌, ◌-◌, ◌<◌, ◌≤◌, List, [], ◌∷◌, get_or, length, refl, ap, sym, ◌∙◌, inl, inr, subst}
use Rattle.std.proofs.Common.{arith, length-append}
use Rattle.std.proofs.lemmas.Bool.{cases_lt}
use Rattle.std.proofs.lemmas.List.{length-replicate, get_or_append_left, get_or-append-add}
use Rattle.std.proofs.Math.ListN.{get_or-map}
use Rattle.pq_base.specs.Limits.{max_class}
use Rattle.pq_base.specs.Elementary.{zeros}
use Rattle.pq_base.specs.Presentation.{normal_word, power_word, commutator_word}
use Rattle.pq_base.specs.Answer.{Definition as Source, IsAnswer, HasDefinition, class_of, weight_at, image_words, definition_at}
use Rattle.pq_base.specs.Answer.Definition.{image, commutator, power}
use Rattle.pc_presentation.specs.Rowed.{power_row, commutator_row, flat, followed_by}
use Rattle.pc_presentation.specs.Pcp.{unit_row}
use Rattle.pc_presentation.proofs.rows.FlatLaws.{flat-presentation, length-followed_by}
use Rattle.p_cover.specs.RowedAnswer.{RowedAnswer, IsRowedAnswer, rowed, row_at}
use Rattle.pq_base.specs.EntryWords.{IsSourceOf}
use Rattle.pc_presentation.proofs.rows.FlatWords.{power_word-flat, commutator_word-flat}
use Rattle.cover_quotient.specs.NextAnswer.{next_answer}
use Rattle.cover_quotient.specs.Defining.{MayBeKept}
use Rattle.pq_base.proofs.LastWeights.{weights-followed, no_weights, weight-before, weight-new}
use Rattle.cover_quotient.proofs.next_answers.NextWords.{normal-followed_by, with_zero_row, with_unit_row, image-followed}
use Rattle.pq_base.proofs.NormalLists.{normal-entry}

-- a source that may define a generator and carries exactly the tail at place t, counted from 0
pub record IsSourceOfTail (Y : RowedAnswer) (t : ℕ) (d : Source) : Type 0 where
  pub source : IsSourceOf Y.answer d
  pub allowed : MayBeKept Y.answer (class_of Y.answer) d
  pub row : row_at Y d ≡ unit_row Y.width (suc t)

empty_list : (e : List ℕ) → length e ≡ 0 → e ≡ []
empty_list [] h = refl
empty_list (a ∷ e) h = absurd (omega arith)

module _ (Y : RowedAnswer) (is : IsRowedAnswer Y) (positive : 0 < Y.answer.presentation.prime) (sources : List Source) where
  abbrev n : ℕ
  n = Y.answer.presentation.rank

  -- the images of the next answer
  image-next : (i : ℕ) → i < length Y.answer.images → i < length (followed_by Y.answer.images Y.image_rows)
  image-next i l =
      let c = length-followed_by Y.answer.images Y.image_rows (is.answer.image_count ∙ sym is.image_count) in
      omega arith

  old-weight : (k : ℕ) → k < n → weight_at (next_answer Y sources) k ≡ weight_at Y.answer k
  old-weight k l =
      let c = is.answer.weight_count in
      weight-before Y.answer.weights (suc (class_of Y.answer)) Y.width k (omega arith)

  new-weight : (t : ℕ) → t < Y.width → weight_at (next_answer Y sources) (n + t) ≡ suc (class_of Y.answer)
  new-weight t l =
      ap (λ (m : ℕ). weight_at (next_answer Y sources) (m + t)) (sym is.answer.weight_count)
      ∙ weight-new Y.answer.weights (suc (class_of Y.answer)) Y.width t l

  -- a definition of the answer
  old-definition : (k : ℕ) (d : Source) → k < n → HasDefinition Y.answer k d → row_at Y d ≡ zeros Y.width
      → HasDefinition (next_answer Y sources) k d
  old-definition k (image zero) l h r = absurd h
  old-definition k (image (suc i)) l h r =
      let inside : i < length Y.answer.images = h.1 in (
        old-weight k l ∙ h.0,
        image-next i inside,
        with_zero_row n Y.width (get_or (image_words Y.answer) i []) (get_or (image_words (next_answer Y sources)) i [])
            (get_or Y.image_rows i [])
            (image-followed Y is i inside) r ∙ h.2,
      )
  old-definition k (commutator zero i) l h r = absurd h
  old-definition k (commutator (suc j) zero) l h r = absurd h
  old-definition k (commutator (suc j) (suc i)) l h r =
      let heavy : 1 < weight_at Y.answer k = h.0 in
      let weight = old-weight k l in
      let before : j < k = h.2 in (
        (let more : 1 < weight_at (next_answer Y sources) k = omega arith in more),
        h.1,
        h.2,
        with_zero_row n Y.width (commutator_word Y.answer.presentation j i) (commutator_word (flat (rowed Y)) j i)
            (commutator_row (rowed Y) j i)
            (commutator_word-flat (rowed Y) is.presentation j i (omega arith) h.1) r ∙ h.3,
      )
  old-definition k (power zero) l h r = absurd h
  old-definition k (power (suc j)) l h r =
      let heavy : 1 < weight_at Y.answer k = h.0 in
      let weight = old-weight k l in
      let before : j < k = h.1 in (
        (let more : 1 < weight_at (next_answer Y sources) k = omega arith in more),
        h.1,
        with_zero_row n Y.width (power_word Y.answer.presentation j) (power_word (flat (rowed Y)) j) (power_row (rowed Y) j)
            (power_word-flat (rowed Y) is.presentation j (omega arith)) r ∙ h.2,
      )

  -- the definition of a tail
  new-definition : (t c : ℕ) (d : Source) → t < Y.width → c ≡ class_of Y.answer → IsSourceOf Y.answer d → MayBeKept Y.answer c d
      → row_at Y d ≡ unit_row Y.width (suc t) → HasDefinition (next_answer Y sources) (n + t) d
  new-definition t c (image zero) l e s m r = absurd s
  new-definition t zero (image (suc i)) l e s m r =
      let none : length Y.answer.weights ≡ 0 = no_weights Y.answer.weights is.answer.weights (sym e) in
      let count = is.answer.weight_count in
      let long = (normal-entry Y.answer.presentation.prime n Y.answer.images i is.answer.images s).count in
      let weight = new-weight t l in
      let empty : get_or (image_words Y.answer) i [] ≡ [] =
      get_or-map normal_word Y.answer.images i [] ∙ ap normal_word (empty_list (get_or Y.answer.images i []) (omega arith)) in (
        (let one : weight_at (next_answer Y sources) (n + t) ≡ 1 = omega arith in one),
        image-next i s,
        with_unit_row n Y.width t (get_or (image_words Y.answer) i []) (get_or (image_words (next_answer Y sources)) i [])
            (get_or Y.image_rows i [])
            (image-followed Y is i s) empty r l,
      )
  new-definition t (suc c) (image (suc i)) l e s m r = absurd m
  new-definition t c (commutator zero i) l e s m r = absurd s
  new-definition t c (commutator (suc j) zero) l e s m r = absurd s
  new-definition t zero (commutator (suc j) (suc i)) l e s m r = absurd m
  new-definition t (suc c) (commutator (suc j) (suc i)) l e s m r =
      let weight = new-weight t l in
      let below : j < n = s.0 in (
        (let more : 1 < weight_at (next_answer Y sources) (n + t) = omega arith in more),
        s.1,
        (let before : j < n + t = omega arith in before),
        with_unit_row n Y.width t (commutator_word Y.answer.presentation j i) (commutator_word (flat (rowed Y)) j i)
            (commutator_row (rowed Y) j i)
            (commutator_word-flat (rowed Y) is.presentation j i s.0 s.1) m r l,
      )
  new-definition t c (power zero) l e s m r = absurd s
  new-definition t zero (power (suc j)) l e s m r = absurd m
  new-definition t (suc c) (power (suc j)) l e s m r =
      let weight = new-weight t l in
      let below : j < n = s in (
        (let more : 1 < weight_at (next_answer Y sources) (n + t) = omega arith in more),
        (let before : j < n + t = omega arith in before),
        with_unit_row n Y.width t (power_word Y.answer.presentation j) (power_word (flat (rowed Y)) j) (power_row (rowed Y) j)
            (power_word-flat (rowed Y) is.presentation j s) m r l,
      )

  module _ (count : length sources ≡ Y.width) (each : (t : ℕ) → t < Y.width → IsSourceOfTail Y t (get_or sources t (image 0))) where
    next-definition : (k : ℕ) → k < n + Y.width → HasDefinition (next_answer Y sources) k (definition_at (next_answer Y sources) k)
    next-definition k l = elim (cases_lt k n) [
      | inl h ↦
          let c = is.answer.definition_count in
          let same : definition_at Y.answer k ≡ definition_at (next_answer Y sources) k =
          sym (get_or_append_left Y.answer.definitions sources (image 0) k (omega arith)) in
          subst (λ (d : Source). HasDefinition (next_answer Y sources) k d) same
          (old-definition k (definition_at Y.answer k) h (is.answer.definitions k h) (is.definitions k h))
      | inr h ↦
          let t : ℕ = k - Y.answer.presentation.rank in
          let place : n + t ≡ k = omega arith in
          let within : t < Y.width = omega arith in
          let tail = each t within in
          let same : get_or sources t (image 0) ≡ definition_at (next_answer Y sources) (n + t) =
          sym (ap (λ (m : ℕ). definition_at (next_answer Y sources) (m + t)) (sym is.answer.definition_count)
          ∙ get_or-append-add Y.answer.definitions sources t (image 0)) in
          subst (λ (m : ℕ). HasDefinition (next_answer Y sources) m (definition_at (next_answer Y sources) m)) place
          (subst (λ (d : Source). HasDefinition (next_answer Y sources) (n + t) d) same
          (new-definition t (class_of Y.answer) (get_or sources t (image 0)) within refl tail.source tail.allowed tail.row))
    ]

    pub next-answer : class_of Y.answer < max_class → IsAnswer (next_answer Y sources)
    next-answer few = record {
      presentation = flat-presentation (rowed Y) is.presentation positive;
      weight_count =
          simp length-append (let c = is.answer.weight_count in let d = length-replicate Y.width (suc (class_of Y.answer)) in omega arith);
      weights =
          weights-followed 1 (suc (class_of Y.answer)) Y.width Y.answer.weights is.answer.weights (omega arith) (omega arith) (omega arith);
      some_name = is.answer.some_name;
      name_limit = is.answer.name_limit;
      distinct = is.answer.distinct;
      image_count = length-followed_by Y.answer.images Y.image_rows (is.answer.image_count ∙ sym is.image_count) ∙ is.answer.image_count;
      images = normal-followed_by Y.answer.presentation.prime n Y.width Y.answer.images Y.image_rows is.answer.images is.image_rows;
      definition_count = simp length-append (let c = is.answer.definition_count in omega arith);
      definitions = next-definition;
    }
