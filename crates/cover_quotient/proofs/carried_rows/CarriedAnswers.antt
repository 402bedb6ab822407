-- An answer with its rows carried along a map is an answer with rows: what defines a generator still has the row of zeros.
use Rattle.std.proofs.Common.{◌≡◌, ℕ, zero, suc, ◌<◌, List, [], ◌∷◌, length, map, ap, sym, ◌∙◌, arith}
use Rattle.std.proofs.lemmas.List.{length-map, get_or-map}
use Rattle.pq_base.specs.Presentation.{IsNormal}
use Rattle.pq_base.specs.Answer.{Definition, AreNormal, HasDefinition, definition_at}
use Rattle.pq_base.specs.Answer.Definition.{image, commutator, power}
use Rattle.fp_echelon.specs.Span.{AreRows}
use Rattle.p_cover.specs.RowedAnswer.{RowedAnswer, IsRowedAnswer, rowed, row_at}
use Rattle.pq_base.specs.EntryWords.{IsSourceOf}
use Rattle.cover_quotient.specs.Carried.{carried, carried_answer}
use Rattle.cover_quotient.proofs.carried_rows.CarriedPresentations.{carry-normal, carry-zeros, power_row-carried, commutator_row-carried}
use Rattle.cover_quotient.proofs.carried_rows.CarriedPresentations.{carried-rowed}

normal-map : (p q : ℕ) (f : List ℕ → List ℕ) (xs : List (List ℕ)) → ((x : List ℕ) → IsNormal p q (f x)) → AreNormal p q (map f xs)
normal-map p q f [] h = tt
normal-map p q f (x ∷ xs) h = (h x, normal-map p q f xs h)

module _ (Y : RowedAnswer) (is : IsRowedAnswer Y) (positive : 0 < Y.answer.presentation.prime) where
  -- what defines a generator is a relation or an image
  pub definition-source : (k : ℕ) (d : Definition) → k < Y.answer.presentation.rank → HasDefinition Y.answer k d → IsSourceOf Y.answer d
  definition-source k (image zero) l h = absurd h
  definition-source k (image (suc i)) l h = h.1
  definition-source k (commutator zero i) l h = absurd h
  definition-source k (commutator (suc j) zero) l h = absurd h
  definition-source k (commutator (suc j) (suc i)) l h =
      let before : i < j = h.1 in
      let earlier : j < k = h.2 in
      (omega arith, before)
  definition-source k (power zero) l h = absurd h
  definition-source k (power (suc j)) l h = let earlier : j < k = h.1 in omega arith

  module _ (width : ℕ) (rows : List (List ℕ)) (are : AreRows Y.answer.presentation.prime width rows) where
    -- the row of each relation and image is carried
    pub row_at-carried : (d : Definition) → IsSourceOf Y.answer d
        → row_at (carried_answer width rows Y) d ≡ carried Y.answer.presentation.prime width rows (row_at Y d)
    row_at-carried (image zero) h = absurd h
    row_at-carried (image (suc i)) h =
        let count : length Y.image_rows ≡ length Y.answer.images = is.image_count ∙ sym is.answer.image_count in
        get_or-map (carried Y.answer.presentation.prime width rows) Y.image_rows i [] [] (omega arith)
    row_at-carried (commutator zero i) h = absurd h
    row_at-carried (commutator (suc j) zero) h = absurd h
    row_at-carried (commutator (suc j) (suc i)) h = commutator_row-carried (rowed Y) is.presentation positive width rows are j i h.0 h.1
    row_at-carried (power zero) h = absurd h
    row_at-carried (power (suc j)) h = power_row-carried (rowed Y) is.presentation positive width rows are j h

    pub carried-rowed_answer : IsRowedAnswer (carried_answer width rows Y)
    carried-rowed_answer = record {
      answer = is.answer;
      presentation = carried-rowed (rowed Y) is.presentation positive width rows are;
      image_count = length-map Y.image_rows (carried Y.answer.presentation.prime width rows) ∙ is.image_count;
      image_rows =
          normal-map Y.answer.presentation.prime width (carried Y.answer.presentation.prime width rows) Y.image_rows
          (carry-normal (rowed Y) is.presentation positive width rows are);
      definitions = λ k l.
          row_at-carried (definition_at Y.answer k) (definition-source k (definition_at Y.answer k) l (is.answer.definitions k l))
          ∙ ap (carried Y.answer.presentation.prime width rows) (is.definitions k l)
          ∙ carry-zeros (rowed Y) is.presentation positive width rows are;
    }
