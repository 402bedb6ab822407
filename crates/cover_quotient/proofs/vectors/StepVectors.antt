-- The step from class 1 to class 2 of the dihedral group of order eight meets the conditions of a step, and a step that keeps
-- a tail of a square below the class does not.
use Rattle.std.proofs.Common.{◌≡◌, ◌<◌, ◌-◌, ℕ, zero, suc, [], ◌∷◌, get_or, refl, ap, ◌∙◌, inl, lit<, lit≤, arith}
use Rattle.pq_base.specs.Answer.{IsAnswer, HasDefinition, definition_at, class_of}
use Rattle.pq_base.specs.Answer.Definition.{image}
use Rattle.pq_base.proofs.ElementaryLaws.{elementary_laws}
use Rattle.pq_base.proofs.vectors.Answers.{answer_of_order_eight}
use Rattle.pq_base.proofs.vectors.LPresentations.{are_x_and_y_distinct}
use Rattle.fp_rows.specs.Row.{at_column}
use Rattle.fp_echelon.specs.Reduced.{IsReduced}
use Rattle.p_cover.specs.Covers.{CoverOf, all_sources}
use Rattle.p_cover.proofs.PartLaws.{part_of_itself}
use Rattle.cover_quotient.specs.Defining.{KeptMayDefine}
use Rattle.cover_quotient.specs.AnswerLaws.{IsBasisOver, IsNextAnswer}
use Rattle.cover_quotient.proofs.next_answers.AnswerLaws.{next_answers_are_answers}
use Rattle.cover_quotient.proofs.kept_tails.EliminatedAnswers.{kept-defining}
use Rattle.cover_quotient.proofs.vectors.NextAnswerVectors.{answer_of_class_one, cover_of_class_one, squares}

class_one_is_answer : IsAnswer answer_of_class_one
class_one_is_answer = record {
  presentation = (elementary_laws 2 2 (lit≤ tt)).presentation;
  weight_count = refl;
  weights = (lit≤ tt, lit≤ tt, (lit≤ tt, lit≤ tt, tt));
  some_name = lit≤ tt;
  name_limit = lit≤ tt;
  distinct = are_x_and_y_distinct;
  image_count = refl;
  images = (record { count = refl; below = (lit< tt, (lit< tt, tt)) }, (record { count = refl; below = (lit< tt, (lit< tt, tt)) }, tt));
  definition_count = refl;
  definitions = defined;
} where
  defined : (k : ℕ) → k < 2 → HasDefinition answer_of_class_one k (definition_at answer_of_class_one k)
  defined zero h = (refl, lit< tt, refl)
  defined (suc zero) h = (refl, lit< tt, refl)
  defined (suc (suc k)) h = absurd (omega (arith, h))

-- entries after a column of a row of three
third_zero : (x y : ℕ) (d : ℕ) → 2 < d → at_column (x ∷ y ∷ 0 ∷ []) d ≡ 0
third_zero x y zero h = absurd (omega arith)
third_zero x y (suc d) h =
    let same : suc d - 1 ≡ d = omega arith in
    ap (λ (i : ℕ). get_or (x ∷ y ∷ 0 ∷ []) i 0) same ∙ later d (omega arith)
  where
    later : (i : ℕ) → 1 < i → get_or (x ∷ y ∷ 0 ∷ []) i 0 ≡ 0
    later zero h = absurd (omega arith)
    later (suc zero) h = absurd (omega arith)
    later (suc (suc zero)) h = refl
    later (suc (suc (suc i))) h = refl

none_after_third : (x y z : ℕ) (d : ℕ) → 3 < d → at_column (x ∷ y ∷ z ∷ []) d ≡ 0
none_after_third x y z zero h = absurd (omega arith)
none_after_third x y z (suc d) h =
    let same : suc d - 1 ≡ d = omega arith in
    ap (λ (i : ℕ). get_or (x ∷ y ∷ z ∷ []) i 0) same ∙ later d (omega arith)
  where
    later : (i : ℕ) → 2 < i → get_or (x ∷ y ∷ z ∷ []) i 0 ≡ 0
    later zero h = absurd (omega arith)
    later (suc zero) h = absurd (omega arith)
    later (suc (suc zero)) h = absurd (omega arith)
    later (suc (suc (suc i))) h = refl

squares_are_reduced : IsReduced 2 3 squares
squares_are_reduced = (
  record {
    fits = record { count = refl; below = (lit< tt, (lit< tt, (lit< tt, tt))) };
    last = record {
      column = record { first = lit≤ tt; last = lit≤ tt };
      nonzero = λ e. absurd (omega arith);
      zero_after = third_zero 0 1;
    };
    one = refl;
  },
  record { others = (refl, tt); own = (refl, tt) },
  (
    record {
      fits = record { count = refl; below = (lit< tt, (lit< tt, (lit< tt, tt))) };
      last = record {
        column = record { first = lit≤ tt; last = lit≤ tt };
        nonzero = λ e. absurd (omega arith);
        zero_after = none_after_third 0 0 1;
      };
      one = refl;
    },
    record { others = tt; own = tt },
    tt,
  ),
)

squares_are_basis : IsBasisOver cover_of_class_one squares
squares_are_basis = record {
  cover = record { answer = class_one_is_answer; sources = part_of_itself (all_sources answer_of_class_one) };
  prime = inl refl;
  reduced = squares_are_reduced;
}

commutator_may_define : KeptMayDefine cover_of_class_one squares
commutator_may_define zero d h = record { kept = refl; allowed = refl }
commutator_may_define (suc k) d h = absurd (omega arith)

-- so the answer of order eight is the next one, by the law
order_eight_is_next : IsNextAnswer answer_of_class_one answer_of_order_eight
order_eight_is_next =
    next_answers_are_answers cover_of_class_one squares squares_are_basis (kept-defining cover_of_class_one squares commutator_may_define)
    (lit≤ tt) (lit≤ tt)

-- the answer of class 1 is not, as its class is no greater
class_one_is_not_next : IsNextAnswer answer_of_class_one answer_of_class_one → ⊥
class_one_is_not_next h = let class : class_of answer_of_class_one ≡ suc (class_of answer_of_class_one) = h.class in absurd (omega arith)

-- without relators the cover of the answer of order eight keeps the tail of a1^2, whose weight is below the class
abbrev cover_of_order_eight : CoverOf
cover_of_order_eight = record { answer = answer_of_order_eight; sources = all_sources answer_of_order_eight }

light_square_may_not_define : KeptMayDefine cover_of_order_eight [] → ⊥
light_square_may_not_define h = cc (h 3 (image 0) (lit< tt)).allowed
