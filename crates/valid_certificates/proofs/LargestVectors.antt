-- The laws apply to a certificate: the group of order two is the largest quotient of class 1, for the prime 2, of the free group on one
-- generator, by the certificate's one step, which keeps the tail of the image.
use Rattle.std.proofs.Common.{◌≡◌, ◌≤◌, ◌-◌, ℕ, zero, suc, [], ◌∷◌, refl, subst, arith, lit≤, inl}
use Rattle.std.proofs.lemmas.List.Elements.{All-nil, All-cons}
use Rattle.pq_base.specs.Answer.Definition.{image}
use Rattle.pq_base.specs.Canonical.{IsCanonical}
use Rattle.pq_base.specs.Largest.{IsLargest}
use Rattle.pq_base.proofs.vectors.LargestQuotients.{x_name}
use Rattle.pq_base.proofs.vectors.Answers.{answer_of_order_two}
use Rattle.pc_presentation.specs.Rowed.{without_rows}
use Rattle.pc_presentation.specs.Collection.{plain_push_from}
use Rattle.pc_presentation.specs.Overlaps.{AgreesPlainly}
use Rattle.pc_presentation.specs.Overlaps.Overlap.{own}
use Rattle.pc_presentation.specs.declared.overlap.Overlap.TheVariants.{Triple, Left, Right, Own}
use Rattle.p_cover.specs.Covers.{CoverOf}
use Rattle.cover_quotient.specs.Stages.{full_cover_of}
use Rattle.derivation_log.specs.declared.source.Run.TheVariants.{Whole}
use Rattle.derivation_log.specs.Certificates.{Certificate}
use Rattle.derivation_log.specs.CertificateRuns.{cover_at}
use Rattle.derivation_log.specs.CertificateParts.{full_kind, OverlapsAgree}
use Rattle.derivation_log.specs.Validity.{IsValid}
use Rattle.derivation_log.specs.ValidParts.{KeepsStep}
use Rattle.derivation_log.proofs.ValidParts.{keeps-valid}
use Rattle.valid_certificates.specs.ReachedAnswers.{HasForm}
use Rattle.valid_certificates.proofs.LineRows.{line_row}
use Rattle.valid_certificates.proofs.ValidCertificates.{valid_certificates_are_largest, valid_certificates_are_canonical}

abbrev of_free_group : Certificate
of_free_group = record {
  version = 1;
  presentation = record { names = x_name ∷ []; fixed = []; iterated = []; endos = [] };
  prime = 2;
  class = 1;
  iterated = [];
  whole = record { sources = []; tails = [] } ∷ [];
  answer = answer_of_order_two;
}

free_group_has_form : HasForm of_free_group
free_group_has_form = record {
  words = record {
    distinct = λ i j less below. absurd (omega (arith, less, below));
    fixed_words = tt;
    iterated_words = tt;
    endo_words = tt;
  };
  some_name = lit≤ tt;
  name_limit = lit≤ tt;
  offered = inl refl;
  form = record {
    version = inl refl;
    class_from_one = lit≤ tt;
    class_limit = lit≤ tt;
    prime = refl;
    names = refl;
    one_run = λ e. refl;
    iterated_steps = refl;
    whole_steps = refl;
  };
}

-- the cover of its step
abbrev the_cover : CoverOf
the_cover = cover_at full_cover_of of_free_group Whole 1

one_step : (k : ℕ) → 1 ≤ k → k ≤ 1 → KeepsStep full_kind of_free_group Whole k
one_step zero first last = absurd (omega (arith, first))
one_step (suc zero) first last = record {
  extra = record { class = lit≤ tt; earlier = λ j l m. absurd (omega (arith, l, m)) };
  rows = record { rows = λ k d l. absurd (omega (arith, l)); tested = λ k d l. absurd (omega (arith, l)) };
  sums = record { rows = []; are = tt; lines = λ k d l. absurd (omega (arith, l)) };
  rank = record {
    limit = lit≤ tt;
    may_keep = All-cons (full_kind.may_keep the_cover.answer) (image 1) [] tt (All-nil (full_kind.may_keep the_cover.answer));
  };
}
one_step (suc (suc k)) first last = absurd (omega (arith, last))

-- the cube of a1 has one value
cube : AgreesPlainly (without_rows answer_of_order_two.presentation) (own 0)
unfolding plain_push_from
cube = refl

overlaps_agree : OverlapsAgree full_kind answer_of_order_two
overlaps_agree (Triple k j i) h none = absurd (omega (arith, h.0, h.1, h.2, h.3))
overlaps_agree (Left j i) h none = absurd (omega (arith, h.0, h.1, h.2))
overlaps_agree (Right j i) h none = absurd (omega (arith, h.0, h.1, h.2))
overlaps_agree (Own i) h none =
    let place : 0 ≡ i - 1 = omega (arith, h.0, h.1) in
    subst (λ (k : ℕ). AgreesPlainly (without_rows answer_of_order_two.presentation) (own k)) place cube

free_group_is_valid : IsValid full_kind of_free_group
free_group_is_valid = keeps-valid full_kind of_free_group (record {
  iterated = λ two. cc;
  whole = record {
    steps = one_step;
    short = inl (lit≤ tt);
    overlaps = overlaps_agree;
    iterated = λ k d l. absurd (omega (arith, l));
    endos = λ judged. cc;
  };
  fixed = λ k d l. absurd (omega (arith, l));
  map = λ two. cc;
  answer = refl;
})

free_group_is_largest : IsLargest of_free_group.presentation 2 1 answer_of_order_two
free_group_is_largest = valid_certificates_are_largest of_free_group free_group_has_form free_group_is_valid

free_group_is_canonical : IsCanonical answer_of_order_two
free_group_is_canonical = valid_certificates_are_canonical of_free_group free_group_has_form free_group_is_valid

-- modulo 3: the third tail equals twice the second, so the second and the third make a row
line_with_a_kept_tail : line_row 3 3 (record { tail = 3; kept = (2, 2) ∷ []; sums = [] })
    ≡ record { pivot = 3; row = 0 ∷ 1 ∷ 1 ∷ []; coefficients = [] }
line_with_a_kept_tail = refl
