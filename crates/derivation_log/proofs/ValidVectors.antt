-- A certificate that is valid: that the group of order two is the largest quotient of class 3 of the group of one involution. Its
-- second step keeps no tail, so there is no third. Behind it changes after which it isn't valid.
use Rattle.std.proofs.Common.{◌≡◌, ◌≢◌, ◌<◌, ◌≤◌, ◌-◌, ℕ, zero, suc, pos, List, [], ◌∷◌, ◌++◌, get_or, length, refl, ap, sym, subst, arith}
use Rattle.std.proofs.Common.{lit<, lit≤, inl, inr}
use Rattle.std.specs.List.{All}
use Rattle.std.proofs.lemmas.List.Elements.{All-nil, All-cons, All-append}
use Rattle.pq_base.specs.Limits.{max_rank}
use Rattle.pq_base.specs.Prime.{IsOffered}
use Rattle.pq_base.specs.Answer.{Answer, Definition as Source, IsAnswer}
use Rattle.pq_base.specs.Answer.Definition.{image, power}
use Rattle.pq_base.proofs.vectors.Tests.{unequal}
use Rattle.pq_base.proofs.vectors.LargestQuotients.{x_name, trivial_answer}
use Rattle.pq_base.proofs.vectors.Answers.{answer_of_order_two, order_two_is_answer}
use Rattle.pc_presentation.specs.Relation.{IsTail}
use Rattle.pc_presentation.specs.Pcp.{IsTailedPresentation}
use Rattle.pc_presentation.specs.Rowed.{RowedPresentation, without_rows}
use Rattle.pc_presentation.specs.Collection.{IsState, identity, plain_push_from, plain_push}
use Rattle.pc_presentation.specs.Overlaps.{AgreesPlainly}
use Rattle.pc_presentation.specs.Overlaps.Overlap.{own}
use Rattle.pc_presentation.specs.declared.overlap.Overlap.TheVariants.{Triple, Left, Right, Own}
use Rattle.pc_presentation.specs.Arithmetic.{AreImages, product_by}
use Rattle.pc_presentation.specs.Tailed.{Element, IsElement, rowed_presentation}
use Rattle.pc_presentation.proofs.presentations.RelationTables.{per_relation-shape}
use Rattle.p_cover.specs.Sources.{place_in, relation_source}
use Rattle.p_cover.specs.Covers.{CoverOf, covering, cover_presentation}
use Rattle.p_cover.specs.Images.{ImagesOf, AreLifted}
use Rattle.p_cover.specs.ImageValues.{IsRowOfWord}
use Rattle.p_cover.proofs.CoverTails.{tail_of-covering}
use Rattle.p_cover.proofs.PlaceLaws.{IsTail-place_in}
use Rattle.cover_quotient.specs.Stages.{full_cover_of}
use Rattle.derivation_log.specs.declared.source.Run.TheVariants.{Whole}
use Rattle.derivation_log.specs.declared.source.RowSource.{RowSource}
use Rattle.derivation_log.specs.declared.source.RowSource.TheVariants.{Fixed}
use Rattle.derivation_log.specs.declared.part.Part.{Part}
use Rattle.derivation_log.specs.declared.part.Part.TheVariants as part
use Rattle.derivation_log.specs.RowSources.{IsRowOf}
use Rattle.derivation_log.specs.HeldRuns.{IsTestedSource}
use Rattle.derivation_log.specs.Certificates.{TailLine, StepLines, Certificate}
use Rattle.derivation_log.specs.CertificateRuns.{cover_at, kept_at}
use Rattle.derivation_log.specs.PlainValues.{IsCarriedToIdentity, images_of, bare_state}
use Rattle.derivation_log.specs.CertificateParts.{full_kind, IsNotExtra, HasPlainRow, HavePlainRows, IsSumOfRows, AreSumsOfRows, GiveAnswer}
use Rattle.derivation_log.specs.CertificateParts.{OverlapsAgree, AreCarriedToIdentity}
use Rattle.derivation_log.specs.Validity.{Trial, Keeps, Passes, trials, IsValid, FirstPart}

abbrev of_involution : Certificate
of_involution = record {
  version = 1;
  presentation = record { names = x_name ∷ []; fixed = (pos 1 ∷ pos 1 ∷ []) ∷ []; iterated = []; endos = [] };
  prime = 2;
  class = 3;
  iterated = [];
  whole =
      record { sources = []; tails = [] }
      ∷ record { sources = Fixed 1 ∷ []; tails = record { tail = 1; kept = []; sums = (1, 1) ∷ [] } ∷ [] } ∷ [];
  answer = answer_of_order_two;
}

-- the certificate with any answer
abbrev with_answer : Answer → Certificate
with_answer A = record of_involution { answer = A }

-- the cover of the first step: the image of x has the one tail
abbrev first_cover : CoverOf
first_cover = cover_at full_cover_of of_involution Whole 1

abbrev first_step : StepLines
first_step = record { sources = []; tails = [] }

abbrev the_line : TailLine
the_line = record { tail = 1; kept = []; sums = (1, 1) ∷ [] }

abbrev second_step : StepLines
second_step = record { sources = Fixed 1 ∷ []; tails = the_line ∷ [] }

-- the cover of the second step: a1^2 has the one tail
abbrev second_cover : CoverOf
second_cover = full_cover_of answer_of_order_two

is_second_cover : cover_at full_cover_of of_involution Whole 2 ≡ second_cover
is_second_cover = refl

one_tail : second_cover.sources ≡ power 1 ∷ []
one_tail = refl

-- a cover of an answer within the limits is a presentation with tails
covering-tailed : (A : Answer) (ds : List Source) → IsAnswer A → IsOffered A.presentation.prime → A.presentation.rank ≤ max_rank
    → IsTailedPresentation (covering A ds)
covering-tailed A ds answer offered limit = record {
  prime = offered;
  presentation = answer.presentation;
  rank_limit = limit;
  weight_count = answer.weight_count;
  tail_shape = per_relation-shape A.presentation.rank (λ r. place_in ds (relation_source r));
  tails = λ r h. subst (IsTail (length ds)) (sym (tail_of-covering A ds r h)) (IsTail-place_in ds (relation_source r));
}

tailed : IsTailedPresentation (cover_presentation second_cover)
tailed = covering-tailed answer_of_order_two (power 1 ∷ []) order_two_is_answer (inl refl) (omega arith)

-- a1 with a row of one tail
abbrev element : ℕ → ℕ → Element
element e t = record { prime = 2; state = record { exponents = e ∷ []; row = t ∷ [] } }

state-is : (e t : ℕ) → e < 2 → t < 2 → IsState (rowed_presentation (cover_presentation second_cover)) 1 (element e t).state
state-is e t l m = record { exponents = record { count = refl; below = (l, tt) }; row = record { count = refl; below = (m, tt) } }

element-is : (e t : ℕ) → e < 2 → t < 2 → IsElement (cover_presentation second_cover) (element e t)
element-is e t l m = record { presentation = tailed; prime = refl; state = state-is e t l m }

-- the image of x is a1, and its inverse has the tail
abbrev images : ImagesOf
images = record { elements = element 1 0 ∷ []; inverses = element 1 1 ∷ [] }

abbrev in_cover : RowedPresentation
in_cover = rowed_presentation (cover_presentation second_cover)

image_at : (e t : ℕ) → e < 2 → t < 2 → (i : ℕ) → i < 1 → IsState in_cover 1 (get_or ((element e t).state ∷ []) i (identity in_cover 1))
image_at e t l m zero h = state-is e t l m
image_at e t l m (suc i) h = absurd (omega (arith, h))

inverse_at : (i : ℕ) → i < 1
    → product_by in_cover (plain_push in_cover) (get_or ((element 1 0).state ∷ []) i (identity in_cover 1))
    (get_or ((element 1 1).state ∷ []) i (identity in_cover 1)) ≡ identity in_cover 1
unfolding plain_push_from
inverse_at zero h = refl
inverse_at (suc i) h = absurd (omega (arith, h))

lifted : AreLifted second_cover (plain_push in_cover) images
lifted = record {
  elements = refl;
  images = record {
    count = refl;
    images = All-cons (IsElement (cover_presentation second_cover)) (element 1 0) [] (element-is 1 0 (lit< tt) (lit< tt))
        (All-nil (IsElement (cover_presentation second_cover)));
    inverses = All-cons (IsElement (cover_presentation second_cover)) (element 1 1) [] (element-is 1 1 (lit< tt) (lit< tt))
        (All-nil (IsElement (cover_presentation second_cover)));
    states = record {
      states = image_at 1 0 (lit< tt) (lit< tt);
      inverse_states = image_at 1 1 (lit< tt) (lit< tt);
      inverses = inverse_at;
    };
  };
}

-- the square of x has the tail
square_row : IsRowOfWord second_cover (plain_push in_cover) (pos 1 ∷ pos 1 ∷ []) (1 ∷ [])
unfolding plain_push_from
square_row = record { images = images; lifted = lifted; zero = refl; row = refl }

fixed_row : IsRowOf of_involution.presentation second_cover (plain_push in_cover) (Fixed 1) (1 ∷ [])
fixed_row = record { numbers = (lit≤ tt, lit≤ tt); row = square_row }

-- the first step keeps the tail of the image, and the second keeps none
first_not_extra : (A : Answer) → IsNotExtra full_cover_of (with_answer A) Whole 1
first_not_extra A = record { class = lit≤ tt; earlier = λ j l m. absurd (omega (arith, l, m)) }

second_not_extra : (A : Answer) → IsNotExtra full_cover_of (with_answer A) Whole 2
second_not_extra A = record { class = lit≤ tt; earlier = first_keeps } where
  first_keeps : (j : ℕ) → 1 ≤ j → j < 2 → kept_at full_cover_of (with_answer A) Whole j ≢ []
  first_keeps zero l m = absurd (omega (arith, l))
  first_keeps (suc zero) l m = λ e. cc
  first_keeps (suc (suc j)) l m = absurd (omega (arith, m))

-- the cube of a1 has one value
cube : AgreesPlainly (without_rows answer_of_order_two.presentation) (own 0)
unfolding plain_push_from
cube = refl

overlaps_agree : OverlapsAgree full_kind answer_of_order_two
overlaps_agree (Triple k j i) h none = absurd (omega (arith, h.0, h.1, h.2, h.3))
overlaps_agree (Left j i) h none = absurd (omega (arith, h.0, h.1, h.2))
overlaps_agree (Right j i) h none = absurd (omega (arith, h.0, h.1, h.2))
overlaps_agree (Own i) h none =
    let place : 0 ≡ i - 1 = omega (arith, h.0, h.1) in
    subst (λ (k : ℕ). AgreesPlainly (without_rows answer_of_order_two.presentation) (own k)) place cube

bare_at : (i : ℕ) → i < 1
    → IsState (without_rows answer_of_order_two.presentation) 1
    (get_or (bare_state (1 ∷ []) ∷ []) i (identity (without_rows answer_of_order_two.presentation) 1))
bare_at zero h = record { exponents = record { count = refl; below = (lit< tt, tt) }; row = record { count = refl; below = tt } }
bare_at (suc i) h = absurd (omega (arith, h))

bare_inverse_at : (i : ℕ) → i < 1
    → product_by (without_rows answer_of_order_two.presentation) (plain_push (without_rows answer_of_order_two.presentation))
    (get_or (bare_state (1 ∷ []) ∷ []) i (identity (without_rows answer_of_order_two.presentation) 1))
    (get_or (bare_state (1 ∷ []) ∷ []) i (identity (without_rows answer_of_order_two.presentation) 1))
    ≡ identity (without_rows answer_of_order_two.presentation) 1
unfolding plain_push_from
bare_inverse_at zero h = refl
bare_inverse_at (suc i) h = absurd (omega (arith, h))

bare_images : AreImages (without_rows answer_of_order_two.presentation) (plain_push (without_rows answer_of_order_two.presentation))
    (images_of answer_of_order_two) (bare_state (1 ∷ []) ∷ [])
bare_images = record { states = bare_at; inverse_states = bare_at; inverses = bare_inverse_at }

-- x is its own inverse, and its square is the identity
square_of_image : IsCarriedToIdentity answer_of_order_two (pos 1 ∷ pos 1 ∷ [])
unfolding plain_push_from
square_of_image = record { inverses = bare_state (1 ∷ []) ∷ []; images = bare_images; value = refl }

tested_at : (k : ℕ) (d : RowSource) → k < 1 → IsTestedSource (full_kind.tested answer_of_order_two) (get_or (Fixed 1 ∷ []) k d)
tested_at zero d l = tt
tested_at (suc k) d l = absurd (omega (arith, l))

line_at : (k : ℕ) (d : TailLine) → k < 1 → IsSumOfRows second_cover ((1 ∷ []) ∷ []) (get_or (the_line ∷ []) k d)
line_at zero d l = record { in_range = lit≤ tt; sum = refl }
line_at (suc k) d l = absurd (omega (arith, l))

nothing : {X : Type 0} (P : X → Type 0) → All P []
nothing P = All-nil P

first_rank : GiveAnswer full_kind first_cover first_step
first_rank = record {
  limit = lit≤ tt;
  may_keep = All-cons (full_kind.may_keep first_cover.answer) (image 1) [] tt (nothing (full_kind.may_keep first_cover.answer));
}

-- the trial of a part of the run
abbrev trial : ℕ → Part → Trial
trial k p = record { run = Whole; class = k; part = p }

first_rows : HavePlainRows full_kind of_involution.presentation first_cover first_step
first_rows = record { rows = λ k d l. absurd (omega (arith, l)); tested = λ k d l. absurd (omega (arith, l)) }

first_sums : AreSumsOfRows of_involution.presentation first_cover first_step
first_sums = record { rows = []; are = tt; lines = λ k d l. absurd (omega (arith, l)) }

second_rows : HavePlainRows full_kind of_involution.presentation second_cover second_step
second_rows = record {
  rows = All-cons (HasPlainRow of_involution.presentation second_cover) (Fixed 1) [] (record { row = 1 ∷ []; is = fixed_row })
      (nothing (HasPlainRow of_involution.presentation second_cover));
  tested = tested_at;
}

second_sums : AreSumsOfRows of_involution.presentation second_cover second_step
second_sums = record { rows = (1 ∷ []) ∷ []; are = (fixed_row, tt); lines = line_at }

second_rank : GiveAnswer full_kind second_cover second_step
second_rank = record { limit = lit≤ tt; may_keep = λ k d l. absurd (omega (arith, l)) }

fixed_trivial : AreCarriedToIdentity answer_of_order_two ((pos 1 ∷ pos 1 ∷ []) ∷ [])
fixed_trivial =
    All-cons (IsCarriedToIdentity answer_of_order_two) (pos 1 ∷ pos 1 ∷ []) [] square_of_image
    (nothing (IsCarriedToIdentity answer_of_order_two))

-- the parts that are judged but for the last
abbrev twelve : List Trial
twelve =
    trial 1 part.Extra ∷ trial 1 part.Row ∷ trial 1 part.Sum ∷ trial 1 part.Rank
    ∷ trial 2 part.Extra ∷ trial 2 part.Row ∷ trial 2 part.Sum ∷ trial 2 part.Rank
    ∷ trial 3 part.Short ∷ trial 3 part.Overlap ∷ trial 3 part.Iterated ∷ trial 3 part.Fixed ∷ []

all_trials : trials of_involution ≡ twelve ++ trial 3 part.Answer ∷ []
all_trials = refl

-- they pass
twelve_pass : (A : Answer) → All (Passes full_kind (with_answer A)) twelve
twelve_pass A zero d l = first_not_extra A
twelve_pass A (suc zero) d l = first_rows
twelve_pass A (suc (suc zero)) d l = first_sums
twelve_pass A (suc (suc (suc zero))) d l = first_rank
twelve_pass A (suc (suc (suc (suc zero)))) d l = second_not_extra A
twelve_pass A (suc (suc (suc (suc (suc zero))))) d l = second_rows
twelve_pass A (suc (suc (suc (suc (suc (suc zero)))))) d l = second_sums
twelve_pass A (suc (suc (suc (suc (suc (suc (suc zero))))))) d l = second_rank
twelve_pass A (suc (suc (suc (suc (suc (suc (suc (suc zero)))))))) d l = inr (lit≤ tt, refl)
twelve_pass A (suc (suc (suc (suc (suc (suc (suc (suc (suc zero))))))))) d l = overlaps_agree
twelve_pass A (suc (suc (suc (suc (suc (suc (suc (suc (suc (suc zero)))))))))) d l = λ k e m. absurd (omega (arith, m))
twelve_pass A (suc (suc (suc (suc (suc (suc (suc (suc (suc (suc (suc zero))))))))))) d l = fixed_trivial
twelve_pass A (suc (suc (suc (suc (suc (suc (suc (suc (suc (suc (suc (suc k)))))))))))) d l = absurd (omega (arith, l))

-- so the certificate is valid
pub involution_is_valid : IsValid full_kind of_involution
involution_is_valid =
    All-append (Passes full_kind of_involution) twelve (trial 3 part.Answer ∷ []) (twelve_pass answer_of_order_two)
    (All-cons (Passes full_kind of_involution) (trial 3 part.Answer) [] refl (nothing (Passes full_kind of_involution)))

-- with another answer it is the answer that fails
pub other_answer_fails : FirstPart full_kind (with_answer trivial_answer) Whole 3 part.Answer
other_answer_fails = record {
  earlier = twelve;
  later = [];
  order = refl;
  passed = twelve_pass trivial_answer;
  fails = λ e. unequal 0 1 refl (ap (λ (A : Answer). A.presentation.rank) e);
}

-- where class 1 is asked for, the second step is one too many
second_step_is_extra : ¬ Keeps full_kind (record of_involution { class = 1 }) Whole 2 part.Extra
second_step_is_extra h = let l : 2 ≤ 1 = h.class in omega arith

some-not_none : {e : ℕ} {es : List ℕ} → e ∷ es ≡ [] → ⊥
some-not_none h = cc

-- without the second step the run ends early
one_step_is_short : ¬ Keeps full_kind (record of_involution { whole = record { sources = []; tails = [] } ∷ [] }) Whole 3 part.Short
one_step_is_short (inl l) = omega (arith, l)
one_step_is_short (inr h) = some-not_none h.1

-- a row of zeros shows nothing
zero_row_is_no_sum : ¬ IsSumOfRows second_cover ((0 ∷ []) ∷ []) the_line
zero_row_is_no_sum h = unequal 0 1 refl (ap (λ (x : List ℕ). get_or x 0 0) h.sum)
