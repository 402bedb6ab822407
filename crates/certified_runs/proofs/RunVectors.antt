-- Certificates that are made of runs, and so are valid: that the group of order two is the largest quotient of class 1, at the prime 2,
-- of the free group of rank 1, by one run; and of the group of an involution with an endomorphism, by two.
use Rattle.std.proofs.Common.{zero, suc, ℤ, pos, List, [], ◌∷◌, refl, lit<, lit≤, arith, inl}
use Rattle.std.proofs.lemmas.List.Elements.{All-nil}
use Rattle.pq_base.specs.SignedWord.{sub}
use Rattle.pq_base.specs.LPresentation.{LPresentation, IsRelator, AreDistinct}
use Rattle.pq_base.specs.LPresentation.IsRelator.{fixed_relator, iterated_relator}
use Rattle.pq_base.specs.Presentation.IsRelatorOf.{power_relator}
use Rattle.pq_base.specs.Joined.{Joined}
use Rattle.pq_base.specs.Answer.{image_words}
use Rattle.pq_base.specs.Largest.{IsUniversal, IsLargest}
use Rattle.pq_base.proofs.words.JoinedLaws.{relator-joined}
use Rattle.pq_base.proofs.vectors.Presentations.{order_two}
use Rattle.pq_base.proofs.vectors.LargestQuotients.{x_name, no-relator}
use Rattle.pq_base.proofs.vectors.Answers.{answer_of_order_two, order_two_is_answer}
use Rattle.pq_base.proofs.vectors.LargestOfOrderTwo.{order_two_is_largest, order_two_is_universal}
use Rattle.pc_presentation.specs.Collection.{plain_push}
use Rattle.pc_presentation.specs.Parts.{trivial_answer}
use Rattle.fp_echelon.specs.Basis.{IsBasis}
use Rattle.cover_quotient.specs.Stages.{full_cover_of}
use Rattle.derivation_log.specs.HeldSteps.{HeldStep, held_basis}
use Rattle.derivation_log.specs.HeldRuns.{IsTestedSource, IsHeldRun}
use Rattle.derivation_log.specs.HeldLines.{held_lines, IsTold, AreLinesOf}
use Rattle.derivation_log.specs.Certificates.{Certificate}
use Rattle.derivation_log.specs.CertificateParts.{full_kind}
use Rattle.derivation_log.specs.Validity.{IsValid}
use Rattle.certified_runs.specs.RunLaws.{IsMadeOfRuns}
use Rattle.certified_runs.proofs.CertifiedRuns.{certificates_of_runs_are_valid}

-- the step of class 1: no row, and the one tail is kept
abbrev the_step : HeldStep
the_step = record { sources = []; prime = 2; width = 1; added = []; rows = [] }

no_rows : IsBasis (held_basis the_step)
no_rows = record { prime = lit≤ tt; added = tt; count = refl; reduced = tt; sums = tt; spanned = tt }

told : IsTold the_step
told = record { basis = no_rows; width = lit≤ tt; few = lit≤ tt; sources = refl }

lines : AreLinesOf (held_lines the_step ∷ []) (the_step ∷ [])
lines = record { are = refl; told = (told, tt) }

-- one generator
abbrev on_one : List (List ℤ) → List (List (List ℤ)) → LPresentation
on_one fixed endos = record { names = x_name ∷ []; fixed = fixed; iterated = []; endos = endos }

-- the step leads to the group of order two
held : (fixed : List (List ℤ)) (endos : List (List (List ℤ)))
    → IsHeldRun (on_one fixed endos) plain_push full_cover_of full_kind.tested 2 1 (the_step ∷ []) answer_of_order_two
held fixed endos =
    inl (
      (
        record {
          basis = no_rows;
          prime = refl;
          width = refl;
          rows = tt;
          tests = All-nil (IsTestedSource (full_kind.tested (trivial_answer 2 (x_name ∷ []))));
        },
        (λ none. cc),
        refl,
      ),
      refl,
    )

-- one run
abbrev of_free : Certificate
of_free = record {
  version = 1;
  presentation = on_one [] [];
  prime = 2;
  class = 1;
  iterated = [];
  whole = held_lines the_step ∷ [];
  answer = answer_of_order_two;
}

distinct-one : AreDistinct (x_name ∷ [])
distinct-one i j l m = absurd (omega (arith, l, m))

of_free_is_made_of_runs : IsMadeOfRuns of_free
of_free_is_made_of_runs = record {
  words = record { distinct = distinct-one; fixed_words = tt; iterated_words = tt; endo_words = tt };
  offered = inl refl;
  whole = record {
    made = record { some_class = lit≤ tt; steps = the_step ∷ []; lines = lines; held = held [] [] };
    largest = order_two_is_largest;
    rank_limit = lit≤ tt;
  };
  iterated = λ two. cc;
}

of_free_is_valid : IsValid full_kind of_free
of_free_is_valid = certificates_of_runs_are_valid of_free of_free_is_made_of_runs

-- two runs: the square of x is a fixed relator, and x goes to x
abbrev square : List ℤ
square = pos 1 ∷ pos 1 ∷ []

abbrev identity_map : List (List ℤ)
identity_map = (pos 1 ∷ []) ∷ []

abbrev of_involution : Certificate
of_involution = record {
  version = 1;
  presentation = on_one (square ∷ []) (identity_map ∷ []);
  prime = 2;
  class = 1;
  iterated = held_lines the_step ∷ [];
  whole = held_lines the_step ∷ [];
  answer = answer_of_order_two;
}

part-none : (r : List ℤ) → IsRelator (on_one [] (identity_map ∷ [])) r → ⊥
part-none r (fixed_relator i h) = omega (arith, h)
part-none r (iterated_relator s i hs h) = omega (arith, h)

square-killed : (r : List ℤ) → IsRelator (on_one (square ∷ []) (identity_map ∷ [])) r
    → Joined order_two (sub r (image_words answer_of_order_two)) []
square-killed r (fixed_relator zero h) = relator-joined order_two (power_relator 0 (lit< tt))
square-killed r (fixed_relator (suc i) h) = absurd (omega (arith, h))
square-killed r (iterated_relator s i hs h) = absurd (omega (arith, h))

-- whatever the relators, elements that obey them obey none
universal : (fixed : List (List ℤ)) → IsUniversal (on_one fixed (identity_map ∷ [])) 2 1 answer_of_order_two
universal fixed T f g class obeys =
    order_two_is_universal T f g class
    (record { count = obeys.count; elements = obeys.elements; kills = λ r h. absurd (no-relator r h) })

part_largest : IsLargest (on_one [] (identity_map ∷ [])) 2 1 answer_of_order_two
part_largest = record {
  answer = order_two_is_answer;
  prime = refl;
  names = refl;
  class_limit = lit≤ tt;
  consistent = order_two_is_largest.consistent;
  class = order_two_is_largest.class;
  kills = λ r h. absurd (part-none r h);
  generated = order_two_is_largest.generated;
  universal = universal [];
}

whole_largest : IsLargest (on_one (square ∷ []) (identity_map ∷ [])) 2 1 answer_of_order_two
whole_largest = record {
  answer = order_two_is_answer;
  prime = refl;
  names = refl;
  class_limit = lit≤ tt;
  consistent = order_two_is_largest.consistent;
  class = order_two_is_largest.class;
  kills = square-killed;
  generated = order_two_is_largest.generated;
  universal = universal (square ∷ []);
}

of_involution_is_made_of_runs : IsMadeOfRuns of_involution
of_involution_is_made_of_runs = record {
  words = record {
    distinct = distinct-one;
    fixed_words = ((lit< tt, (lit< tt, tt)), tt);
    iterated_words = tt;
    endo_words = (refl, ((lit< tt, tt), tt), tt);
  };
  offered = inl refl;
  whole = record {
    made = record { some_class = lit≤ tt; steps = the_step ∷ []; lines = lines; held = held (square ∷ []) (identity_map ∷ []) };
    largest = whole_largest;
    rank_limit = lit≤ tt;
  };
  iterated = λ two. record {
    answer = answer_of_order_two;
    run = record {
      made = record { some_class = lit≤ tt; steps = the_step ∷ []; lines = lines; held = held [] (identity_map ∷ []) };
      largest = part_largest;
      rank_limit = lit≤ tt;
    };
  };
}

of_involution_is_valid : IsValid full_kind of_involution
of_involution_is_valid = certificates_of_runs_are_valid of_involution of_involution_is_made_of_runs
