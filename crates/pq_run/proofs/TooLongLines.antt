-- The lines that say that an input is too long, with the limits in digits.
use Rattle.std.proofs.Common.{◌≡◌, ◌++◌, ℕ, List, [], ◌∷◌, codes, decimal, refl, ap, arith}
use Rattle.std.proofs.lemmas.Fmt.{decimal_step, decimal_digit}
use Rattle.pq_run.specs.declared.input.Input.TheVariants.{Presentation, Certificate}
use Rattle.pq_run.specs.Refusals.{too_long_line}

presentation_limit : decimal 4194304 ≡ codes "4194304"
presentation_limit = rw (
  decimal_step 4194304 (omega arith) (omega arith),
  decimal_step 419430 (omega arith) (omega arith),
  decimal_step 41943 (omega arith) (omega arith),
  decimal_step 4194 (omega arith) (omega arith),
  decimal_step 419 (omega arith) (omega arith),
  decimal_step 41 (omega arith) (omega arith),
  decimal_digit 4 (omega arith),
) refl

certificate_limit : decimal 268435456 ≡ codes "268435456"
certificate_limit = rw (
  decimal_step 268435456 (omega arith) (omega arith),
  decimal_step 26843545 (omega arith) (omega arith),
  decimal_step 2684354 (omega arith) (omega arith),
  decimal_step 268435 (omega arith) (omega arith),
  decimal_step 26843 (omega arith)
      (omega arith),
  decimal_step 2684 (omega arith) (omega arith),
  decimal_step 268 (omega arith) (omega arith),
  decimal_step 26 (omega arith) (omega arith),
  decimal_digit 2 (omega arith),
) refl

pub too_long_line-Presentation : too_long_line Presentation ≡ codes "refused: input above 4194304 bytes" ++ 10 ∷ []
too_long_line-Presentation =
    ap (λ (number : List ℕ). codes "refused: input above " ++ (number ++ (codes " bytes" ++ 10 ∷ []))) presentation_limit

pub too_long_line-Certificate : too_long_line Certificate ≡ codes "refused: input above 268435456 bytes" ++ 10 ∷ []
too_long_line-Certificate =
    ap (λ (number : List ℕ). codes "refused: input above " ++ (number ++ (codes " bytes" ++ 10 ∷ []))) certificate_limit
