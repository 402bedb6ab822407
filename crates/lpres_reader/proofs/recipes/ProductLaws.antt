-- What is told of a word by its length alone: it fits, or it stops the line with its letters.
use Rattle.std.proofs.Common.{◌≡◌, ◌≤◌, ◌<◌, ℕ, ◌*◌, Bool, true, false, leb, ltb, ℤ, List, length, Result, Ok, Err, suc, refl, ap, sym}
use Rattle.std.proofs.Common.{subst, ◌∙◌, arith}
use Rattle.std.proofs.lemmas.Bool.{cond-true, cond-false, le-leb, lt-leb}
use Rattle.std.proofs.Math.Nat.{mul_comm}
use Rattle.std.specs.Str.Parse.{digits_value}
use Rattle.pq_base.specs.SignedWord.{pow}
use Rattle.lpres_reader.specs.declared.fault.Stop.{Stop}
use Rattle.lpres_reader.specs.declared.fault.Stop.TheVariants.{Fault}
use Rattle.lpres_reader.specs.declared.fault.Kind.TheVariants.{Limit}
use Rattle.lpres_reader.specs.declared.fault.Which.TheVariants.{Letters}
use Rattle.lpres_reader.specs.Words.{letter_limit, exponent_limit}
use Rattle.lpres_reader.specs.Trees.{exponent_size, exponent_value}
use Rattle.lpres_reader.specs.Recipes.{power_of}
use Rattle.lpres_reader.specs.Values.{Given, fits, told, raised, signed}
use Rattle.lpres_reader.proofs.recipes.RecipeLaws.{length-power_of}
use Rattle.lpres_reader.proofs.recipes.FactorLaws.{pow-negative}

pub fits-short : (w : List ℤ) → length w ≤ 65536 → fits w ≡ Ok w
fits-short w h = cond-true (leb (length w) letter_limit) _ _ (le-leb (length w) letter_limit h)

pub fits-long : (w : List ℤ) (n : ℕ) → n ≡ length w → 65536 < n → fits w ≡ Err (Fault (Limit Letters n))
fits-long w n is h =
    cond-false (leb (length w) letter_limit) _ _ (lt-leb (length w) letter_limit (subst (λ (m : ℕ). 65536 < m) is h))
    ∙ ap (λ (m : ℕ). Err (Fault (Limit Letters m))) (sym is)

pub too_long_given : (w : List ℤ) (n : ℕ) (s : Stop) → n ≡ length w → (s ≡ Fault (Limit Letters n)) × (65536 < n) → Given (Err s) (fits w)
too_long_given w n s is h = subst (λ (x : Stop). Given (Err x) (fits w)) (sym h.0) (fits-long w n is h.1)

pub pow-signed : (b : Bool) (u : List ℤ) (digits : List ℕ)
    → pow u (exponent_value (signed b digits)) ≡ power_of b u (exponent_size (signed b digits))
pow-signed true u digits = pow-negative u (exponent_size (signed true digits))
pow-signed false u digits = refl

size-signed : (b : Bool) (digits : List ℕ) → exponent_size (signed b digits) ≡ digits_value 10 digits
size-signed true digits = refl
size-signed false digits = refl

-- an exponent within its limit
module _ (u : List ℤ) (b : Bool) (digits : List ℕ) (n : ℕ) (size : n ≡ told (digits_value 10 digits)) (within : n ≤ 65536) where
  exact : exponent_size (signed b digits) ≡ n
  exact =
      let e : digits_value 10 digits ≡ n = omega arith in
      size-signed b digits ∙ e

  raised-fits : raised u (signed b digits) ≡ fits (power_of b u n)
  raised-fits =
      let small : exponent_size (signed b digits) ≤ exponent_limit = omega (arith, exact) in
      cond-false (ltb exponent_limit (exponent_size (signed b digits))) _ _
      (lt-leb (suc exponent_limit) (exponent_size (signed b digits)) (omega arith))
      ∙ ap fits (pow-signed b u digits ∙ ap (power_of b u) exact)

  pub raised-short : length u * n ≤ 65536 → (w : List ℤ) → w ≡ power_of b u n → raised u (signed b digits) ≡ Ok w
  raised-short h w is =
      raised-fits ∙ fits-short (power_of b u n) (omega (arith, length-power_of b u n, mul_comm n (length u))) ∙ ap Ok (sym is)

  pub raised-long : (s : Stop) → (s ≡ Fault (Limit Letters (length u * n))) × (65536 < length u * n)
      → Given (Err s) (raised u (signed b digits))
  raised-long s h =
      let is : length u * n ≡ length (power_of b u n) = sym (length-power_of b u n ∙ mul_comm n (length u)) in
      subst (λ (r : Result (List ℤ) Stop). Given (Err s) r) (sym raised-fits) (too_long_given (power_of b u n) (length u * n) s is h)
