-- The parts of a certificate are judged in order, so the first that fails is one, and there is none where all pass.
use Rattle.std.proofs.Common.{◌≡◌, List, [], ◌∷◌, ◌++◌, get_or, drop, sym, ◌∙◌, ap, subst, arith}
use Rattle.std.specs.List.{All}
use Rattle.pc_presentation.proofs.presentations.WordTests.{All-tail}
use Rattle.derivation_log.specs.CertificateParts.{CertificateKind, full_kind}
use Rattle.derivation_log.specs.Validity.{Trial, Passes}
use Rattle.derivation_log.specs.CertificateLaws.{ValidCertificatesHaveNoFirstPart, FirstPartsAreUnique}

module _ {X : Type 0} (P : X → Type 0) where
  -- where all hold, the one behind some does
  holds-behind : (earlier later : List X) (x : X) → All P (earlier ++ x ∷ later) → P x
  holds-behind [] later x all = all 0 x (omega arith)
  holds-behind (y ∷ earlier) later x all = holds-behind earlier later x (All-tail P y (earlier ++ x ∷ later) all)

  -- the first of a list at which it doesn't hold is one
  first-one : (before earlier later last : List X) (x y : X) → before ++ x ∷ later ≡ earlier ++ y ∷ last → All P before → All P earlier
      → ¬ P x → ¬ P y → x ≡ y
  first-one [] [] later last x y e all others fails fails_too = ap (λ (zs : List X). get_or zs 0 x) e
  first-one [] (z ∷ earlier) later last x y e all others fails fails_too =
      absurd (fails (subst P (sym (ap (λ (zs : List X). get_or zs 0 x) e)) (others 0 x (omega arith))))
  first-one (z ∷ before) [] later last x y e all others fails fails_too =
      absurd (fails_too (subst P (ap (λ (zs : List X). get_or zs 0 y) e) (all 0 y (omega arith))))
  first-one (z ∷ before) (w ∷ earlier) later last x y e all others fails fails_too =
      first-one before earlier later last x y (ap (drop 1) e) (All-tail P z before all) (All-tail P w earlier others) fails fails_too

module _ (kind : CertificateKind) where
  pub no_first_part : ValidCertificatesHaveNoFirstPart kind
  no_first_part c run k p valid first =
      let t : Trial = record { run = run; class = k; part = p } in
      first.fails (holds-behind (Passes kind c) first.earlier first.later t (subst (All (Passes kind c)) first.order valid))

  pub one_first_part : FirstPartsAreUnique kind
  one_first_part c s t first second =
      first-one (Passes kind c) first.earlier second.earlier first.later second.later s t (sym first.order ∙ second.order)
      first.passed second.passed first.fails second.fails

pub valid_certificates_have_no_first_part : ValidCertificatesHaveNoFirstPart full_kind
valid_certificates_have_no_first_part = no_first_part full_kind

pub first_parts_are_unique : FirstPartsAreUnique full_kind
first_parts_are_unique = one_first_part full_kind
