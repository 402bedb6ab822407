-- A basis is copied row by row: the copy spans the rows so far, and each row that was added to it is one of them.
use Rattle.std.proofs.Common.{◌≡◌, ℕ, ◌+◌, ◌<◌, ◌≤◌, suc, List, [], ◌∷◌, ◌++◌, length, get_or, take, ap, sym, ◌∙◌, subst, arith}
use Rattle.std.specs.List.{All, Contains}
use Rattle.std.proofs.Math.Seq.{take-suc}
use Rattle.std.proofs.lemmas.List.Elements.{All-push, Contains-get_or}
use Rattle.fp_rows.specs.Rows.{IsRow}
use Rattle.fp_echelon.specs.Span.{AreRows, InSpan, EachInSpan}
use Rattle.fp_echelon.specs.Basis.{Echelon, IsBasis}
use Rattle.fp_echelon.proofs.SpanLaws.{AreRows-entry, InSpan-last, EachInSpan-front, EachInSpan-push, EachInSpan-trans, AreRows-push}

-- the first n rows were copied, and there is room for the others
pub record IsCopyOf (B : Echelon) (n : ℕ) (K : Echelon) : Type 0 where
  pub basis : IsBasis K
  pub prime : K.prime ≡ B.prime
  pub width : K.width ≡ B.width
  pub room : B.width ≤ K.spare + n
  pub members : All (Contains B.added) K.added
  pub span : EachInSpan B.prime B.width K.added (take n B.added)

module _ (B K : Echelon) (n : ℕ) (copy : IsCopyOf B n K) (basis : IsBasis B) (l : n < length B.added) where
  abbrev row : List ℕ
  row = get_or B.added n []

  -- a row that was added
  pub copy-added : (N : Echelon) → IsBasis N → N.prime ≡ K.prime → N.width ≡ K.width → N.spare + 1 ≡ K.spare → N.added ≡ K.added ++ row ∷ []
      → IsCopyOf B (n + 1) N
  copy-added N is prime width spare added =
      let p : ℕ = B.prime in
      let q : ℕ = B.width in
      let two = basis.prime in
      let room = copy.room in
      let place : suc n ≡ n + 1 = omega arith in
      let here : IsRow p q row = AreRows-entry p q B.added n [] l basis.added in
      let old : AreRows p q K.added =
      subst (λ (m : ℕ). AreRows m q K.added) copy.prime (subst (λ (m : ℕ). AreRows K.prime m K.added) copy.width copy.basis.added) in
      let before : EachInSpan p q (K.added ++ row ∷ []) (take n B.added) =
      EachInSpan-trans p q (K.added ++ row ∷ []) K.added (take n B.added) (omega arith) (AreRows-push p q K.added row old here)
      (EachInSpan-front p q K.added row (omega arith) old here) copy.span in
      let all : EachInSpan p q (K.added ++ row ∷ []) (take n B.added ++ row ∷ []) =
      EachInSpan-push p q (K.added ++ row ∷ []) (take n B.added) row before (InSpan-last p q K.added row (omega arith) old here) in
      record {
        basis = is;
        prime = prime ∙ copy.prime;
        width = width ∙ copy.width;
        room = omega arith;
        members =
            subst (All (Contains B.added)) (sym added)
            (All-push (Contains B.added) K.added row copy.members (Contains-get_or B.added n [] l));
        span =
            subst (λ (rows : List (List ℕ)). EachInSpan p q rows (take (n + 1) B.added)) (sym added)
            (subst (EachInSpan p q (K.added ++ row ∷ [])) (sym (take-suc B.added n [] l) ∙ ap (λ (m : ℕ). take m B.added) place) all);
      }

  -- a row that was in the span
  pub copy-left_out : (N : Echelon) → N ≡ K → InSpan K.prime K.width K.added row → IsCopyOf B (n + 1) N
  copy-left_out N same within =
      let p : ℕ = B.prime in
      let q : ℕ = B.width in
      let room = copy.room in
      let place : suc n ≡ n + 1 = omega arith in
      let here : InSpan p q K.added row =
      subst (λ (m : ℕ). InSpan m q K.added row) copy.prime (subst (λ (m : ℕ). InSpan K.prime m K.added row) copy.width within) in
      subst (IsCopyOf B (n + 1)) (sym same)
      (record {
        basis = copy.basis;
        prime = copy.prime;
        width = copy.width;
        room = omega arith;
        members = copy.members;
        span =
            subst (EachInSpan p q K.added) (sym (take-suc B.added n [] l) ∙ ap (λ (m : ℕ). take m B.added) place)
            (EachInSpan-push p q K.added (take n B.added) row copy.span here);
      })
