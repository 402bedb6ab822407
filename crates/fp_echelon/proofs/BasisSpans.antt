-- A basis at a given prime and width: it spans what its added rows span, and is spanned by them.
use Rattle.std.proofs.Common.{◌≡◌, ℕ, ◌≤◌, List, [], ◌∷◌, subst, arith}
use Rattle.fp_echelon.specs.Span.{AreRows, InSpan, EachInSpan}
use Rattle.fp_echelon.specs.Reduced.{BasisRow, rows_of, IsReduced}
use Rattle.fp_echelon.specs.Basis.{Echelon, IsBasis}
use Rattle.fp_echelon.specs.Laws.{SpanTheSame}
use Rattle.fp_echelon.proofs.SpanLaws.{EachInSpan-own}
use Rattle.fp_echelon.proofs.ReductionLaws.{AreRows-reduced}
use Rattle.fp_echelon.proofs.BasisLaws.{basis_spans}

pub record BasisAt (p q : ℕ) (added : List (List ℕ)) (bs : List BasisRow) : Type 0 where
  pub two : 2 ≤ p
  pub are : AreRows p q added
  pub reduced : IsReduced p q bs
  pub spans : SpanTheSame p q added (rows_of bs)

pub basis-at : (B : Echelon) (p q : ℕ) → B.prime ≡ p → B.width ≡ q → IsBasis B → BasisAt p q B.added B.rows
basis-at B p q e l basis =
    subst (λ (n : ℕ). BasisAt n q B.added B.rows) e
    (subst (λ (m : ℕ). BasisAt B.prime m B.added B.rows) l
    (record { two = basis.prime; are = basis.added; reduced = basis.reduced; spans = λ x. basis_spans B basis x }))

each-spanned : (p q : ℕ) (rows xs ys : List (List ℕ)) → ((x : List ℕ) → InSpan p q xs x → InSpan p q rows x) → EachInSpan p q xs ys
    → EachInSpan p q rows ys
each-spanned p q rows xs [] f h = tt
each-spanned p q rows xs (y ∷ ys) f h = (f y h.0, each-spanned p q rows xs ys f h.1)

pub basis-in_span : (p q : ℕ) (added : List (List ℕ)) (bs : List BasisRow) → BasisAt p q added bs → EachInSpan p q added (rows_of bs)
basis-in_span p q added bs at =
    let two : 2 ≤ p = at.two in
    each-spanned p q added (rows_of bs) (rows_of bs) (λ x h. (at.spans x).1 h)
    (EachInSpan-own p q (rows_of bs) (omega arith) (AreRows-reduced p q bs at.reduced))
