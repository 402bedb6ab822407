-- Rows in a span, place by place, and spans of more rows.
use Rattle.std.proofs.Common.{ℕ, zero, suc, ◌<◌, List, [], ◌∷◌, ◌++◌, length, get_or, subst, arith, length-append}
use Rattle.std.proofs.lemmas.List.{get_or_append_left}
use Rattle.fp_echelon.specs.Span.{AreRows, InSpan, EachInSpan}
use Rattle.fp_echelon.proofs.SpanLaws.{EachInSpan-own, InSpan-trans}

module _ (p width : ℕ) (rows : List (List ℕ)) where
  pub EachInSpan-at : (xs : List (List ℕ)) (i : ℕ) (d : List ℕ) → i < length xs → EachInSpan p width rows xs
      → InSpan p width rows (get_or xs i d)
  EachInSpan-at [] i d h each = absurd (omega arith)
  EachInSpan-at (x ∷ xs) zero d h each = each.0
  EachInSpan-at (x ∷ xs) (suc i) d h each = EachInSpan-at xs i d (omega arith) each.1

  pub EachInSpan-by_place : (xs : List (List ℕ)) → ((i : ℕ) → i < length xs → InSpan p width rows (get_or xs i []))
      → EachInSpan p width rows xs
  EachInSpan-by_place [] f = tt
  EachInSpan-by_place (x ∷ xs) f = (f 0 (omega arith), EachInSpan-by_place xs (λ i h. f (suc i) (omega arith)))

  pub EachInSpan-append : (xs ys : List (List ℕ)) → EachInSpan p width rows xs → EachInSpan p width rows ys
      → EachInSpan p width rows (xs ++ ys)
  EachInSpan-append [] ys each each' = each'
  EachInSpan-append (x ∷ xs) ys each each' = (each.0, EachInSpan-append xs ys each.1 each')

pub AreRows-front : (p width : ℕ) (rows more : List (List ℕ)) → AreRows p width (rows ++ more) → AreRows p width rows
AreRows-front p width [] more are = tt
AreRows-front p width (r ∷ rows) more are = (are.0, AreRows-front p width rows more are.1)

module _ (p width : ℕ) (some : 1 < p) (rows more : List (List ℕ)) (are : AreRows p width (rows ++ more)) where
  EachInSpan-longer : EachInSpan p width (rows ++ more) rows
  EachInSpan-longer =
      EachInSpan-by_place p width (rows ++ more) rows
      (λ i h.
      subst (λ (x : List ℕ). InSpan p width (rows ++ more) x) (get_or_append_left rows more [] i h)
      (EachInSpan-at p width (rows ++ more) (rows ++ more) i [] (omega (arith, length-append rows more))
      (EachInSpan-own p width (rows ++ more) some are)))

  -- more rows span more
  pub InSpan-longer : (x : List ℕ) → InSpan p width rows x → InSpan p width (rows ++ more) x
  InSpan-longer x s = InSpan-trans p width (rows ++ more) rows x (omega arith) are EachInSpan-longer s
