-- Values in a group of the words of rows, where each relator of the flat reading has value one: they multiply as the rows add
-- up. So where the words of some rows have value one, so have those of their span.
use Rattle.std.proofs.Common.{ℕ, zero, suc, ◌<◌, ℤ, pos, negsuc, List, [], ◌∷◌, get_or, ap, sym, subst, arith}
use Rattle.std.specs.List.{All}
use Rattle.std.proofs.lemmas.List.Elements.{All-head, All-tail}
use Rattle.pq_base.specs.Presentation.{IsRelatorOf, word_from}
use Rattle.pq_base.specs.Joined.{Joined}
use Rattle.pq_base.proofs.words.WordLaws.{word_from-zeros}
use Rattle.pq_base.proofs.groups.Groups.{Group, element_in, value_in, power_in, same_from_equal, power_in-same, value_in-append}
use Rattle.pq_base.proofs.groups.Groups.{value_in-copies, value_in-joined}
use Rattle.fp_rows.specs.Rows.{IsRow, add_rows, scale_row}
use Rattle.fp_rows.proofs.RowLaws.{IsRow-scale_row}
use Rattle.fp_rows.specs.Differences.{difference}
use Rattle.fp_echelon.specs.Span.{combine, AreRows, InSpan}
use Rattle.fp_echelon.proofs.SpanLaws.{IsRow-combine}
use Rattle.fp_rows.proofs.DifferenceLaws.{IsRow-difference, difference-add_rows}
use Rattle.pc_presentation.specs.Rowed.{RowedPresentation, IsRowed, flat}
use Rattle.cover_quotient.proofs.carried_rows.RowWords.{row_words-sum, row_words-multiple}

module _ (G : Group) where
  -- powers of one
  pub power_in-of_one : (n : ℕ) → G.same (power_in G G.one n) G.one
  power_in-of_one zero = G.reflexive G.one
  power_in-of_one (suc n) = G.transitive (G.one_left (power_in G G.one n)) (power_in-of_one n)

  -- lists that agree at every place
  element_in-everywhere : (f g : List G.carrier) → ((i : ℕ) → G.same (get_or f i G.one) (get_or g i G.one))
      → (k : ℤ) → G.same (element_in G f k) (element_in G g k)
  element_in-everywhere f g e (pos zero) = G.reflexive G.one
  element_in-everywhere f g e (pos (suc i)) = e i
  element_in-everywhere f g e (negsuc i) = G.inverse-same (e i)

  pub value_in-everywhere : (f g : List G.carrier) → ((i : ℕ) → G.same (get_or f i G.one) (get_or g i G.one))
      → (w : List ℤ) → G.same (value_in G f w) (value_in G g w)
  value_in-everywhere f g e [] = G.reflexive G.one
  value_in-everywhere f g e (k ∷ w) = G.times-same (element_in-everywhere f g e k) (value_in-everywhere f g e w)

module _ (G : Group) (Z : RowedPresentation) (rowed : IsRowed Z) (some : 1 < Z.base.prime) (h : List G.carrier)
    (kills : (r : List ℤ) → IsRelatorOf (flat Z) r → G.same (value_in G h r) G.one) where
  abbrev row_value : List ℕ → G.carrier
  row_value x = value_in G h (word_from Z.base.rank x)

  joined-value : {u v : List ℤ} → Joined (flat Z) u v → G.same (value_in G h u) (value_in G h v)
  joined-value c = value_in-joined G (flat Z) h kills c

  pub row_value-sum : (x y : List ℕ) → IsRow Z.base.prime Z.width x → IsRow Z.base.prime Z.width y
      → G.same (value_in G h (word_from Z.base.rank (add_rows Z.base.prime x y)))
      (G.times (value_in G h (word_from Z.base.rank x)) (value_in G h (word_from Z.base.rank y)))
  row_value-sum x y row row' =
      G.transitive (G.symmetric (joined-value (row_words-sum Z rowed (omega arith) x y row row')))
      (value_in-append G h (word_from Z.base.rank x) (word_from Z.base.rank y))

  row_value-multiple : (k : ℕ) (x : List ℕ) → IsRow Z.base.prime Z.width x
      → G.same (row_value (scale_row Z.base.prime k x)) (power_in G (row_value x) k)
  row_value-multiple k x row =
      G.transitive (G.symmetric (joined-value (row_words-multiple Z rowed (omega arith) k x row)))
      (value_in-copies G h (word_from Z.base.rank x) k)

  -- combinations of rows of value one
  combination-one : (cs : List ℕ) (rows : List (List ℕ)) → AreRows Z.base.prime Z.width rows
      → All (λ (r : List ℕ). G.same (value_in G h (word_from Z.base.rank r)) G.one) rows
      → G.same (row_value (combine Z.base.prime Z.width cs rows)) G.one
  combination-one [] rows are all = same_from_equal G (ap (value_in G h) (word_from-zeros Z.base.rank Z.width))
  combination-one (c ∷ cs) [] are all = same_from_equal G (ap (value_in G h) (word_from-zeros Z.base.rank Z.width))
  combination-one (c ∷ cs) (r ∷ rows) are all =
      let p : ℕ = Z.base.prime in
      let positive : 0 < Z.base.prime = omega arith in
      let first : G.same (row_value r) G.one =
      All-head (λ (x : List ℕ). G.same (value_in G h (word_from Z.base.rank x)) G.one) r rows all in
      let multiple : G.same (row_value (scale_row Z.base.prime c r)) G.one =
      G.transitive (row_value-multiple c r are.0) (G.transitive (power_in-same G c first) (power_in-of_one G c)) in
      G.transitive
      (row_value-sum (scale_row p c r) (combine p Z.width cs rows) (IsRow-scale_row p Z.width c r positive are.0)
      (IsRow-combine p Z.width cs rows positive are.1))
      (G.transitive
      (G.times-same multiple
      (combination-one cs rows are.1 (All-tail (λ (x : List ℕ). G.same (value_in G h (word_from Z.base.rank x)) G.one) r rows all)))
      (G.one_left G.one))

  pub span-one : (rows : List (List ℕ)) → AreRows Z.base.prime Z.width rows
      → All (λ (r : List ℕ). G.same (value_in G h (word_from Z.base.rank r)) G.one) rows
      → (x : List ℕ) → InSpan Z.base.prime Z.width rows x → G.same (value_in G h (word_from Z.base.rank x)) G.one
  span-one rows are all x s =
      subst (λ (l : List ℕ). G.same (value_in G h (word_from Z.base.rank l)) G.one) s.sum (combination-one s.coefficients rows are all)

  -- rows whose difference has value one
  pub difference-value : (x y : List ℕ) → IsRow Z.base.prime Z.width x → IsRow Z.base.prime Z.width y
      → G.same (value_in G h (word_from Z.base.rank (difference Z.base.prime x y))) G.one
      → G.same (value_in G h (word_from Z.base.rank x)) (value_in G h (word_from Z.base.rank y))
  difference-value x y row row' e =
      let d : List ℕ = difference Z.base.prime x y in
      G.transitive (same_from_equal G (ap row_value (sym (difference-add_rows Z.base.prime Z.width some x y row row'))))
      (G.transitive (row_value-sum d y (IsRow-difference Z.base.prime Z.width some x y row row') row')
      (G.transitive (G.times-same e (G.reflexive (row_value y))) (G.one_left (row_value y))))
