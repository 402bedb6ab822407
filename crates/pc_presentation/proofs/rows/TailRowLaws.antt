-- The rows over the tails that relations carry: one for each relation, each of residues and as wide as there are tails.
use Rattle.std.proofs.Common.{◌≡◌, ℕ, zero, suc, ◌-◌, ◌<◌, ◌≤◌, Bool, true, false, cond, eqb, Option, None, Some, List, [], get_or, length}
use Rattle.std.proofs.Common.{map, replicate, refl, ap, sym, ◌∙◌, subst, arith}
use Rattle.std.proofs.lemmas.List.{length-map, length-replicate, get_or-map}
use Rattle.pq_base.specs.Table.{AllBelow}
use Rattle.pq_base.specs.Presentation.{IsNormal}
use Rattle.pc_presentation.specs.declared.relation.Relation.{Relation}
use Rattle.pc_presentation.specs.declared.relation.Relation.TheVariants.{Power, Commutator}
use Rattle.pc_presentation.specs.Relation.{IsRelation, entry_at}
use Rattle.pc_presentation.specs.Pcp.{TailedPresentation, IsTailedPresentation, HasShape, unit_row, row_of, tail_rows, tail_of}

pub length-unit_row : (n t : ℕ) → length (unit_row n t) ≡ n
length-unit_row zero t = refl
length-unit_row (suc n) t = ap suc (length-unit_row n (t - 1))

below-cond : (p : ℕ) (b : Bool) → 2 ≤ p → cond b 1 0 < p
below-cond p true h = omega arith
below-cond p false h = omega arith

pub AllBelow-unit_row : (p n t : ℕ) → 2 ≤ p → AllBelow p (unit_row n t)
AllBelow-unit_row p zero t h = tt
AllBelow-unit_row p (suc n) t h = (below-cond p (eqb t 1) h, AllBelow-unit_row p n (t - 1) h)

AllBelow-zeros : (p n : ℕ) → 2 ≤ p → AllBelow p (replicate n 0)
AllBelow-zeros p zero h = tt
AllBelow-zeros p (suc n) h = (omega arith, AllBelow-zeros p n h)

pub row_of-normal : (p n : ℕ) (t : Option ℕ) → 2 ≤ p → IsNormal p n (row_of n t)
row_of-normal p n None h = record { count = length-replicate n 0; below = AllBelow-zeros p n h }
row_of-normal p n (Some t) h = record { count = length-unit_row n t; below = AllBelow-unit_row p n t h }

module _ (T : TailedPresentation) (is : IsTailedPresentation T) where
  pub tail_rows-shape : HasShape T.presentation.rank (tail_rows T)
  tail_rows-shape = record {
    power_count = length-map T.tail_table.powers (row_of T.tails) ∙ is.tail_shape.power_count;
    row_count = length-map T.tail_table.commutators (λ (row : List (Option ℕ)). map (row_of T.tails) row) ∙ is.tail_shape.row_count;
    row_lengths = λ j h.
        let rows : length T.tail_table.commutators ≡ T.presentation.rank = is.tail_shape.row_count in
        ap (length {A = List ℕ})
        (get_or-map (λ (row : List (Option ℕ)). map (row_of T.tails) row) T.tail_table.commutators j [] [] (omega arith))
        ∙ length-map (get_or T.tail_table.commutators j []) (row_of T.tails) ∙ is.tail_shape.row_lengths j h;
  }

  -- the row of a relation is that of its tail
  pub entry_at-tail_rows : (r : Relation) → IsRelation T.presentation.rank r → entry_at [] (tail_rows T) r ≡ row_of T.tails (tail_of T r)
  entry_at-tail_rows (Power i) h =
      let count : length T.tail_table.powers ≡ T.presentation.rank = is.tail_shape.power_count in
      get_or-map (row_of T.tails) T.tail_table.powers (i - 1) None [] (omega arith)
  entry_at-tail_rows (Commutator j i) h =
      let rows : length T.tail_table.commutators ≡ T.presentation.rank = is.tail_shape.row_count in
      let count : length (get_or T.tail_table.commutators (j - 1) []) ≡ j - 1 = is.tail_shape.row_lengths (j - 1) (omega arith) in
      ap (λ (row : List (List ℕ)). get_or row (i - 1) [])
      (get_or-map (λ (row : List (Option ℕ)). map (row_of T.tails) row) T.tail_table.commutators (j - 1) [] [] (omega arith))
      ∙ get_or-map (row_of T.tails) (get_or T.tail_table.commutators (j - 1) []) (i - 1) None [] (omega arith)

  pub tail_rows-normal : 2 ≤ T.presentation.prime → (r : Relation) → IsRelation T.presentation.rank r
      → IsNormal T.presentation.prime T.tails (entry_at [] (tail_rows T) r)
  tail_rows-normal p r h =
      subst (IsNormal T.presentation.prime T.tails) (sym (entry_at-tail_rows r h))
      (row_of-normal T.presentation.prime T.tails (tail_of T r) p)
