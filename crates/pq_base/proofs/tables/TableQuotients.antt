-- Where the relators have values in a level of the series of a group table, joined words have values that differ by an
-- element of that level.
use Rattle.std.proofs.Common.{ℕ, ℤ, List, sym, subst}
use Rattle.pq_base.specs.Presentation.{Presentation, IsRelatorOf}
use Rattle.pq_base.specs.Joined.{Joined}
use Rattle.pq_base.specs.Table.{Table, IsGroup, AllBelow, InLevel, times, inverse, value}
use Rattle.pq_base.proofs.groups.Groups.{value_in}
use Rattle.pq_base.proofs.groups.GroupQuotients.{IsNormalSet, differ-joined}
use Rattle.pq_base.proofs.tables.TableGroup.{Element, table_group, elements, value_in-table_group}
use Rattle.pq_base.proofs.tables.TableSeries.{table_level-zero, table_level-times, table_level-inverse, table_level-conjugate}

module _ (T : Table) (g : IsGroup T) (p k : ℕ) where
  abbrev pub in_level : Element T → Type 0
  in_level x = InLevel T p k x.number

  pub in_level-normal : IsNormalSet (table_group T g) in_level
  in_level-normal = record {
    kept = λ e h. subst (λ (x : ℕ). InLevel T p k x) e h;
    one = table_level-zero T g p k;
    times = λ x y h i. table_level-times T g p k x.number y.number h i;
    inverse = λ x h. table_level-inverse T g p k x.number h;
    conjugate = λ x y h. table_level-conjugate T g p k x.number y.number h y.below;
  }

  pub table_level-joined : (P : Presentation) (f : List ℕ) → AllBelow T.size f
      → ((r : List ℤ) → IsRelatorOf P r → InLevel T p k (value T f r))
      → {u v : List ℤ} → Joined P u v → InLevel T p k (times T (inverse T (value T f u)) (value T f v))
  table_level-joined P f h kills {u} {v} c =
      let d : InLevel T p k (times T (inverse T (value_in (table_group T g) (elements T f h) u).number)
      (value_in (table_group T g) (elements T f h) v).number) =
      differ-joined (table_group T g) in_level in_level-normal P (elements T f h)
      (λ r i. subst (λ (x : ℕ). InLevel T p k x) (sym (value_in-table_group T g f h r)) (kills r i)) c in
      rw (value_in-table_group T g f h u, value_in-table_group T g f h v) at d
