-- Presentations with the same relators have the same largest quotients and the same orders: what obeys the one obeys the other.
use Rattle.std.proofs.Common.{◌≡◌, ℕ, ◌<◌, List, length, ap, sym, ◌∙◌, subst}
use Rattle.pq_base.specs.LPresentation.{LPresentation, Obeys}
use Rattle.pq_base.specs.Relators.{HasSameRelators}
use Rattle.pq_base.specs.Table.{Table}
use Rattle.pq_base.specs.Answer.{Answer}
use Rattle.pq_base.specs.Largest.{IsLargest, HasValue, HasOrder}
use Rattle.pq_base.specs.Laws.{SameRelatorsGiveSameQuotients}

pub same-relators_turned : (L M : LPresentation) → HasSameRelators L M → HasSameRelators M L
same-relators_turned L M same = record { names = sym same.names; relators = λ r. ((same.relators r).1, (same.relators r).0) }

module _ (L M : LPresentation) (same : HasSameRelators L M) where
  pub same-obeys : (T : Table) (f : List ℕ) → Obeys T f M → Obeys T f L
  same-obeys T f o =
      record { count = o.count ∙ ap length same.names; elements = o.elements; kills = λ r e. o.kills r ((same.relators r).0 e) }

  same-largest : (p c : ℕ) (A : Answer) → IsLargest L p c A → IsLargest M p c A
  same-largest p c A is = record {
    answer = is.answer;
    prime = is.prime;
    names = is.names ∙ sym same.names;
    class_limit = is.class_limit;
    consistent = is.consistent;
    class = is.class;
    kills = λ r e. is.kills r ((same.relators r).1 e);
    generated = is.generated;
    universal = λ T f g class o. is.universal T f g class (same-obeys T f o);
  }

module _ (L M : LPresentation) (same : HasSameRelators L M) where
  same-order : (p k r : ℕ) → HasOrder L p k r → HasOrder M p k r
  same-order p k r is = record {
    table = is.table;
    images = is.images;
    group = is.group;
    size = is.size;
    class = is.class;
    obeys = same-obeys M L (same-relators_turned L M same) is.table is.images is.obeys;
    generated =
        subst (λ (n : ℕ). (x : ℕ) → x < is.table.size → HasValue is.table is.images n x) (ap length (sym same.names)) is.generated;
    universal = λ U g group class o. is.universal U g group class (same-obeys L M same U g o);
  }

pub same_relators_give_same_quotients : SameRelatorsGiveSameQuotients
same_relators_give_same_quotients L M same =
    let back = same-relators_turned L M same in
    record {
      largest = λ p c A. (same-largest L M same p c A, same-largest M L back p c A);
      orders = λ p k r. (same-order L M same p k r, same-order M L back p k r);
    }
