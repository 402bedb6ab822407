-- What elements of group tables of class at most c obey alike has the same largest quotients and orders up to that class: the
-- table of an answer's normal words has the class, and obeys what the answer kills. So the quotients and refusals are the same.
use Rattle.std.proofs.Common.{ℕ, ◌<◌, ◌≤◌, length, ap, sym, ◌∙◌, subst, arith}
use Rattle.pq_base.specs.LPresentation.{LPresentation, Obeys}
use Rattle.pq_base.specs.Table.{HasTableClass}
use Rattle.pq_base.specs.Answer.{Answer}
use Rattle.pq_base.specs.Largest.{IsLargest, HasValue, HasOrder}
use Rattle.pq_base.proofs.tables.TableSeries.{table_class-weaken}
use Rattle.pc_presentation.specs.NormalTable.{normal_table}
use Rattle.pc_presentation.proofs.normal_tables.LevelWords.{tables_have_the_class}
use Rattle.cover_quotient.specs.Stages.{image_numbers}
use Rattle.cover_quotient.proofs.stages.ImageNumbers.{own-table, obeys-from_kills, kills-from_obeys}
use Rattle.derivation_log.specs.declared.source.Run.{Run}
use Rattle.tower.specs.declared.refusal.TowerRefusal.{TowerRefusal}
use Rattle.tower.specs.declared.refusal.TowerRefusal.TheVariants.{TooLarge, NoMemory}
use Rattle.tower.specs.Answers.{IsQuotient, IsTooLarge}
use Rattle.tower.specs.Refusals.{IsRefusalOf}
use Rattle.tower.specs.QuotientLaws.{AreObeyedAlike, HaveSameAnswersTo, PresentationsObeyedAlikeHaveSameAnswers}

pub alike-turned : (L M : LPresentation) (p c : ℕ) → AreObeyedAlike L M p c → AreObeyedAlike M L p c
alike-turned L M p c alike = record {
  names = sym alike.names;
  obeyed = λ T f g class. ((alike.obeyed T f g class).1, (alike.obeyed T f g class).0);
}

-- also in tables of smaller class
alike-below : (L M : LPresentation) (p k c : ℕ) → k ≤ c → AreObeyedAlike L M p c → AreObeyedAlike L M p k
alike-below L M p k c l alike = record {
  names = alike.names;
  obeyed = λ T f g class. alike.obeyed T f g (table_class-weaken T g p k c l class);
}

module _ (L M : LPresentation) (p k : ℕ) (alike : AreObeyedAlike L M p k) where
  -- the table of normal words obeys the one, so it obeys the other
  table-obeys : (A : Answer) → IsLargest L p k A → Obeys (normal_table A.presentation) (image_numbers A) M
  table-obeys A is =
      (alike.obeyed (normal_table A.presentation) (image_numbers A) (own-table A is.answer is.consistent).group
      (subst (λ (q : ℕ). HasTableClass (normal_table A.presentation) q k) is.prime
      ((tables_have_the_class A.presentation is.answer.presentation is.consistent k).0 is.class))).0
      (obeys-from_kills A is.answer is.consistent L is.names is.kills)

  alike-largest : (A : Answer) → IsLargest L p k A → IsLargest M p k A
  alike-largest A is = record {
    answer = is.answer;
    prime = is.prime;
    names = is.names ∙ sym alike.names;
    class_limit = is.class_limit;
    consistent = is.consistent;
    class = is.class;
    kills = kills-from_obeys A is.answer is.consistent M (is.names ∙ sym alike.names) (table-obeys A is);
    generated = is.generated;
    universal = λ T f g class o. is.universal T f g class ((alike.obeyed T f g class).1 o);
  }

  alike-order : (r : ℕ) → HasOrder L p k r → HasOrder M p k r
  alike-order r is = record {
    table = is.table;
    images = is.images;
    group = is.group;
    size = is.size;
    class = is.class;
    obeys = (alike.obeyed is.table is.images is.group is.class).0 is.obeys;
    generated =
        subst (λ (n : ℕ). (x : ℕ) → x < is.table.size → HasValue is.table is.images n x) (ap length (sym alike.names)) is.generated;
    universal = λ U g group class o. is.universal U g group class ((alike.obeyed U g group class).1 o);
  }

module _ (L M : LPresentation) (p c : ℕ) (alike : AreObeyedAlike L M p c) where
  alike-quotient : (A : Answer) → IsQuotient L p c A → IsQuotient M p c A
  alike-quotient A is = record {
    largest = alike-largest L M p c alike A is.largest;
    cuts = λ j l. alike-largest L M p j (alike-below L M p j c l alike) _ (is.cuts j l);
    canonical = is.canonical;
    class = is.class;
    exact = is.exact;
    small = λ k r l big order.
        is.small k r l big (alike-order M L p k (alike-turned L M p k (alike-below L M p k c l alike)) r order);
  }

  alike-refusal : (k r : ℕ) → IsTooLarge L p c k r → IsTooLarge M p c k r
  alike-refusal k r is =
      let last = is.last in
      record {
        first = is.first;
        last = is.last;
        large = is.large;
        order = alike-order L M p k (alike-below L M p k c is.last alike) r is.order;
        before = λ j s l big order.
            is.before j s l big (alike-order M L p j (alike-turned L M p j (alike-below L M p j c (omega arith) alike)) s order);
      }

pub presentations_obeyed_alike_have_same_answers : PresentationsObeyedAlikeHaveSameAnswers
presentations_obeyed_alike_have_same_answers L M p c alike =
    let back = alike-turned L M p c alike in
    record {
      largest = λ k A l.
          (alike-largest L M p k (alike-below L M p k c l alike) A, alike-largest M L p k (alike-below M L p k c l back) A);
      orders = λ k r l. (alike-order L M p k (alike-below L M p k c l alike) r, alike-order M L p k (alike-below M L p k c l back) r);
      quotients = λ A. (alike-quotient L M p c alike A, alike-quotient M L p c back A);
      refusals = λ k r. (alike-refusal L M p c alike k r, alike-refusal M L p c back k r);
    }

-- a refusal of a run over the one is a refusal of the other
pub refusal-of_same : (L M : LPresentation) (p c : ℕ) (run : Run) (e : TowerRefusal) → HaveSameAnswersTo L M p c → IsRefusalOf M p c run e
    → IsRefusalOf L p c run e
refusal-of_same L M p c run (TooLarge other k rank) same is = (is.0, (same.refusals k rank).1 is.1)
refusal-of_same L M p c run NoMemory same is = tt
