-- Elements of a group table that obey an L-presentation, and its largest quotient of class c: a word that is trivial in the quotient
-- has a value in level c of the table, as it has value 0 in the table modulo that level.
use Rattle.std.proofs.Common.{◌≡◌, ℕ, ℤ, List, [], length, map, sym, ◌∙◌, subst, arith}
use Rattle.std.proofs.Math.ListN.{get_or-map}
use Rattle.pq_base.specs.SignedWord.{sub, HasLetters}
use Rattle.pq_base.specs.LPresentation.{LPresentation, Obeys}
use Rattle.pq_base.specs.Table.{Table, IsGroup, InLevel, HasTableClass, value}
use Rattle.pq_base.specs.Joined.{Joined}
use Rattle.pq_base.specs.Answer.{Answer, image_words}
use Rattle.pq_base.specs.Largest.{FactorsOnce, IsLargest}
use Rattle.pq_base.proofs.tables.TableSeries.{table_level-zero}
use Rattle.pq_base.proofs.tables.TableGroup.{value-sub, value-joined, value-agree}
use Rattle.pq_base.proofs.tables.LevelQuotients.{LevelQuotient}

module _ (L : LPresentation) (p c : ℕ) (A : Answer) (largest : IsLargest L p c A) where
  -- in a table of class c a word that dies has value 0
  module _ (T : Table) (f : List ℕ) (g : IsGroup T) (class : HasTableClass T p c) (obeys : Obeys T f L) where
    through : FactorsOnce T f A
    through = largest.universal T f g class obeys

    pub killed-zero : (w : List ℤ) → HasLetters (length A.names) w → Joined A.presentation (sub w (image_words A)) [] → value T f w ≡ 0
    killed-zero w letters dies =
        let images = largest.answer.image_count in
        let e : List ℕ = through.through in
        value-agree T (length A.names) f (map (value T e) (image_words A))
        (λ i l. sym (get_or-map (value T e) (image_words A) i [] ∙ through.factors.images i (omega arith))) w letters
        ∙ sym (value-sub T g e through.factors.elements w (image_words A))
        ∙ value-joined T g e through.factors.elements A.presentation through.factors.relators dies

  -- in any table its value is in level c
  pub killed-level : (T : Table) (f : List ℕ) → IsGroup T → Obeys T f L → LevelQuotient T p c f
      → (w : List ℤ) → HasLetters (length A.names) w → Joined A.presentation (sub w (image_words A)) [] → InLevel T p c (value T f w)
  killed-level T f g obeys Q w letters dies =
      (Q.kernel w).0
      (killed-zero Q.table Q.images Q.group Q.class
      (record {
        count = Q.count ∙ obeys.count;
        elements = Q.elements;
        kills = λ r e. (Q.kernel r).1 (subst (λ (x : ℕ). InLevel T p c x) (sym (obeys.kills r e)) (table_level-zero T g p c));
      }) w letters dies)
