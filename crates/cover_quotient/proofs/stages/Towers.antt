-- Towers: the trivial answer is one, a next stage makes one of one class more, and where the answer stays it is one of each
-- later class. A tower bounds the orders of the largest quotients up to its class.
use Rattle.std.proofs.Common.{◌≡◌, ℕ, zero, suc, ◌<◌, ◌≤◌, List, length, ap, sym, ◌∙◌, subst, arith, inl, inr}
use Rattle.std.proofs.lemmas.Bool.{cases_lt}
use Rattle.pq_base.specs.Table.{Table}
use Rattle.pq_base.specs.Answer.{Answer, class_of}
use Rattle.pq_base.specs.Canonical.{rank_up_to, up_to_class}
use Rattle.pq_base.proofs.Restrictions.{restrictions_compose, restrictions_are_whole}
use Rattle.pc_presentation.specs.Parts.{trivial_answer}
use Rattle.pq_base.proofs.PrimeLaws.{offered-two}
use Rattle.pq_base.proofs.WeightLaws.{count_up_to-within}
use Rattle.cover_quotient.proofs.stages.LargestOrders.{largest_quotients_have_the_order}
use Rattle.pq_base.proofs.tables.UniqueOrders.{orders_are_unique}
use Rattle.cover_quotient.specs.Stages.{Condition, IsStageOver, IsNextStageOver, IsTowerOver, Obeying}
use Rattle.cover_quotient.specs.StageLaws.{TowersStart, TowersGrow, TowersStay, TowersBoundOrders}
use Rattle.cover_quotient.proofs.stages.FirstStages.{trivial_answers_are_stages, stages_are_largest}

module _ (Adm : Condition) (given : List (List ℕ)) (p : ℕ) where
  -- a stage cut at its class
  whole-stage : (j : ℕ) (A : Answer) → IsStageOver Adm given p j A → class_of A ≤ j → IsStageOver Adm given p j (up_to_class A j)
  whole-stage j A stage l = subst (IsStageOver Adm given p j) (sym (restrictions_are_whole A stage.answer j l)) stage

  pub tower-starts : (A : Answer) → IsStageOver Adm given p 0 A → IsTowerOver Adm given p 0 A
  tower-starts A stage =
      record {
        stage = stage;
        stages = λ j l.
            let none : j ≡ 0 = omega arith in
            subst (λ (k : ℕ). IsStageOver Adm given p k (up_to_class A k)) (sym none) (whole-stage 0 A stage stage.class_limit);
      }

  pub tower-grows : (c : ℕ) (A N : Answer) → IsTowerOver Adm given p c A → IsNextStageOver Adm given p c A N
      → IsTowerOver Adm given p (suc c) N
  tower-grows c A N tower next =
      record {
        stage = next.stage;
        stages = λ j l. elim (cases_lt j (suc c)) [
          | inl h ↦
              subst (IsStageOver Adm given p j)
              (ap (λ (M : Answer). up_to_class M j) (sym next.restricts) ∙ restrictions_compose N next.stage.answer j c (omega arith))
              (tower.stages j (omega arith))
          | inr h ↦
              let same : j ≡ suc c = omega arith in
              subst (λ (k : ℕ). IsStageOver Adm given p k (up_to_class N k)) (sym same)
              (whole-stage (suc c) N next.stage next.stage.class_limit)
        ];
      }

  pub tower-stays : (c : ℕ) (A : Answer) → IsTowerOver Adm given p c A → class_of A ≤ c → ((d : ℕ) → c ≤ d → IsStageOver Adm given p d A)
      → (d : ℕ) → c ≤ d → IsTowerOver Adm given p d A
  tower-stays c A tower limit stays d l =
      record {
        stage = stays d l;
        stages = λ j m. elim (cases_lt j c) [
          | inl h ↦ tower.stages j (omega arith)
          | inr h ↦ whole-stage j A (stays j (omega arith)) (omega arith)
        ];
      }

pub towers_start : TowersStart
towers_start L p offered some limit distinct =
    tower-starts (Obeying L) L.names p (trivial_answer p L.names) (trivial_answers_are_stages L p offered some limit distinct)

pub towers_grow : TowersGrow
towers_grow L p c A N tower next = tower-grows (Obeying L) L.names p c A N tower next

pub towers_stay : TowersStay
towers_stay L p c A tower limit stays d l = tower-stays (Obeying L) L.names p c A tower limit stays d l

pub towers_bound_orders : TowersBoundOrders
towers_bound_orders L p c n A tower few k r l big order =
    let stage = tower.stages k l in
    let count = tower.stage.answer.weight_count in
    let some : 1 < p = offered-two p stage.offered in
    let within : rank_up_to A k ≤ length A.weights = count_up_to-within k A.weights in
    let same : r ≡ rank_up_to A k =
    orders_are_unique L p k r (rank_up_to A k) some order
    (largest_quotients_have_the_order L p k (up_to_class A k) some (stages_are_largest L p k (up_to_class A k) stage)) in
    absurd (omega arith)
