-- A presentation with rows that obeys weights is consistent if the overlaps within the bounds on weights agree by some chains of pushes:
-- going down the generators their relations act, since the overlaps beyond the bounds agree by their weights.
use Rattle.std.proofs.Common.{◌≡◌, ℕ, zero, suc, pred, ◌+◌, ◌<◌, List, [], ◌∷◌, ◌++◌, map, replicate, ap, sym, ◌∙◌, subst, arith}
use Rattle.std.proofs.lemmas.List.{map-append}
use Rattle.pq_base.specs.Presentation.{power_side, commutator_side}
use Rattle.pc_presentation.specs.Rowed.{RowedPresentation, IsRowed, power_row, commutator_row, flat}
use Rattle.pc_presentation.specs.Collection.{State, IsState, identity, spelled, add_row, before, push_word}
use Rattle.pc_presentation.specs.Overlaps.{Overlap, IsOverlap, Agrees}
use Rattle.pc_presentation.proofs.rows.RowLaws.{identity-state}
use Rattle.pc_presentation.proofs.rows.FlatLaws.{flat-presentation}
use Rattle.pc_presentation.proofs.collecting.PushLaws.{push_word-append, push_word-keeps}
use Rattle.pc_presentation.proofs.collecting.PlainRule.{plain, plain-later_word, plain-state, spelled-suc, map-replicate}
use Rattle.pc_presentation.proofs.collecting.RunLaws.{ReplacementFrom}
use Rattle.pc_presentation.proofs.collecting.RunLaws.ReplacementFrom.{swap_from, power_from}
use Rattle.pc_presentation.proofs.collecting.StateProducts.{RelationsAct}
use Rattle.pc_presentation.proofs.collecting.OverlapsFrom.{OverlapFrom}
use Rattle.pc_presentation.proofs.collecting.OverlapsFrom.OverlapFrom.{triple_from, left_from, right_from, own_from}
use Rattle.pc_presentation.proofs.collecting.OverlapsAct.{one_more, no_relations}
use Rattle.pc_presentation.proofs.consistent.StateRelators.{normal_words-unique}
use Rattle.pc_presentation.proofs.consistent.Reached.{words-reach}
use Rattle.tails_by_weight.specs.WeightedRows.{ObeysWeightsTo, IsInsideTo}
use Rattle.tails_by_weight.specs.WeightLaws.{OverlapsByWeightMakeConsistent}
use Rattle.tails_by_weight.proofs.weighted.FirstOverlaps.{PowerAgrees, swap-place, first_triple, first_left, first_right, first_own}

module _ (Y : RowedPresentation) (rowed : IsRowed Y) (big : 1 < Y.base.prime) (n k : ℕ) (acts : RelationsAct Y n (suc k)) where
  -- both sides of a relation of the generators from place k on, behind the word a
  abbrev ActsBehind : List ℕ → List ℕ → List ℕ → List ℕ → Type 0
  ActsBehind a l r t =
      push_word (plain Y (suc n) k) (identity Y (suc n)) (a ++ l)
      ≡ add_row Y.base.prime t (push_word (plain Y (suc n) k) (identity Y (suc n)) (a ++ r))

  -- a relation of later generators
  later-acts : (a l r t : List ℕ) → ReplacementFrom Y (suc k) l r t → ActsBehind (map suc a) (map suc l) (map suc r) t
  later-acts a l r t m =
      let push : State → ℕ → State = plain Y n (suc k) in
      let one : State = identity Y n in
      let keeps = plain-state Y rowed (omega arith) n (suc k) in
      let zs : IsState Y n (push_word push one a) = push_word-keeps push (IsState Y n) keeps one a (identity-state Y n (omega arith)) in
      behind l ∙ ap (before 0) (acts (push_word push one a) zs l r t m) ∙ ap (add_row Y.base.prime t) (sym (behind r))
    where
      behind : (u : List ℕ) → push_word (plain Y (suc n) k) (identity Y (suc n)) (map suc a ++ map suc u)
          ≡ before 0 (push_word (plain Y n (suc k)) (push_word (plain Y n (suc k)) (identity Y n) a) u)
      behind u =
          ap (push_word (plain Y (suc n) k) (identity Y (suc n))) (sym (map-append suc a u))
          ∙ plain-later_word Y n k 0 (identity Y n) (a ++ u)
          ∙ ap (before 0) (push_word-append (plain Y n (suc k)) (identity Y n) a u)

  -- overlaps of later generators
  later_swap : (u : List ℕ) (j i a b : ℕ) → a ≡ k + suc j → b ≡ k + suc i → a < Y.base.rank → i < j
      → ActsBehind (map suc u) (suc j ∷ suc i ∷ []) (suc i ∷ suc j ∷ spelled (suc (suc j)) (commutator_side Y.base a b))
      (commutator_row Y a b)
  later_swap u j i a b f g m q =
      let side : List ℕ = commutator_side Y.base a b in
      let l : List ℕ = suc j ∷ suc i ∷ [] in
      let t : List ℕ = commutator_row Y a b in
      subst (λ (w : List ℕ). ActsBehind (map suc u) l (suc i ∷ suc j ∷ w) t) (sym (spelled-suc (suc j) side))
      (later-acts u (j ∷ i ∷ []) (i ∷ j ∷ spelled (suc j) side) t (swap_from j i a b (omega arith) (omega arith) m q))

  later_power : (j i b : ℕ) → b ≡ k + suc i → b < Y.base.rank
      → ActsBehind (suc j ∷ []) (replicate Y.base.prime (suc i)) (spelled (suc (suc i)) (power_side Y.base b)) (power_row Y b)
  later_power j i b f m =
      let side : List ℕ = power_side Y.base b in
      let letters : List ℕ = replicate Y.base.prime i in
      let t : List ℕ = power_row Y b in
      subst (λ (w : List ℕ). ActsBehind (suc j ∷ []) w (spelled (suc (suc i)) side) t) (map-replicate Y.base.prime i)
      (subst (λ (w : List ℕ). ActsBehind (suc j ∷ []) (map suc letters) w t) (sym (spelled-suc (suc i) side))
      (later-acts (j ∷ []) letters (spelled (suc i) side) t (power_from i b (omega arith) m)))

  -- all overlaps of the generators from place k on
  module _ (size : suc k + n ≡ Y.base.rank) (weights : List ℕ) (e : ℕ) (obeys : ObeysWeightsTo Y weights e)
      (agree : (o : Overlap) → IsOverlap Y.base.rank o → IsInsideTo weights e o → Agrees Y o) where
    overlaps-act_behind : (a l r t : List ℕ) → OverlapFrom Y k a l r t → ActsBehind a l r t
    overlaps-act_behind _ _ _ _ (triple_from zero j i a b f g m q x) = absurd (omega arith)
    overlaps-act_behind _ _ _ _ (triple_from (suc c) zero i a b f g m q x) = absurd (omega arith)
    overlaps-act_behind _ _ _ _ (triple_from (suc c) (suc j) zero a b f g m q x) =
        swap-place Y n k (suc c ∷ []) (suc j) (suc (k + j)) k a b (omega arith) (omega arith)
        (first_triple Y rowed big weights e obeys agree n k size acts c j (omega arith) (omega arith))
    overlaps-act_behind _ _ _ _ (triple_from (suc c) (suc j) (suc i) a b f g m q x) =
        later_swap (c ∷ []) j i a b f g (omega arith) (omega arith)
    overlaps-act_behind _ _ _ _ (left_from zero i a b f g m q) = absurd (omega arith)
    overlaps-act_behind _ _ _ _ (left_from (suc j) zero a b f g m q) =
        swap-place Y n k (replicate (pred Y.base.prime) (suc j)) (suc j) (suc (k + j)) k a b (omega arith) (omega arith)
        (first_left Y rowed big weights e obeys agree n k size acts j (omega arith))
    overlaps-act_behind _ _ _ _ (left_from (suc j) (suc i) a b f g m q) =
        let l : List ℕ = suc j ∷ suc i ∷ [] in
        let r : List ℕ = suc i ∷ suc j ∷ spelled (suc (suc j)) (commutator_side Y.base a b) in
        subst (λ (w : List ℕ). ActsBehind w l r (commutator_row Y a b)) (map-replicate (pred Y.base.prime) j)
        (later_swap (replicate (pred Y.base.prime) j) j i a b f g m (omega arith))
    overlaps-act_behind _ _ _ _ (right_from zero i b f m q) = absurd (omega arith)
    overlaps-act_behind _ _ _ _ (right_from (suc j) zero b f m q) =
        subst (λ (x : ℕ). PowerAgrees Y n k (suc j) x) (let h : k ≡ b = omega arith in h)
        (first_right Y rowed big weights e obeys agree n k size acts j (omega arith))
    overlaps-act_behind _ _ _ _ (right_from (suc j) (suc i) b f m q) = later_power j i b f (omega arith)
    overlaps-act_behind _ _ _ _ (own_from zero b f m) =
        subst (λ (x : ℕ). PowerAgrees Y n k 0 x) (let h : k ≡ b = omega arith in h)
        (first_own Y rowed big weights e obeys agree n k size acts)
    overlaps-act_behind _ _ _ _ (own_from (suc i) b f m) = later_power i i b f m

-- down the generators
module _ (Y : RowedPresentation) (rowed : IsRowed Y) (big : 1 < Y.base.prime) (weights : List ℕ) (e : ℕ)
    (obeys : ObeysWeightsTo Y weights e) (agree : (o : Overlap) → IsOverlap Y.base.rank o → IsInsideTo weights e o → Agrees Y o) where
  weighted_relations_act : (n k : ℕ) → k + n ≡ Y.base.rank → RelationsAct Y n k
  weighted_relations_act zero k size = no_relations Y k size
  weighted_relations_act (suc n) k size =
      let acts : RelationsAct Y n (suc k) = weighted_relations_act n (suc k) (omega arith) in
      one_more Y rowed big n k (omega arith) acts (overlaps-act_behind Y rowed big n k acts (omega arith) weights e obeys agree)

pub overlaps_by_weight_make_consistent : OverlapsByWeightMakeConsistent
overlaps_by_weight_make_consistent Y weights e rowed obeys agree =
    let big = rowed.base.prime in
    let acts : RelationsAct Y Y.base.rank 0 = weighted_relations_act Y rowed big weights e obeys agree Y.base.rank 0 (omega arith) in
    record {
      unique = λ a b h g c. normal_words-unique Y rowed big acts a b h g c;
      reached = λ w h. words-reach (flat Y) (flat-presentation Y rowed (omega arith)) (omega arith) w h;
    }
