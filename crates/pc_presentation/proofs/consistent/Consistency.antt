-- The consistency theorem: where each overlap agrees by some chains of pushes, the flat reading is consistent.
use Rattle.std.proofs.Common.{◌≡◌, ℕ, suc, pred, ◌+◌, ◌<◌, List, [], ◌∷◌, ◌++◌, replicate, refl, ap, sym, ◌∙◌, subst, arith, append_assoc}
use Rattle.std.proofs.lemmas.List.{replicate-append-replicate}
use Rattle.pq_base.specs.Table.{AllBelow}
use Rattle.pq_base.specs.Presentation.{Presentation, power_side, commutator_side}
use Rattle.pq_base.specs.Joined.{IsConsistent}
use Rattle.pq_base.proofs.PrimeLaws.{positive_prime}
use Rattle.fp_rows.proofs.BelowLaws.{AllBelow-append}
use Rattle.pc_presentation.specs.Rowed.{RowedPresentation, IsRowed, power_row, commutator_row, without_rows, flat}
use Rattle.pc_presentation.specs.Collection.{State, IsState, identity, spelled, add_row, push_word, plain_push}
use Rattle.pc_presentation.specs.Overlaps.{Overlap, IsOverlap, left_way, right_way, AgreesPlainly, PushChain, Agrees}
use Rattle.pc_presentation.specs.Overlaps.Overlap.{triple, left, right, own}
use Rattle.pc_presentation.specs.Overlaps.PushChain.{no_push, then_push}
use Rattle.pc_presentation.specs.CollectionLaws.{PlainPushesAreRuns, RowsRideAlong, WordsReachNormalWords, AgreeingOverlapsMakeConsistent}
use Rattle.pc_presentation.specs.CollectionLaws.{AgreeingOverlapsMakeConsistentWithoutRows, PlainAgreementIsAgreement}
use Rattle.pc_presentation.proofs.rows.RowLaws.{row_sum-zeros, identity-state}
use Rattle.pc_presentation.proofs.collecting.PlainRule.{plain-state, plain-rides}
use Rattle.pc_presentation.proofs.collecting.RunLaws.{replacement_from, run-weaken}
use Rattle.pc_presentation.proofs.collecting.PlainRuns.{plain_push-run, AllBelow-replicate, AllBelow-spelled}
use Rattle.pc_presentation.proofs.collecting.StateProducts.{RelationsAct}
use Rattle.pc_presentation.proofs.collecting.OverlapsFrom.{PushChainFrom, AgreesFrom, AllAgreeFrom}
use Rattle.pc_presentation.proofs.collecting.OverlapsFrom.OverlapFrom.{triple_from, left_from, right_from, own_from}
use Rattle.pc_presentation.proofs.collecting.OverlapsFrom.PushChainFrom.{none_from, then_from}
use Rattle.pc_presentation.proofs.collecting.OverlapsAct.{overlaps-act}
use Rattle.pc_presentation.proofs.rows.FlatLaws.{flat-presentation, flat-without_rows, without_rows-rowed}
use Rattle.pc_presentation.proofs.consistent.StateRelators.{normal_words-unique}
use Rattle.pc_presentation.proofs.consistent.Reached.{words-reach, plain_meaning}

-- chains of pushes at the first generator
chain_from : (Y : RowedPresentation) {s t : State} {w : List ℕ} → PushChain Y s w t → PushChainFrom Y Y.base.rank 0 s w t
chain_from Y no_push = none_from
chain_from Y (then_push q c) = then_from (record { run = run-weaken (replacement_from Y) q.run; state = q.state }) (chain_from Y c)

chain-state : (Y : RowedPresentation) {s t : State} {w : List ℕ} → PushChain Y s w t → IsState Y Y.base.rank s → IsState Y Y.base.rank t
chain-state Y no_push h = h
chain-state Y (then_push q c) h = chain-state Y c q.state

pub replicate-snoc : (p j i : ℕ) → 0 < p → replicate p j ++ i ∷ [] ≡ replicate (pred p) j ++ j ∷ i ∷ []
replicate-snoc p j i l =
    let e : pred p + 1 ≡ p = omega arith in
    ap (λ (w : List ℕ). w ++ i ∷ []) (sym (replicate-append-replicate {A = ℕ} (pred p) 1 j ∙ ap (λ (m : ℕ). replicate m j) e))
    ∙ append_assoc (replicate (pred p) j) (j ∷ []) (i ∷ [])

module _ (Y : RowedPresentation) (rowed : IsRowed Y) (big : 1 < Y.base.prime) where
  agreement : (a l r t lw rw : List ℕ) (x y : State) → a ++ l ≡ lw → a ++ r ≡ rw
      → PushChain Y (identity Y Y.base.rank) lw x → PushChain Y (identity Y Y.base.rank) rw y
      → add_row Y.base.prime (replicate Y.width 0) x ≡ add_row Y.base.prime t y → AgreesFrom Y Y.base.rank 0 a l r t
  agreement a l r t lw rw x y e f c d q =
      let v = chain-state Y c (identity-state Y Y.base.rank (omega arith)) in
      record {
        left_end = x;
        right_end = y;
        left_chain = subst (λ (w : List ℕ). PushChainFrom Y Y.base.rank 0 (identity Y Y.base.rank) w x) (sym e) (chain_from Y c);
        right_chain = subst (λ (w : List ℕ). PushChainFrom Y Y.base.rank 0 (identity Y Y.base.rank) w y) (sym f) (chain_from Y d);
        same = ap (λ (z : List ℕ). record { exponents = x.exponents; row = z }) (sym (row_sum-zeros Y.base.prime Y.width x.row v.row)) ∙ q;
      }

  -- places counted from 0
  at_places : (a l : List ℕ) (j i j' i' : ℕ) → j ≡ j' → i ≡ i'
      → AgreesFrom Y Y.base.rank 0 a l (i ∷ j ∷ spelled (suc j) (commutator_side Y.base j i)) (commutator_row Y j i)
      → AgreesFrom Y Y.base.rank 0 a l (i ∷ j ∷ spelled (suc j) (commutator_side Y.base j' i')) (commutator_row Y j' i')
  at_places a l j i j' i' e f h =
      subst (λ (y : ℕ). AgreesFrom Y Y.base.rank 0 a l (i ∷ j ∷ spelled (suc j) (commutator_side Y.base j' y)) (commutator_row Y j' y)) f
      (subst (λ (x : ℕ). AgreesFrom Y Y.base.rank 0 a l (i ∷ j ∷ spelled (suc j) (commutator_side Y.base x i)) (commutator_row Y x i)) e h)

  all_agree_from : ((o : Overlap) → IsOverlap Y.base.rank o → Agrees Y o) → AllAgreeFrom Y Y.base.rank 0
  all_agree_from agree _ _ _ _ (triple_from c j i a b f g m q x) =
      let o = agree (triple c j i) (q, x, (let z : c < Y.base.rank = omega arith in z)) in
      at_places (c ∷ []) (j ∷ i ∷ []) j i a b (omega arith) (omega arith)
      (agreement (c ∷ []) (j ∷ i ∷ []) (i ∷ j ∷ spelled (suc j) (commutator_side Y.base j i))
      (commutator_row Y j i) _ _ o.left_end o.right_end refl refl o.left_chain o.right_chain o.same)
  all_agree_from agree _ _ _ _ (left_from j i a b f g m q) =
      let o = agree (left j i) (q, (let z : j < Y.base.rank = omega arith in z)) in
      at_places (replicate (pred Y.base.prime) j) (j ∷ i ∷ []) j i a b (omega arith) (omega arith)
      (agreement (replicate (pred Y.base.prime) j) (j ∷ i ∷ []) (i ∷ j ∷ spelled (suc j) (commutator_side Y.base j i))
      (commutator_row Y j i) _ _ o.left_end o.right_end
      (sym (replicate-snoc Y.base.prime j i (omega arith))) refl o.left_chain o.right_chain o.same)
  all_agree_from agree _ _ _ _ (right_from j i b f m q) =
      let o = agree (right j i) (q, (let z : j < Y.base.rank = omega arith in z)) in
      let e : i ≡ b = omega arith in
      subst (λ (y : ℕ). AgreesFrom Y Y.base.rank 0 (j ∷ []) (replicate Y.base.prime i) (spelled (suc i) (power_side Y.base y))
      (power_row Y y)) e
      (agreement (j ∷ []) (replicate Y.base.prime i) (spelled (suc i) (power_side Y.base i))
      (power_row Y i) _ _ o.left_end o.right_end refl refl o.left_chain o.right_chain o.same)
  all_agree_from agree _ _ _ _ (own_from i b f m) =
      let o = agree (own i) (let z : i < Y.base.rank = omega arith in z) in
      let e : i ≡ b = omega arith in
      subst (λ (y : ℕ). AgreesFrom Y Y.base.rank 0 (i ∷ []) (replicate Y.base.prime i) (spelled (suc i) (power_side Y.base y))
      (power_row Y y)) e
      (agreement (i ∷ []) (replicate Y.base.prime i) (spelled (suc i) (power_side Y.base i))
      (power_row Y i) _ _ o.left_end o.right_end refl refl o.left_chain o.right_chain o.same)

  pub agreeing_relations_act : ((o : Overlap) → IsOverlap Y.base.rank o → Agrees Y o) → RelationsAct Y Y.base.rank 0
  agreeing_relations_act agree = overlaps-act Y rowed big Y.base.rank 0 (omega arith) (all_agree_from agree)

  pub agreeing_overlaps_consistent : ((o : Overlap) → IsOverlap Y.base.rank o → Agrees Y o) → IsConsistent (flat Y)
  agreeing_overlaps_consistent agree = record {
    unique = λ e f h i c. normal_words-unique Y rowed big (agreeing_relations_act agree) e f h i c;
    reached = λ w h. words-reach (flat Y) (flat-presentation Y rowed (omega arith)) (omega arith) w h;
  }

  -- a word of generators pushed by the plain rule
  plain_chain : (s : State) (w : List ℕ) → IsState Y Y.base.rank s → AllBelow Y.base.rank w → PushChain Y s w (push_word (plain_push Y) s w)
  plain_chain s [] h b = no_push
  plain_chain s (i ∷ w) h b =
      let v : IsState Y Y.base.rank (plain_push Y s i) = plain-state Y rowed (omega arith) Y.base.rank 0 s i h in
      then_push (record { run = plain_push-run Y rowed (omega arith) s i h b.0; state = v }) (plain_chain (plain_push Y s i) w v b.1)

  pub left_way-below : (o : Overlap) → IsOverlap Y.base.rank o → AllBelow Y.base.rank (left_way Y o).word
  left_way-below (triple k j i) h = let a = h.0 in
      let b = h.1 in let c = h.2 in (c, ((let z : j < Y.base.rank = omega arith in z), ((let z : i < Y.base.rank = omega arith in z), tt)))
  left_way-below (left j i) h =
      let a = h.0 in let b = h.1 in
      AllBelow-append Y.base.rank (replicate Y.base.prime j) (i ∷ []) (AllBelow-replicate Y.base.rank Y.base.prime j b)
      ((let z : i < Y.base.rank = omega arith in z), tt)
  left_way-below (right j i) h = let a = h.0 in let b = h.1 in (b, AllBelow-replicate Y.base.rank Y.base.prime i (omega arith))
  left_way-below (own i) h = (h, AllBelow-replicate Y.base.rank Y.base.prime i h)

  commutator-below : (j i : ℕ) → j < Y.base.rank → i < j → AllBelow Y.base.rank (spelled (suc j) (commutator_side Y.base j i))
  commutator-below j i l m = let c = (rowed.base.commutator_sides j i l m).count in
      AllBelow-spelled Y.base.rank (suc j) (commutator_side Y.base j i) (omega arith)

  power-below : (i : ℕ) → i < Y.base.rank → AllBelow Y.base.rank (spelled (suc i) (power_side Y.base i))
  power-below i l = let c = (rowed.base.power_sides i l).count in AllBelow-spelled Y.base.rank (suc i) (power_side Y.base i) (omega arith)

  pub right_way-below : (o : Overlap) → IsOverlap Y.base.rank o → AllBelow Y.base.rank (right_way Y o).word
  right_way-below (triple k j i) h =
      let a = h.0 in let b = h.1 in let c = h.2 in
      let y : j < Y.base.rank = omega arith in
      let z : i < Y.base.rank = omega arith in
      (c, (z, (y, commutator-below j i y a)))
  right_way-below (left j i) h =
      let a = h.0 in let b = h.1 in
      let z : i < Y.base.rank = omega arith in
      AllBelow-append Y.base.rank (replicate (pred Y.base.prime) j) (i ∷ j ∷ spelled (suc j) (commutator_side Y.base j i))
      (AllBelow-replicate Y.base.rank (pred Y.base.prime) j b) (z, (b, commutator-below j i b a))
  right_way-below (right j i) h = let a = h.0 in let b = h.1 in (b, power-below i (omega arith))
  right_way-below (own i) h = (h, power-below i h)

  pub plain_agreement : (o : Overlap) → IsOverlap Y.base.rank o → AgreesPlainly Y o → Agrees Y o
  plain_agreement o h e =
      let v = identity-state Y Y.base.rank (omega arith) in
      record {
        left_end = push_word (plain_push Y) (identity Y Y.base.rank) (left_way Y o).word;
        right_end = push_word (plain_push Y) (identity Y Y.base.rank) (right_way Y o).word;
        left_chain = plain_chain (identity Y Y.base.rank) (left_way Y o).word v (left_way-below o h);
        right_chain = plain_chain (identity Y Y.base.rank) (right_way Y o).word v (right_way-below o h);
        same = e;
      }

pub plain_pushes_are_runs : PlainPushesAreRuns
plain_pushes_are_runs Y rowed s i h l = (plain_meaning Y rowed (positive_prime Y.base rowed.base)).pushed s i h l

pub rows_ride_along : RowsRideAlong
rows_ride_along Y t s i = plain-rides Y Y.base.rank 0 t s i

pub words_reach_normal_words : WordsReachNormalWords
words_reach_normal_words P h w l = words-reach P h (positive_prime P h) w l

pub agreeing_overlaps_make_consistent : AgreeingOverlapsMakeConsistent
agreeing_overlaps_make_consistent Y rowed agree = agreeing_overlaps_consistent Y rowed rowed.base.prime agree

pub agreeing_overlaps_make_consistent_without_rows : AgreeingOverlapsMakeConsistentWithoutRows
agreeing_overlaps_make_consistent_without_rows P h agree =
    subst (λ (Q : Presentation). IsConsistent Q) (flat-without_rows P)
    (agreeing_overlaps_consistent (without_rows P) (without_rows-rowed P h) h.prime agree)

pub plain_agreement_is_agreement : PlainAgreementIsAgreement
plain_agreement_is_agreement Y rowed o h e = plain_agreement Y rowed rowed.base.prime o h e
