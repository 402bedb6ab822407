-- The right way of an overlap is its left way after one directed step, so both ways are joined. Where the flat reading is
-- consistent they end at one state over each collector, and over a consistent base at the same exponents.
use Rattle.std.proofs.Common.{◌≡◌, ℕ, suc, pred, ◌<◌, ℤ, List, [], ◌∷◌, ◌++◌, replicate, ap, sym, subst, arith, append_assoc}
use Rattle.std.proofs.lemmas.List.{append-nil}
use Rattle.pq_base.specs.Table.{AllBelow}
use Rattle.pq_base.specs.Presentation.{IsNormal, word_from, normal_word, power_side, commutator_side}
use Rattle.pq_base.specs.Joined.{Joined, IsConsistent}
use Rattle.pq_base.proofs.words.JoinedLaws.{joined-sym, joined-trans, joined-from_equal, joined-append_left, joined-append_right}
use Rattle.pq_base.proofs.words.JoinedLaws.{joined-cancel_left}
use Rattle.pc_presentation.specs.Rowed.{RowedPresentation, IsRowed, power_row, commutator_row, row_sum, flat}
use Rattle.pc_presentation.specs.Collection.{Configuration, State, IsState, Step, Replacement, DirectedRun, identity, spelled, letters}
use Rattle.pc_presentation.specs.Collection.{signed_word, push_word, push_configuration}
use Rattle.pc_presentation.specs.Collection.Step.{replace}
use Rattle.pc_presentation.specs.Collection.Run.{stop, move}
use Rattle.pc_presentation.specs.Collection.Replacement.{swap, power}
use Rattle.pc_presentation.specs.Overlaps.{Overlap, IsOverlap, left_way, right_way}
use Rattle.pc_presentation.specs.Overlaps.Overlap.{triple, left, right, own}
use Rattle.pc_presentation.specs.Arithmetic.{IsMeaning, word_of}
use Rattle.pc_presentation.specs.CollectionLaws.{ConsistentOverlapsAgree, SameUpToRow, OverlapsOverConsistentBase}
use Rattle.pc_presentation.proofs.rows.RowLaws.{zeros-row_sum, row_sum-normal, zeros-normal, identity-state}
use Rattle.pc_presentation.proofs.collecting.PlainRule.{spelled-zeros}
use Rattle.pc_presentation.proofs.consistent.LetterWords.{letters-spelled}
use Rattle.pc_presentation.proofs.consistent.Reached.{run-joined, push_word-joined_base, state_word}
use Rattle.pc_presentation.proofs.consistent.Consistency.{replicate-snoc, left_way-below, right_way-below}
use Rattle.pc_presentation.proofs.rows.TailLaws.{row_words-add, run-joined_flat}
use Rattle.pc_presentation.proofs.quotients.CollectorArithmetic.{push_word-joined, identity-word}
use Rattle.pc_presentation.proofs.consistent.ConsistentPushes.{states-unique}

module _ (Y : RowedPresentation) (rowed : IsRowed Y) (big : 1 < Y.base.prime) where
  -- one step from a word that ends with the left side of a relation
  last-step : (a l r t : List ℕ) → Replacement Y l r t → IsNormal Y.base.prime Y.width t
      → DirectedRun Y (record { word = a ++ l; row = replicate Y.width 0 }) (record { word = a ++ r; row = t })
  last-step a l r t h n =
      let s : Step Y.base.prime (Replacement Y) (record { word = a ++ (l ++ []); row = replicate Y.width 0 })
      (record { word = a ++ (r ++ []); row = row_sum Y.base.prime (replicate Y.width 0) t }) =
      replace a l r [] t (replicate Y.width 0) h in
      subst (λ (w : List ℕ). DirectedRun Y (record { word = a ++ w; row = replicate Y.width 0 }) (record { word = a ++ r; row = t }))
      (append-nil l)
      (subst (λ (w : List ℕ). DirectedRun Y (record { word = a ++ (l ++ []); row = replicate Y.width 0 })
      (record { word = a ++ w; row = t })) (append-nil r)
      (subst (λ (x : List ℕ). DirectedRun Y (record { word = a ++ (l ++ []); row = replicate Y.width 0 })
      (record { word = a ++ (r ++ []); row = x }))
      (zeros-row_sum Y.base.prime Y.width t n) (move s stop)))

  -- from the left way to the right way
  pub ways-run : (o : Overlap) → IsOverlap Y.base.rank o → DirectedRun Y (left_way Y o) (right_way Y o)
  ways-run (triple k j i) h =
      let a = h.0 in let b = h.1 in let c = h.2 in
      let l : j < Y.base.rank = omega arith in
      last-step (k ∷ []) (j ∷ i ∷ []) (i ∷ j ∷ spelled (suc j) (commutator_side Y.base j i)) (commutator_row Y j i) (swap j i l a)
      (rowed.commutator_rows j i l a)
  ways-run (left j i) h =
      subst (λ (w : List ℕ). DirectedRun Y (record { word = w; row = replicate Y.width 0 }) (right_way Y (left j i)))
      (sym (replicate-snoc Y.base.prime j i (omega arith)))
      (last-step (replicate (pred Y.base.prime) j) (j ∷ i ∷ []) (i ∷ j ∷ spelled (suc j) (commutator_side Y.base j i))
      (commutator_row Y j i)
      (swap j i h.1 h.0) (rowed.commutator_rows j i h.1 h.0))
  ways-run (right j i) h =
      let a = h.0 in let b = h.1 in
      let l : i < Y.base.rank = omega arith in
      last-step (j ∷ []) (replicate Y.base.prime i) (spelled (suc i) (power_side Y.base i)) (power_row Y i) (power i l)
      (rowed.power_rows i l)
  ways-run (own i) h =
      last-step (i ∷ []) (replicate Y.base.prime i) (spelled (suc i) (power_side Y.base i)) (power_row Y i) (power i h)
      (rowed.power_rows i h)

  -- the row that the right way adds
  pub right_way-row : (o : Overlap) → IsOverlap Y.base.rank o → IsNormal Y.base.prime Y.width (right_way Y o).row
  right_way-row (triple k j i) h = let a = h.0 in let b = h.1 in let c = h.2 in rowed.commutator_rows j i (omega arith) a
  right_way-row (left j i) h = rowed.commutator_rows j i h.1 h.0
  right_way-row (right j i) h = let a = h.0 in let b = h.1 in rowed.power_rows i (omega arith)
  right_way-row (own i) h = rowed.power_rows i h

  -- and the left way's
  pub left_way-row : (o : Overlap) → IsNormal Y.base.prime Y.width (left_way Y o).row
  left_way-row (triple k j i) = zeros-normal Y.base.prime Y.width (omega arith)
  left_way-row (left j i) = zeros-normal Y.base.prime Y.width (omega arith)
  left_way-row (right j i) = zeros-normal Y.base.prime Y.width (omega arith)
  left_way-row (own i) = zeros-normal Y.base.prime Y.width (omega arith)

  module _ (push : State → ℕ → State) (meaning : IsMeaning Y push) where
    pub pushed-state : (u : List ℕ) (s : State) → IsState Y Y.base.rank s → AllBelow Y.base.rank u
        → IsState Y Y.base.rank (push_word push s u)
    pushed-state [] s h b = h
    pushed-state (i ∷ u) s h b = pushed-state u (push s i) (meaning.pushed s i h b.0).state b.1

    -- the state that a configuration leads to
    pub end-state : (c : Configuration) → AllBelow Y.base.rank c.word → IsNormal Y.base.prime Y.width c.row
        → IsState Y Y.base.rank (push_configuration Y push (identity Y Y.base.rank) c)
    end-state c b n =
        let h = pushed-state c.word (identity Y Y.base.rank) (identity-state Y Y.base.rank (omega arith)) b in
        record {
          exponents = h.exponents;
          row = row_sum-normal Y.base.prime Y.width (push_word push (identity Y Y.base.rank) c.word).row c.row (omega arith) h.row n;
        }

    pub end-joined : (c : Configuration) → AllBelow Y.base.rank c.word → IsNormal Y.base.prime Y.width c.row
        → Joined (flat Y) (word_of Y (push_configuration Y push (identity Y Y.base.rank) c)) (signed_word Y.base.rank c)
    end-joined c b n =
        let one : State = identity Y Y.base.rank in
        let s : State = push_word push one c.word in
        let h = pushed-state c.word one (identity-state Y Y.base.rank (omega arith)) b in
        let pushed : Joined (flat Y) (word_of Y (identity Y Y.base.rank) ++ letters c.word)
        (word_of Y (push_word push (identity Y Y.base.rank) c.word)) =
        push_word-joined Y rowed big push meaning c.word one (identity-state Y Y.base.rank (omega arith)) b in
        let pushed' : Joined (flat Y) (letters c.word) (word_of Y (push_word push (identity Y Y.base.rank) c.word)) =
        subst (λ (w : List ℤ). Joined (flat Y) (w ++ letters c.word) (word_of Y (push_word push (identity Y Y.base.rank) c.word)))
        (identity-word Y rowed big push meaning) pushed in
        let rows : Joined (flat Y) (word_from Y.base.rank s.row ++ word_from Y.base.rank c.row)
        (word_from Y.base.rank (row_sum Y.base.prime s.row c.row)) =
        row_words-add Y rowed s.row c.row h.row.count n.count in
        joined-trans (joined-append_left (letters (spelled 0 s.exponents)) (joined-sym rows))
        (joined-trans (joined-from_equal (flat Y)
        (sym (append_assoc (letters (spelled 0 s.exponents)) (word_from Y.base.rank s.row) (word_from Y.base.rank c.row))))
        (joined-append_right (word_from Y.base.rank c.row) (joined-sym pushed')))

    pub ways-joined : (o : Overlap) → IsOverlap Y.base.rank o
        → Joined (flat Y) (word_of Y (push_configuration Y push (identity Y Y.base.rank) (left_way Y o)))
        (word_of Y (push_configuration Y push (identity Y Y.base.rank) (right_way Y o)))
    ways-joined o h =
        let lb = left_way-below Y rowed big o h in
        let rb = right_way-below Y rowed big o h in
        joined-trans (end-joined (left_way Y o) lb (left_way-row o))
        (joined-trans (run-joined_flat Y rowed (omega arith) (ways-run o h) lb (left_way-row o))
        (joined-sym (end-joined (right_way Y o) rb (right_way-row o h))))

    pub ways-agree : IsConsistent (flat Y) → (o : Overlap) → IsOverlap Y.base.rank o
        → push_configuration Y push (identity Y Y.base.rank) (left_way Y o)
        ≡ push_configuration Y push (identity Y Y.base.rank) (right_way Y o)
    ways-agree consistent o h =
        states-unique Y rowed (omega arith) consistent (push_configuration Y push (identity Y Y.base.rank) (left_way Y o))
        (push_configuration Y push (identity Y Y.base.rank) (right_way Y o))
        (end-state (left_way Y o) (left_way-below Y rowed big o h) (left_way-row o))
        (end-state (right_way Y o) (right_way-below Y rowed big o h) (right_way-row o h)) (ways-joined o h)

    -- the exponents alone, in the base
    end-base : (c : Configuration) → AllBelow Y.base.rank c.word
        → Joined Y.base (letters c.word) (normal_word (push_configuration Y push (identity Y Y.base.rank) c).exponents)
    end-base c b =
        let one : State = identity Y Y.base.rank in
        let e : List ℕ = (push_word push one c.word).exponents in
        let nothing : state_word (identity Y Y.base.rank) ≡ [] = ap letters (spelled-zeros 0 Y.base.rank) in
        subst (λ (w : List ℤ). Joined Y.base (letters c.word) w) (letters-spelled 0 e)
        (subst (λ (w : List ℤ). Joined Y.base (w ++ letters c.word) (state_word (push_word push (identity Y Y.base.rank) c.word))) nothing
        (push_word-joined_base Y push meaning c.word one (identity-state Y Y.base.rank (omega arith)) b))

    pub ways-over_base : IsConsistent Y.base → (o : Overlap) → IsOverlap Y.base.rank o
        → SameUpToRow Y (push_configuration Y push (identity Y Y.base.rank) (left_way Y o))
        (push_configuration Y push (identity Y Y.base.rank) (right_way Y o))
    ways-over_base consistent o h =
        let lb = left_way-below Y rowed big o h in
        let rb = right_way-below Y rowed big o h in
        let x : State = push_configuration Y push (identity Y Y.base.rank) (left_way Y o) in
        let y : State = push_configuration Y push (identity Y Y.base.rank) (right_way Y o) in
        let xs = end-state (left_way Y o) lb (left_way-row o) in
        let ys = end-state (right_way Y o) rb (right_way-row o h) in
        let same : x.exponents ≡ y.exponents =
        consistent.unique x.exponents y.exponents xs.exponents ys.exponents
        (joined-trans (joined-sym (end-base (left_way Y o) lb))
        (joined-trans (run-joined Y (ways-run o h)) (end-base (right_way Y o) rb))) in
        record {
          exponents = same;
          rows =
              joined-cancel_left (letters (spelled 0 y.exponents)) (word_from Y.base.rank x.row) (word_from Y.base.rank y.row)
              (subst (λ (e : List ℕ). Joined (flat Y) (letters (spelled 0 e) ++ word_from Y.base.rank x.row) (word_of Y y)) same
              (ways-joined o h));
        }

pub consistent_overlaps_agree : ConsistentOverlapsAgree
consistent_overlaps_agree Y rowed consistent push meaning o h = ways-agree Y rowed rowed.base.prime push meaning consistent o h

pub overlaps_over_consistent_base : OverlapsOverConsistentBase
overlaps_over_consistent_base Y rowed consistent push meaning o h = ways-over_base Y rowed rowed.base.prime push meaning consistent o h
