-- The next answer obeys the weights where the answer does and the tails of heavy commutators are in the span: new generators
-- have the greatest weight, and a heavy commutator has row zero.
use Rattle.std.proofs.Common.{◌≡◌, ◌≢◌, ℕ, suc, ◌+◌, ◌-◌, ◌<◌, ◌≤◌, List, ◌++◌, get_or, length, replicate, inl, inr, ap, sym, ◌∙◌, arith}
use Rattle.std.proofs.lemmas.Bool.{cases_lt}
use Rattle.std.proofs.lemmas.List.{get_or_append_left, get_or-append-add, get_or_past}
use Rattle.pq_base.specs.Presentation.{commutator_side, power_side}
use Rattle.pq_base.specs.Answer.{Answer, Definition as Source, class_of, weight_at}
use Rattle.pq_base.specs.Canonical.{ObeysWeights}
use Rattle.pq_base.proofs.UnitLaws.{get_or-zeros}
use Rattle.pc_presentation.specs.Rowed.{RowedPresentation, power_row, commutator_row, flat}
use Rattle.pc_presentation.proofs.rows.FlatLaws.{power_side-flat, power_side-tail, commutator_side-flat, commutator_side-tail}
use Rattle.p_cover.specs.RowedAnswer.{RowedAnswer, IsRowedAnswer, rowed}
use Rattle.cover_quotient.specs.NextAnswer.{next_answer}
use Rattle.pq_base.proofs.LastWeights.{weights-within_class}
use Rattle.cover_quotient.proofs.next_answers.NextEntries.{old-weight, new-weight}

module _ (Y : RowedAnswer) (is : IsRowedAnswer Y) (sources : List Source) (obeys : ObeysWeights Y.answer)
    (heavy : (j i : ℕ) → j < Y.answer.presentation.rank → i < j → suc (class_of Y.answer) < weight_at Y.answer j + weight_at Y.answer i
    → commutator_row (rowed Y) j i ≡ replicate Y.width 0) where
  abbrev A : Answer
  A = Y.answer

  abbrev N : Answer
  N = next_answer Y sources

  abbrev n : ℕ
  n = Y.answer.presentation.rank

  abbrev Z : RowedPresentation
  Z = rowed Y

  -- a place of a list of exponents followed by a row
  old-entry : (e x : List ℕ) (m : ℕ) → m < length e → get_or (e ++ x) m 0 ≡ get_or e m 0
  old-entry e x m l = get_or_append_left e x 0 m l

  row-entry : (e x : List ℕ) (m : ℕ) → length e ≤ m → get_or (e ++ x) m 0 ≡ get_or x (m - length e) 0
  row-entry e x m l =
      let place : m ≡ length e + (m - length e) = omega arith in
      ap (λ (i : ℕ). get_or (e ++ x) i 0) place ∙ get_or-append-add e x (m - length e) 0

  -- the weight of a generator that a row names
  row-weight : (l m : ℕ) (e x : List ℕ) → suc l + length e ≡ n → length x ≡ Y.width → length e ≤ m → get_or x (m - length e) 0 ≢ 0
      → weight_at N (suc l + m) ≡ suc (class_of A)
  row-weight l m e x c d b other = elim (cases_lt (m - length e) Y.width) [
    | inl inside ↦
        let place : n + (m - length e) ≡ suc l + m = omega arith in
        ap (weight_at N) (sym place) ∙ new-weight Y is sources (m - length e) inside
    | inr beyond ↦ absurd (other (get_or_past x (m - length e) 0 (omega arith)))
  ]

  old-commutator : (j i m : ℕ) → j < n → i < j → get_or (commutator_side A.presentation j i ++ commutator_row Z j i) m 0 ≢ 0
      → weight_at N j + weight_at N i ≤ weight_at N (suc j + m)
  old-commutator j i m l b other =
      let e : List ℕ = commutator_side Y.answer.presentation j i in
      let x : List ℕ = commutator_row (rowed Y) j i in
      let long : suc j + length (commutator_side Y.answer.presentation j i) ≡ Y.answer.presentation.rank =
      (is.answer.presentation.commutator_sides j i l b).count in
      let wide : length (commutator_row (rowed Y) j i) ≡ Y.width = (is.presentation.commutator_rows j i l b).count in
      let first = old-weight Y is sources j l in
      let second = old-weight Y is sources i (omega arith) in
      elim (cases_lt m (length (commutator_side Y.answer.presentation j i))) [
        | inl inside ↦
            let same : get_or (e ++ x) m 0 ≡ get_or e m 0 = old-entry e x m inside in
            let more = obeys.commutators j i m l b (λ none. other (same ∙ none)) in
            let third = old-weight Y is sources (suc j + m) (omega arith) in
            omega arith
        | inr beyond ↦
            let entry : get_or (e ++ x) m 0 ≡ get_or x (m - length e) 0 = row-entry e x m (omega arith) in
            let third = row-weight j m e x long wide (omega arith) (λ none. other (entry ∙ none)) in
            elim (cases_lt (suc (class_of A)) (weight_at A j + weight_at A i)) [
              | inl above ↦
                  absurd
                  (other (entry ∙ ap (λ (y : List ℕ). get_or y (m - length (commutator_side Y.answer.presentation j i)) 0)
                  (heavy j i l b above)
                  ∙ get_or-zeros Y.width (m - length (commutator_side Y.answer.presentation j i))))
              | inr light ↦ omega arith
            ]
      ]

  old-power : (l m : ℕ) → l < n → get_or (power_side A.presentation l ++ power_row Z l) m 0 ≢ 0
      → suc (weight_at N l) ≤ weight_at N (suc l + m)
  old-power l m b other =
      let e : List ℕ = power_side Y.answer.presentation l in
      let x : List ℕ = power_row (rowed Y) l in
      let long : suc l + length (power_side Y.answer.presentation l) ≡ Y.answer.presentation.rank =
      (is.answer.presentation.power_sides l b).count in
      let wide : length (power_row (rowed Y) l) ≡ Y.width = (is.presentation.power_rows l b).count in
      let first = old-weight Y is sources l b in
      elim (cases_lt m (length (power_side Y.answer.presentation l))) [
        | inl inside ↦
            let same : get_or (e ++ x) m 0 ≡ get_or e m 0 = old-entry e x m inside in
            let more = obeys.powers l m b (λ none. other (same ∙ none)) in
            let third = old-weight Y is sources (suc l + m) (omega arith) in
            omega arith
        | inr beyond ↦
            let entry : get_or (e ++ x) m 0 ≡ get_or x (m - length e) 0 = row-entry e x m (omega arith) in
            let third = row-weight l m e x long wide (omega arith) (λ none. other (entry ∙ none)) in
            let most = weights-within_class Y.answer is.answer l b in
            omega arith
      ]

  -- relations of the new generators have empty right sides
  new-commutator : (j i m : ℕ) → n ≤ j → j < n + Y.width → i < j → get_or (commutator_side N.presentation j i) m 0 ≡ 0
  new-commutator j i m a b c =
      let t : ℕ = j - Y.answer.presentation.rank in
      let r : ℕ = (Y.answer.presentation.rank + Y.width) - suc j in
      let place : j ≡ Y.answer.presentation.rank + (j - Y.answer.presentation.rank) = omega arith in
      ap (λ (l : ℕ). get_or (commutator_side (flat (rowed Y)) l i) m 0) place
      ∙ ap (λ (e : List ℕ). get_or e m 0) (commutator_side-tail Z is.presentation t r i (omega arith) (omega arith)) ∙ get_or-zeros r m

  new-power : (l m : ℕ) → n ≤ l → l < n + Y.width → get_or (power_side N.presentation l) m 0 ≡ 0
  new-power l m a b =
      let t : ℕ = l - Y.answer.presentation.rank in
      let r : ℕ = (Y.answer.presentation.rank + Y.width) - suc l in
      let place : l ≡ Y.answer.presentation.rank + (l - Y.answer.presentation.rank) = omega arith in
      ap (λ (j : ℕ). get_or (power_side (flat (rowed Y)) j) m 0) place
      ∙ ap (λ (e : List ℕ). get_or e m 0) (power_side-tail Z is.presentation t r (omega arith)) ∙ get_or-zeros r m

  pub next-obeys : ObeysWeights (next_answer Y sources)
  next-obeys = record {
    commutators = λ j i m l b other. elim (cases_lt j n) [
      | inl old ↦
          old-commutator j i m old b
          (λ none. other (ap (λ (e : List ℕ). get_or e m 0) (commutator_side-flat (rowed Y) is.presentation j i old) ∙ none))
      | inr new ↦ absurd (other (new-commutator j i m (omega arith) l b))
    ];
    powers = λ i m l other. elim (cases_lt i n) [
      | inl old ↦
          old-power i m old (λ none. other (ap (λ (e : List ℕ). get_or e m 0) (power_side-flat (rowed Y) is.presentation i old) ∙ none))
      | inr new ↦ absurd (other (new-power i m (omega arith) l))
    ];
  }
