-- Weights, definitions and new parts of the next answer: at the classes before they are those of the answer, and at its last
-- class the new part of a relation or an image is its row.
use Rattle.std.proofs.Common.{◌≡◌, ℕ, zero, suc, ◌+◌, ◌-◌, ◌<◌, ◌≤◌, ◌&&◌, eqb, List, [], ◌∷◌, ◌++◌, get_or, length, take, drop, refl, ap}
use Rattle.std.proofs.Common.{ap₂, sym, ◌∙◌, arith}
use Rattle.std.proofs.lemmas.List.{take_all, drop_at, get_or_append_left, get_or-append-add}
use Rattle.pq_base.specs.Presentation.{commutator_side, power_side}
use Rattle.pq_base.specs.Answer.{Answer, Definition as Source, class_of, weight_at, definition_at}
use Rattle.pq_base.specs.Answer.Definition.{image, commutator, power}
use Rattle.pq_base.specs.Canonical.{rank_up_to, new_exponents, new_part, is_qualifying, up_to_class, IsAllowed}
use Rattle.pc_presentation.specs.Rowed.{power_row, commutator_row}
use Rattle.pc_presentation.proofs.rows.FlatLaws.{power_side-flat, commutator_side-flat, get_or-followed_by}
use Rattle.p_cover.specs.RowedAnswer.{RowedAnswer, IsRowedAnswer, rowed, row_at}
use Rattle.pq_base.specs.EntryWords.{IsSourceOf}
use Rattle.p_cover.specs.CoverLaws.{IsSource}
use Rattle.cover_quotient.specs.NextAnswer.{next_answer}
use Rattle.cover_quotient.proofs.canonical_answers.ClassesByWeight.{counts-grow, rank-within}
use Rattle.pq_base.proofs.LastWeights.{weight-before, weight-new}
use Rattle.pq_base.proofs.NormalLists.{normal-entry}

-- a part of the first of two lists
take-first : (c : ℕ) (e x : List ℕ) → c ≤ length e → take c (e ++ x) ≡ take c e
take-first zero e x h = refl
take-first (suc c) [] x h = absurd (omega arith)
take-first (suc c) (y ∷ e) x h = ap (λ (l : List ℕ). y ∷ l) (take-first c e x (omega arith))

part-first : (d c : ℕ) (e x : List ℕ) → d + c ≤ length e → take c (drop d (e ++ x)) ≡ take c (drop d e)
part-first zero c e x h = take-first c e x (omega arith)
part-first (suc d) c [] x h = absurd (omega arith)
part-first (suc d) c (y ∷ e) x h = part-first d c e x (omega arith)

module _ (Y : RowedAnswer) (is : IsRowedAnswer Y) (sources : List Source) where
  abbrev A : Answer
  A = Y.answer

  abbrev N : Answer
  N = next_answer Y sources

  abbrev n : ℕ
  n = Y.answer.presentation.rank

  pub old-weight : (l : ℕ) → l < Y.answer.presentation.rank → weight_at (next_answer Y sources) l ≡ weight_at Y.answer l
  old-weight l b =
      let count : length Y.answer.weights ≡ Y.answer.presentation.rank = is.answer.weight_count in
      weight-before Y.answer.weights (suc (class_of Y.answer)) Y.width l (omega arith)

  pub new-weight : (t : ℕ) → t < Y.width → weight_at (next_answer Y sources) (Y.answer.presentation.rank + t) ≡ suc (class_of Y.answer)
  new-weight t l =
      ap (λ (m : ℕ). weight_at (next_answer Y sources) (m + t)) (sym is.answer.weight_count)
      ∙ weight-new Y.answer.weights (suc (class_of Y.answer)) Y.width t l

  pub old-definition : (l : ℕ) → l < Y.answer.presentation.rank → definition_at (next_answer Y sources) l ≡ definition_at Y.answer l
  old-definition l b =
      let count : length Y.answer.definitions ≡ Y.answer.presentation.rank = is.answer.definition_count in
      get_or_append_left Y.answer.definitions sources (image 0) l (omega arith)

  pub new-definition : (t : ℕ) → definition_at (next_answer Y sources) (Y.answer.presentation.rank + t) ≡ get_or sources t (image 0)
  new-definition t =
      ap (λ (m : ℕ). definition_at (next_answer Y sources) (m + t)) (sym is.answer.definition_count)
      ∙ get_or-append-add Y.answer.definitions sources t (image 0)

  -- the same relations qualify
  qualifying-same : (k : ℕ) (d : Source) → IsSourceOf A d → is_qualifying N k d ≡ is_qualifying A k d
  qualifying-same k (image i) s = refl
  qualifying-same k (commutator zero i) s = absurd s
  qualifying-same k (commutator (suc j) zero) s = absurd s
  qualifying-same k (commutator (suc j) (suc i)) s =
      let last : j < Y.answer.presentation.rank = s.0 in
      let before : i < j = s.1 in
      ap₂ (λ (a b : ℕ). eqb a k && eqb b 1) (old-weight j last) (old-weight i (omega arith))
  qualifying-same k (power zero) s = absurd s
  qualifying-same k (power (suc j)) s = ap (λ (a : ℕ). eqb a k) (old-weight j s)

  pub allowed-same : (k : ℕ) (d : Source) → IsSourceOf Y.answer d → IsAllowed Y.answer k d → IsAllowed (next_answer Y sources) k d
  allowed-same zero (image i) s h = tt
  allowed-same zero (commutator j i) s h = absurd h
  allowed-same zero (power j) s h = absurd h
  allowed-same (suc k) d s h = qualifying-same (suc k) d s ∙ h

  -- at a class before
  module _ (k : ℕ) (start : rank_up_to (next_answer Y sources) k ≡ rank_up_to Y.answer k)
      (stop : rank_up_to (next_answer Y sources) (suc k) ≡ rank_up_to Y.answer (suc k)) where
    exponents-same : (i : ℕ) (e x : List ℕ) → i ≤ rank_up_to A k → i + length e ≡ n → new_exponents N k i (e ++ x) ≡ new_exponents A k i e
    exponents-same i e x b c =
        let fits = rank-within Y.answer is.answer (suc k) in
        let grows = counts-grow k Y.answer.weights in
        ap₂ (λ (a b : ℕ). take (b - a) (drop (a - i) (e ++ x))) start stop
        ∙ part-first (rank_up_to Y.answer k - i) (rank_up_to Y.answer (suc k) - rank_up_to Y.answer k) e x (omega arith)

    pub part-same : (d : Source) → IsSource (up_to_class Y.answer k) d → new_part (next_answer Y sources) k d ≡ new_part Y.answer k d
    part-same (image zero) s = refl
    part-same (image (suc i)) s =
        let within : suc i ≤ length Y.answer.names = s.1 in
        let count : length Y.answer.images ≡ length Y.answer.names = is.answer.image_count in
        let long =
        (normal-entry Y.answer.presentation.prime Y.answer.presentation.rank Y.answer.images i is.answer.images (omega arith)).count in
        ap (new_exponents N k 0) (get_or-followed_by Y.answer.images Y.image_rows i (is.answer.image_count ∙ sym is.image_count))
        ∙ exponents-same 0 (get_or Y.answer.images i []) (get_or Y.image_rows i []) (omega arith) (omega arith)
    part-same (commutator zero i) s = refl
    part-same (commutator (suc j) zero) s = refl
    part-same (commutator (suc j) (suc i)) s =
        let before : suc i < suc j = s.1 in
        let last : suc j ≤ rank_up_to Y.answer k = s.2 in
        let fits = rank-within Y.answer is.answer k in
        ap (new_exponents N k (suc j)) (commutator_side-flat (rowed Y) is.presentation j i (omega arith))
        ∙ exponents-same (suc j) (commutator_side Y.answer.presentation j i) (commutator_row (rowed Y) j i) last
        (is.answer.presentation.commutator_sides j i (omega arith) (omega arith)).count
    part-same (power zero) s = refl
    part-same (power (suc j)) s =
        let last : suc j ≤ rank_up_to Y.answer k = s.1 in
        let fits = rank-within Y.answer is.answer k in
        ap (new_exponents N k (suc j)) (power_side-flat (rowed Y) is.presentation j (omega arith))
        ∙ exponents-same (suc j) (power_side Y.answer.presentation j) (power_row (rowed Y) j) last
        (is.answer.presentation.power_sides j (omega arith)).count

  -- at the last class
  module _ (k : ℕ) (start : rank_up_to (next_answer Y sources) k ≡ Y.answer.presentation.rank)
      (stop : rank_up_to (next_answer Y sources) (suc k) ≡ Y.answer.presentation.rank + Y.width) where
    exponents-row : (i : ℕ) (e x : List ℕ) → i + length e ≡ n → length x ≡ Y.width → new_exponents N k i (e ++ x) ≡ x
    exponents-row i e x c d =
        let many : (Y.answer.presentation.rank + Y.width) - Y.answer.presentation.rank ≡ Y.width = omega arith in
        ap₂ (λ (a b : ℕ). take (b - a) (drop (a - i) (e ++ x))) start stop
        ∙ ap₂ (λ (a : ℕ) (l : List ℕ). take a l) many (drop_at e x (Y.answer.presentation.rank - i) (omega arith))
        ∙ take_all Y.width x (omega arith)

    pub part-row : (d : Source) → IsSourceOf Y.answer d → new_part (next_answer Y sources) k d ≡ row_at Y d
    part-row (image zero) s = absurd s
    part-row (image (suc i)) s =
        let rows : length Y.image_rows ≡ length Y.answer.images = is.image_count ∙ sym is.answer.image_count in
        let long = (normal-entry Y.answer.presentation.prime Y.answer.presentation.rank Y.answer.images i is.answer.images s).count in
        ap (new_exponents N k 0) (get_or-followed_by Y.answer.images Y.image_rows i (sym rows))
        ∙ exponents-row 0 (get_or Y.answer.images i []) (get_or Y.image_rows i []) (omega arith)
        (normal-entry Y.answer.presentation.prime Y.width Y.image_rows i is.image_rows (omega arith)).count
    part-row (commutator zero i) s = absurd s
    part-row (commutator (suc j) zero) s = absurd s
    part-row (commutator (suc j) (suc i)) s =
        ap (new_exponents N k (suc j)) (commutator_side-flat (rowed Y) is.presentation j i s.0)
        ∙ exponents-row (suc j) (commutator_side Y.answer.presentation j i) (commutator_row (rowed Y) j i)
        (is.answer.presentation.commutator_sides j i s.0 s.1).count (is.presentation.commutator_rows j i s.0 s.1).count
    part-row (power zero) s = absurd s
    part-row (power (suc j)) s =
        ap (new_exponents N k (suc j)) (power_side-flat (rowed Y) is.presentation j s)
        ∙ exponents-row (suc j) (power_side Y.answer.presentation j) (power_row (rowed Y) j)
        (is.answer.presentation.power_sides j s).count (is.presentation.power_rows j s).count
