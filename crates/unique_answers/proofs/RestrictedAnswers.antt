-- Cut to a class, a canonical answer is canonical: right sides are parts of those before, and at each class that stays the same entries
-- define the same generators, with the same new parts.
use Rattle.std.proofs.Common.{◌≡◌, ◌≢◌, ℕ, zero, suc, ◌+◌, ◌-◌, ◌<◌, ◌≤◌, ◌&&◌, eqb, List, [], ◌∷◌, get_or, length, take, drop, inl, inr}
use Rattle.std.proofs.Common.{refl, ap, ap₂, sym, ◌∙◌, subst, arith}
use Rattle.std.specs.List.{All}
use Rattle.std.proofs.lemmas.List.Elements.{All-head, All-tail}
use Rattle.pq_base.specs.Presentation.{power_side, commutator_side}
use Rattle.pq_base.specs.Answer.{Answer, Definition, IsAnswer, weight_at, definition_at}
use Rattle.pq_base.specs.Answer.Definition.{image, commutator, power}
use Rattle.pq_base.specs.Canonical.{rank_up_to, new_count, new_exponents, new_part, unit, is_qualifying, want_order, up_to_class, IsAllowed}
use Rattle.pq_base.specs.Canonical.{DefinesNext, DefinesNone, AreMet, ObeysWeights, TakesTurns}
use Rattle.pq_base.specs.EntryWords.{IsSourceOf}
use Rattle.cover_quotient.proofs.canonical_answers.ClassesByWeight.{rank-within, counts-grow}
use Rattle.unique_answers.specs.UniqueLaws.{RestrictionsAreCanonical}
use Rattle.unique_answers.proofs.unique.ListParts.{take-drop_take, entry-taken}
use Rattle.unique_answers.proofs.unique.CutParts.{cut-weight, cut-definition, cut-image, cut-power_side, cut-commutator_side}
use Rattle.unique_answers.proofs.unique.CutAnswers.{cut-answer, cut-entries}
use Rattle.unique_answers.proofs.unique.CutClasses.{cut-class, cut-class_no_more, cut-twice, cut-rank}

module _ (A : Answer) (is : IsAnswer A) (k : ℕ) where
  abbrev N : Answer
  N = up_to_class A k

  abbrev n : ℕ
  n = rank_up_to A k

  -- right sides
  cut-obeys : ObeysWeights A → ObeysWeights (up_to_class A k)
  cut-obeys obeys = record {
    commutators = λ j i m l b other.
        let fits = rank-within A is k in
        let entry : get_or (take (n - suc j) (commutator_side A.presentation j i)) m 0 ≢ 0 =
        subst (λ (e : List ℕ). get_or e m 0 ≢ 0) (cut-commutator_side A is k j i l) other in
        let stays = entry-taken (n - suc j) m (commutator_side A.presentation j i) entry in
        let room : m < n - suc j = stays.0 in
        let whole : weight_at A j + weight_at A i ≤ weight_at A (suc j + m) = obeys.commutators j i m (omega arith) b stays.1 in
        let first = cut-weight A is k j l in
        let second = cut-weight A is k i (omega arith) in
        let last = cut-weight A is k (suc j + m) (omega arith) in
        omega arith;
    powers = λ i m l other.
        let fits = rank-within A is k in
        let entry : get_or (take (n - suc i) (power_side A.presentation i)) m 0 ≢ 0 =
        subst (λ (e : List ℕ). get_or e m 0 ≢ 0) (cut-power_side A is k i l) other in
        let stays = entry-taken (n - suc i) m (power_side A.presentation i) entry in
        let room : m < n - suc i = stays.0 in
        let whole : suc (weight_at A i) ≤ weight_at A (suc i + m) = obeys.powers i m (omega arith) stays.1 in
        let first = cut-weight A is k i l in
        let last = cut-weight A is k (suc i + m) (omega arith) in
        omega arith;
  }

  -- turns at a class that stays
  module _ (j : ℕ) (below : suc j ≤ k) where
    start : rank_up_to (up_to_class A k) j ≡ rank_up_to A j
    start = cut-rank A is k j (omega arith)

    stop : rank_up_to (up_to_class A k) (suc j) ≡ rank_up_to A (suc j)
    stop = cut-rank A is k (suc j) below

    same-count : new_count N j ≡ new_count A j
    same-count = ap₂ (λ (a b : ℕ). a - b) stop start

    inside : rank_up_to A (suc j) ≤ n
    inside = let fits = rank-within N (cut-answer A is k) (suc j) in let same = stop in omega arith

    grown : rank_up_to A j ≤ rank_up_to A (suc j)
    grown = counts-grow j A.weights

    same-definition : (g : ℕ) → g < new_count A j → definition_at N (rank_up_to N j + g) ≡ definition_at A (rank_up_to A j + g)
    same-definition g l =
        let fits = inside in
        let grows = grown in
        ap (λ (r : ℕ). definition_at (up_to_class A k) (r + g)) start
        ∙ cut-definition A is k (rank_up_to A j + g) (omega arith)

    exponents-same : (s r : ℕ) (e : List ℕ) → s + r ≡ n → s ≤ rank_up_to A j → new_exponents N j s (take r e) ≡ new_exponents A j s e
    exponents-same s r e p b =
        let fits = inside in
        let grows = grown in
        ap₂ (λ (a c : ℕ). take (c - a) (drop (a - s) (take r e))) start stop
        ∙ take-drop_take (rank_up_to A (suc j) - rank_up_to A j) (rank_up_to A j - s) r e (omega arith)

    part-same : (d : Definition) → IsSourceOf (up_to_class A j) d → new_part N j d ≡ new_part A j d
    part-same (image zero) h = absurd h
    part-same (image (suc i)) h =
        ap (new_exponents N j 0) (cut-image A is k i (images-many i h))
        ∙ exponents-same 0 n (get_or A.images i []) (omega arith) (omega arith)
      where
        images-many : (i : ℕ) → i < length (up_to_class A j).images → i < length A.images
        images-many i l = let cut = (cut-answer A is j).image_count in let whole = is.image_count in omega arith
    part-same (commutator zero i) h = absurd h
    part-same (commutator (suc l) zero) h = absurd h
    part-same (commutator (suc l) (suc i)) h =
        let fits = inside in
        let grows = grown in
        let last : l < rank_up_to A j = h.0 in
        ap (new_exponents N j (suc l)) (cut-commutator_side A is k l i (omega arith))
        ∙ exponents-same (suc l) (n - suc l) (commutator_side A.presentation l i) (omega arith) (omega arith)
    part-same (power zero) h = absurd h
    part-same (power (suc l)) h =
        let fits = inside in
        let grows = grown in
        let last : l < rank_up_to A j = h in
        ap (new_exponents N j (suc l)) (cut-power_side A is k l (omega arith))
        ∙ exponents-same (suc l) (n - suc l) (power_side A.presentation l) (omega arith) (omega arith)

    light-weight : (l : ℕ) → l < rank_up_to A j → weight_at N l ≡ weight_at A l
    light-weight l b = let fits = inside in let grows = grown in cut-weight A is k l (omega arith)

    qualifying-same : (c : ℕ) (d : Definition) → IsSourceOf (up_to_class A j) d → is_qualifying N c d ≡ is_qualifying A c d
    qualifying-same c (image i) h = refl
    qualifying-same c (commutator zero i) h = absurd h
    qualifying-same c (commutator (suc l) zero) h = absurd h
    qualifying-same c (commutator (suc l) (suc i)) h =
        let last : l < rank_up_to A j = h.0 in
        let before : i < l = h.1 in
        ap₂ (λ (a b : ℕ). eqb a c && eqb b 1) (light-weight l last) (light-weight i (omega arith))
    qualifying-same c (power zero) h = absurd h
    qualifying-same c (power (suc l)) h = ap (λ (a : ℕ). eqb a c) (light-weight l h)

    allowed-same : (c : ℕ) (d : Definition) → IsSourceOf (up_to_class A j) d → IsAllowed A c d → IsAllowed N c d
    allowed-same zero (image i) s h = tt
    allowed-same zero (commutator l i) s h = absurd h
    allowed-same zero (power l) s h = absurd h
    allowed-same (suc c) d s h = qualifying-same (suc c) d s ∙ h

    defines-next : (met : ℕ) (d : Definition) → IsSourceOf (up_to_class A j) d → DefinesNext A j met d → DefinesNext N j met d
    defines-next met d s h =
        let count = same-count in
        let room = h.one_left in
        record {
          one_left = omega arith;
          defined = same-definition met h.one_left ∙ h.defined;
          new_generator = part-same d s ∙ h.new_generator ∙ ap (λ (c : ℕ). unit c met) (sym same-count);
          allowed = allowed-same j d s h.allowed;
        }

    defines-none : (met : ℕ) (d : Definition) → IsSourceOf (up_to_class A j) d → DefinesNone A j met d → DefinesNone N j met d
    defines-none met d s h = record {
      none_defined = λ g l e.
          let count = same-count in
          let room : g < new_count A j = omega arith in
          h.none_defined g room (sym (same-definition g room) ∙ e);
      met_alone = λ g l. ap (λ (x : List ℕ). get_or x g 0) (part-same d s) ∙ h.met_alone g l;
    }

    met-kept : (met : ℕ) (ds : List Definition) → All (IsSourceOf (up_to_class A j)) ds → AreMet A j met ds → AreMet N j met ds
    met-kept met [] all h = h ∙ sym same-count
    met-kept met (d ∷ ds) all (inl h) =
        let source = All-head (IsSourceOf (up_to_class A j)) d ds all in
        let rest = All-tail (IsSourceOf (up_to_class A j)) d ds all in
        inl (defines-next met d source h.0, met-kept (suc met) ds rest h.1)
    met-kept met (d ∷ ds) all (inr h) =
        let source = All-head (IsSourceOf (up_to_class A j)) d ds all in
        let rest = All-tail (IsSourceOf (up_to_class A j)) d ds all in
        inr (defines-none met d source h.0, met-kept met ds rest h.1)

  cut-turns : TakesTurns A → TakesTurns (up_to_class A k)
  cut-turns turns j l =
      let within = cut-class A is k in
      let no_more = cut-class_no_more A is k in
      let below : suc j ≤ k = omega arith in
      subst (λ (B : Answer). AreMet (up_to_class A k) j 0 (want_order B j)) (sym (cut-twice A is k j (omega arith)))
      (met-kept j below 0 (want_order (up_to_class A j) j) (cut-entries A is j j) (turns j (omega arith)))

pub restrictions_are_canonical : RestrictionsAreCanonical
restrictions_are_canonical A is canonical k = record {
  weights = cut-obeys A is k canonical.weights;
  turns = cut-turns A is k canonical.turns;
}
