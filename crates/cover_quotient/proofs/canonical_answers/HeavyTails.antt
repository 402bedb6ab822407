-- Over an answer that is canonical, a generator of weight w lies in level w - 1 of the flat reading, since its definition has
-- a generator of weight w - 1. So a commutator of generators whose weights have a sum above the class and one is trivial there,
-- and its row with it. The answer need not be consistent.
use Rattle.std.proofs.Common.{◌≡◌, ◌≢◌, ℕ, zero, suc, ◌+◌, ◌-◌, ◌<◌, ◌≤◌, Bool, true, false, ◌&&◌, eqb, ℤ, List, [], ◌∷◌, ◌++◌, get_or}
use Rattle.std.proofs.Common.{length, replicate, inl, inr, refl, ap, sym, ◌∙◌, ⊎_elim, subst, arith}
use Rattle.std.proofs.lemmas.Bool.{cases_lt, cases_eq, eqb-true, false≢true}
use Rattle.std.proofs.lemmas.List.{append-nil}
use Rattle.pq_base.specs.SignedWord.{copies, comm, HasLetters}
use Rattle.pq_base.specs.Presentation.{Presentation, IsPresentation, letter, word_from, commutator_side, power_word, commutator_word}
use Rattle.pq_base.specs.Joined.{Joined}
use Rattle.pq_base.specs.Series.{InSeries, HasClass}
use Rattle.pq_base.specs.Answer.{Answer, Definition as Source, IsAnswer, AreWeights, HasDefinition, last_or_zero, class_of, weight_at}
use Rattle.pq_base.specs.Answer.{definition_at}
use Rattle.pq_base.specs.Answer.Definition.{image, commutator, power}
use Rattle.pq_base.specs.Canonical.{rank_up_to, new_count, want_order, up_to_class, is_qualifying, IsAllowed, AreMet, IsCanonical}
use Rattle.pq_base.proofs.words.WordLaws.{word_from-zeros}
use Rattle.pq_base.proofs.words.LetterLaws.{HasLetters-letter}
use Rattle.pq_base.proofs.words.JoinedLaws.{joined-sym, joined-trans}
use Rattle.pq_base.proofs.SeriesLaws.{series-comm, series-power, series-joined, series-fall}
use Rattle.pc_presentation.specs.Rowed.{RowedPresentation, power_row, commutator_row, flat}
use Rattle.pc_presentation.proofs.rows.FlatLaws.{flat-presentation}
use Rattle.p_cover.specs.RowedAnswer.{RowedAnswer, IsRowedAnswer, rowed, row_at}
use Rattle.p_cover.specs.Covers.{rowed_cover}
use Rattle.pc_presentation.proofs.rows.FlatWords.{power-with_row, commutator-with_row}
use Rattle.pc_presentation.proofs.rows.RowedClass.{classes_grow_by_one_with_rows}
use Rattle.p_cover.proofs.CoverRows.{covers_are_rowed_answers}
use Rattle.cover_quotient.specs.CanonicalAnswerLaws.{HeavyTailsAreTrivial}
use Rattle.pq_base.proofs.Restrictions.{restrictions_are_whole}
use Rattle.cover_quotient.proofs.canonical_answers.ClassesByWeight.{weights-counted, word_from-zero, weights-class}
use Rattle.pq_base.proofs.groups.LevelCommutators.{commutators_of_levels}
use Rattle.pq_base.proofs.LastWeights.{weights-within_class}
use Rattle.pq_base.proofs.WeightLaws.{weights-least, weights-past_count}

-- each generator of weight k + 1 is defined by an entry that is allowed
pub met-allowed : (A : Answer) (k met : ℕ) (ds : List Source) → AreMet A k met ds → (g : ℕ) → met ≤ g → g < new_count A k
    → IsAllowed A k (definition_at A (rank_up_to A k + g))
met-allowed A k met [] h g a b = absurd (omega arith)
met-allowed A k met (d ∷ ds) (inl h) g a b =
    ⊎_elim
    (λ (same : met ≡ g).
    subst (λ (i : ℕ). IsAllowed A k (definition_at A (rank_up_to A k + i))) same
    (subst (λ (e : Source). IsAllowed A k e) (sym h.0.defined) h.0.allowed))
    (λ (other : met ≢ g). met-allowed A k (suc met) ds h.1 g (omega arith) b)
    (cases_eq met g)
met-allowed A k met (d ∷ ds) (inr h) g a b = met-allowed A k met ds h.1 g a b

both-true : (a b : Bool) → a && b ≡ true → (a ≡ true) × (b ≡ true)
both-true true b e = (refl, e)
both-true false b e = absurd (false≢true e)

-- a generator of weight k + 1
pub allowed-at : (A : Answer) → IsAnswer A → IsCanonical A → (l k : ℕ) → l < A.presentation.rank → weight_at A l ≡ suc k
    → IsAllowed A k (definition_at A l)
allowed-at A is canonical l k b w =
    let count : length A.weights ≡ A.presentation.rank = is.weight_count in
    let most = weights-within_class A is l b in
    let low : rank_up_to A k ≤ l = elim (cases_lt l (rank_up_to A k)) [
      | inl before ↦ let light = weights-counted 1 k A.weights is.weights l before in absurd (omega arith)
      | inr after ↦ omega arith
    ] in
    let high : l < rank_up_to A (suc k) = elim (cases_lt l (rank_up_to A (suc k))) [
      | inl before ↦ before
      | inr after ↦ let heavy = weights-past_count 1 (suc k) A.weights is.weights l (omega arith) (omega arith) in absurd (omega arith)
    ] in
    let place : rank_up_to A k + (l - rank_up_to A k) ≡ l = omega arith in
    subst (λ (i : ℕ). IsAllowed A k (definition_at A i)) place
    (met-allowed A k 0 (want_order (up_to_class A k) k) (canonical.turns k (omega arith)) (l - rank_up_to A k) (omega arith) (omega arith))

module _ (Y : RowedAnswer) (is : IsRowedAnswer Y) (canonical : IsCanonical Y.answer) where
  abbrev A : Answer
  A = Y.answer

  abbrev P : Presentation
  P = Y.answer.presentation

  abbrev Z : RowedPresentation
  Z = rowed Y

  abbrev F : Presentation
  F = flat (rowed Y)

  abbrev n : ℕ
  n = Y.answer.presentation.rank

  letter-in : (l : ℕ) → l < n → HasLetters (Y.answer.presentation.rank + Y.width) (letter l)
  letter-in l b = HasLetters-letter (Y.answer.presentation.rank + Y.width) l (omega arith)

  zero_row : (w : List ℤ) (x : List ℕ) → x ≡ replicate Y.width 0 → w ++ word_from n x ≡ w
  zero_row w x e =
      ap (λ (y : List ℕ). w ++ word_from Y.answer.presentation.rank y) e
      ∙ ap (λ (y : List ℤ). w ++ y) (word_from-zeros Y.answer.presentation.rank Y.width) ∙ append-nil w

  -- a generator of weight k + 2 whose definition is allowed, where the generators before it of weight k + 1 are in level k
  defined-level : (l k : ℕ) (d : Source) → l < n → ((j : ℕ) → j < l → weight_at A j ≡ suc k → InSeries F k (letter j))
      → HasDefinition A l d → row_at Y d ≡ replicate Y.width 0 → is_qualifying A (suc k) d ≡ true → InSeries F (suc k) (letter l)
  defined-level l k (image i) b before h r q = absurd (false≢true q)
  defined-level l k (commutator zero i) b before h r q = absurd h
  defined-level l k (commutator (suc s) zero) b before h r q = absurd h
  defined-level l k (commutator (suc s) (suc t)) b before h r q =
      let below : t < s = h.1 in
      let first : s < l = h.2 in
      let weight : weight_at A s ≡ suc k =
      eqb-true (weight_at A s) (suc k) (both-true (eqb (weight_at A s) (suc k)) (eqb (weight_at A t) 1) q).0 in
      let side : commutator_word Y.answer.presentation s t ++ word_from Y.answer.presentation.rank (commutator_row (rowed Y) s t)
      ≡ letter l =
      zero_row (commutator_word P s t) (commutator_row Z s t) r ∙ h.3 in
      let relation : Joined F (comm (letter s) (letter t)) (letter l) =
      subst (λ (u : List ℤ). Joined F (comm (letter s) (letter t)) u) side
      (commutator-with_row Z is.presentation s t (omega arith) below) in
      series-joined F k (comm (letter s) (letter t)) (letter l) relation (letter-in l b)
      (series-comm F k (letter s) (letter t) (before s first weight) (letter-in t (omega arith)))
  defined-level l k (power zero) b before h r q = absurd h
  defined-level l k (power (suc s)) b before h r q =
      let first : s < l = h.1 in
      let weight : weight_at A s ≡ suc k = eqb-true (weight_at A s) (suc k) q in
      let side : power_word Y.answer.presentation s ++ word_from Y.answer.presentation.rank (power_row (rowed Y) s) ≡ letter l =
      zero_row (power_word P s) (power_row Z s) r ∙ h.2 in
      let relation : Joined F (copies (letter s) P.prime) (letter l) =
      subst (λ (u : List ℤ). Joined F (copies (letter s) P.prime) u) side (power-with_row Z is.presentation s (omega arith)) in
      series-joined F k (copies (letter s) P.prime) (letter l) relation (letter-in l b)
      (series-power F k (letter s) (before s first weight))

  -- a generator of weight k + 1 is in level k
  level-within : (more l k : ℕ) → l < more → l < n → weight_at A l ≡ suc k → InSeries F k (letter l)
  level-within zero l k a b w = absurd (omega arith)
  level-within (suc more) l zero a b w = letter-in l b
  level-within (suc more) l (suc k) a b w =
      defined-level l k (definition_at A l) b (λ j c v. level-within more j k (omega arith) (omega arith) v)
      (is.answer.definitions l b) (is.definitions l b) (allowed-at A is.answer canonical l (suc k) b w)

  pub letter-level : (l k : ℕ) → l < Y.answer.presentation.rank → weight_at Y.answer l ≡ suc k → InSeries (flat (rowed Y)) k (letter l)
  letter-level l k b w = level-within (suc l) l k (omega arith) b w

  module _ (j i : ℕ) (last : j < Y.answer.presentation.rank) (before : i < j)
      (heavy : suc (class_of Y.answer) < weight_at Y.answer j + weight_at Y.answer i) where
    -- the right side is empty
    side-empty : commutator_word P j i ≡ []
    side-empty =
        let count : length Y.answer.weights ≡ Y.answer.presentation.rank = is.answer.weight_count in
        let long = (is.answer.presentation.commutator_sides j i last before).count in
        word_from-zero (suc j) (commutator_side P j i)
        (λ m b.
        ⊎_elim (λ (zero_there : get_or (commutator_side Y.answer.presentation j i) m 0 ≡ 0). zero_there)
        (λ (other : get_or (commutator_side Y.answer.presentation j i) m 0 ≢ 0).
        let more : weight_at A j + weight_at A i ≤ weight_at A (suc j + m) = canonical.weights.commutators j i m last before other in
        let most = weights-within_class Y.answer is.answer (suc j + m) (omega arith) in
        absurd (omega arith))
        (cases_eq (get_or (commutator_side Y.answer.presentation j i) m 0) 0))

    relation : Joined F (comm (letter j) (letter i)) (word_from n (commutator_row Z j i))
    relation =
        subst (λ (u : List ℤ). Joined F (comm (letter j) (letter i)) (u ++ word_from n (commutator_row Z j i))) side-empty
        (commutator-with_row Z is.presentation j i last before)

    flat-class : HasClass F (suc (class_of A))
    flat-class =
        let whole = restrictions_are_whole A is.answer (class_of A) (omega arith) in
        classes_grow_by_one_with_rows Z is.presentation (class_of A)
        (subst (λ (B : Answer). HasClass B.presentation (class_of Y.answer)) whole
        (weights-class A is.answer canonical.weights (class_of A)))

    pub heavy-trivial : Joined (flat (rowed Y)) (word_from Y.answer.presentation.rank (commutator_row (rowed Y) j i)) []
    heavy-trivial =
        let count : length Y.answer.weights ≡ Y.answer.presentation.rank = is.answer.weight_count in
        let a : ℕ = weight_at Y.answer j - 1 in
        let b : ℕ = weight_at Y.answer i - 1 in
        let least_j = weights-least 1 Y.answer.weights is.answer.weights j (omega arith) in
        let least_i = weights-least 1 Y.answer.weights is.answer.weights i (omega arith) in
        let level : InSeries F (a + b + 1) (comm (letter j) (letter i)) =
        commutators_of_levels F flat-is a b (letter j) (letter i) (letter-level j a last (omega arith))
        (letter-level i b (omega arith) (omega arith)) in
        let over : ℕ = (a + b + 1) - suc (class_of Y.answer) in
        let same : a + b + 1 ≡ suc (class_of Y.answer) + over = omega arith in
        joined-trans (joined-sym relation)
        (flat-class (comm (letter j) (letter i))
        (series-fall F (suc (class_of A)) over (comm (letter j) (letter i))
        (subst (λ (k : ℕ). InSeries F k (comm (letter j) (letter i))) same level)))
      where
        flat-is : IsPresentation F
        flat-is =
            let big = is.answer.presentation.prime in
            flat-presentation Z is.presentation (omega arith)

pub heavy_tails_are_trivial : HeavyTailsAreTrivial
heavy_tails_are_trivial C cover canonical zero i first before last heavy = absurd (omega arith)
heavy_tails_are_trivial C cover canonical (suc j) zero first before last heavy = absurd (omega arith)
heavy_tails_are_trivial C cover canonical (suc j) (suc i) first before last heavy =
    let is = (covers_are_rowed_answers C.answer C.sources cover.answer cover.sources).0 in
    heavy-trivial (rowed_cover C) is canonical j i (omega arith) (omega arith) (omega arith)
