-- The rows of the qualifying relations are rows, and hold the row of each relation that qualifies.
use Rattle.std.proofs.Common.{◌≡◌, ℕ, zero, suc, ◌+◌, ◌<◌, ◌≤◌, ◌&&◌, Bool, true, pred, List, [], ◌∷◌, length, map, filter, refl, ap, ap₂}
use Rattle.std.proofs.Common.{sym, ◌∙◌, subst, arith, eq-eqb}
use Rattle.std.specs.List.{All, Contains}
use Rattle.std.proofs.lemmas.List.{length-map}
use Rattle.std.proofs.lemmas.List.Elements.{All-nil, All-append, All-map, All-filter, Contains-append_left, Contains-append_right}
use Rattle.std.proofs.Math.ListN.{get_or-map}
use Rattle.pq_base.specs.Answer.{Definition as Source, weight_at}
use Rattle.pq_base.specs.Answer.Definition.{commutator, power}
use Rattle.pq_base.specs.Canonical.{numbers_from, is_qualifying, commutators_of, commutators_up_to, all_commutators, all_powers}
use Rattle.pq_base.proofs.NumberLists.{Contains-numbers_from, All-numbers}
use Rattle.fp_rows.specs.Rows.{IsRow}
use Rattle.fp_echelon.specs.Span.{AreRows, InSpan}
use Rattle.p_cover.specs.RowedAnswer.{RowedAnswer, IsRowedAnswer, row_at}
use Rattle.p_cover.proofs.ListPairs.{Contains-filter}
use Rattle.cover_quotient.specs.Levels.{qualifying_relations, qualifying_rows}
use Rattle.cover_quotient.proofs.carried_rows.CarriedRows.{row_from_normal}
use Rattle.cover_quotient.proofs.spans.OverlapRows.{AreRows-from_all, InSpan-contained}

-- elements of lists
module _ {X : Type 0} where
  contains-head : (x : X) (xs : List X) → Contains (x ∷ xs) x
  contains-head x xs = (0, (let l : 0 < length (x ∷ xs) = omega arith in l), refl)

  contains-cons : (y : X) (xs : List X) (x : X) → Contains xs x → Contains (y ∷ xs) x
  contains-cons y xs x h = let within = h.1 in (suc h.0, (let l : suc h.0 < length (y ∷ xs) = omega arith in l), h.2)

  contains-map : {Y : Type 0} (f : X → Y) (xs : List X) (x : X) → Contains xs x → Contains (map f xs) (f x)
  contains-map f xs x h =
      let long : length (map f xs) ≡ length xs = length-map xs f in
      let within = h.1 in
      (h.0, (let l : h.0 < length (map f xs) = omega arith in l), get_or-map f xs h.0 x ∙ ap f h.2)

contains-commutators : (js : List ℕ) (j : ℕ) (d : Source) → Contains js j → Contains (commutators_of j) d
    → Contains (commutators_up_to js) d
contains-commutators [] j d h c = let within = h.1 in absurd (omega arith)
contains-commutators (x ∷ js) j d (zero, within, same) c =
    Contains-append_left (commutators_of x) (commutators_up_to js) d (subst (λ (i : ℕ). Contains (commutators_of i) d) (sym same) c)
contains-commutators (x ∷ js) j d (suc k, within, same) c =
    Contains-append_right (commutators_of x) (commutators_up_to js) d
    (contains-commutators js j d (k, (let l : k < length js = omega arith in l), same) c)

all-commutator_lists : (P : Source → Type 0) (a n : ℕ) → ((j : ℕ) → a ≤ j → j < a + n → All P (commutators_of j))
    → All P (commutators_up_to (numbers_from a n))
all-commutator_lists P a zero h = All-nil P
all-commutator_lists P a (suc n) h =
    All-append P (commutators_of a) (commutators_up_to (numbers_from (suc a) n)) (h a (omega arith) (omega arith))
    (all-commutator_lists P (suc a) n (λ j b l. h j (omega arith) (omega arith)))

module _ (Y : RowedAnswer) (is : IsRowedAnswer Y) (c : ℕ) where
  -- rows of relations
  abbrev HasRow : Source → Type 0
  HasRow d = IsRow Y.answer.presentation.prime Y.width (row_at Y d)

  commutator-row : (j i : ℕ) → 1 ≤ i → i < j → j ≤ Y.answer.presentation.rank → HasRow (commutator j i)
  commutator-row zero i a b l = absurd (omega arith)
  commutator-row (suc j) zero a b l = absurd (omega arith)
  commutator-row (suc j) (suc i) a b l =
      row_from_normal Y.answer.presentation.prime Y.width (row_at Y (commutator (suc j) (suc i)))
      (is.presentation.commutator_rows j i (omega arith) (omega arith))

  power-row : (j : ℕ) → 1 ≤ j → j ≤ Y.answer.presentation.rank → HasRow (power j)
  power-row zero a l = absurd (omega arith)
  power-row (suc j) a l =
      row_from_normal Y.answer.presentation.prime Y.width (row_at Y (power (suc j))) (is.presentation.power_rows j (omega arith))

  pub qualifying-are_rows : AreRows Y.answer.presentation.prime Y.width (qualifying_rows Y c)
  qualifying-are_rows =
      let n : ℕ = Y.answer.presentation.rank in
      let test : Source → Bool = is_qualifying Y.answer c in
      let commutators : All HasRow (all_commutators Y.answer.presentation.rank) =
      all-commutator_lists HasRow 1 n
      (λ j b l. All-map HasRow (λ (i : ℕ). commutator j i) (numbers_from 1 (pred j))
      (All-numbers (λ (i : ℕ). HasRow (commutator j i)) 1 (pred j) (λ i a m. commutator-row j i a (omega arith) (omega arith)))) in
      let powers : All HasRow (all_powers Y.answer.presentation.rank) =
      All-map HasRow power (numbers_from 1 n) (All-numbers (λ (j : ℕ). HasRow (power j)) 1 n (λ j a l. power-row j a (omega arith))) in
      let both : All HasRow (qualifying_relations Y.answer c) =
      All-append HasRow (filter test (all_commutators n)) (filter test (all_powers n))
      (All-filter test HasRow (all_commutators n) commutators) (All-filter test HasRow (all_powers n) powers) in
      AreRows-from_all Y.answer.presentation.prime Y.width (qualifying_rows Y c)
      (All-map (λ (x : List ℕ). IsRow Y.answer.presentation.prime Y.width x) (row_at Y) (qualifying_relations Y.answer c) both)

  -- relations that qualify
  module _ (big : 1 < Y.answer.presentation.prime) where
    relation-spanned : (d : Source) → Contains (qualifying_relations Y.answer c) d
        → InSpan Y.answer.presentation.prime Y.width (qualifying_rows Y c) (row_at Y d)
    relation-spanned d h =
        InSpan-contained Y.answer.presentation.prime Y.width (qualifying_rows Y c) (row_at Y d) big qualifying-are_rows
        (contains-map (row_at Y) (qualifying_relations Y.answer c) d h)

    pub commutator-spanned : (j i : ℕ) → j < Y.answer.presentation.rank → i < j → weight_at Y.answer j ≡ c → weight_at Y.answer i ≡ 1
        → InSpan Y.answer.presentation.prime Y.width (qualifying_rows Y c) (row_at Y (commutator (suc j) (suc i)))
    commutator-spanned j i l b w v =
        let n : ℕ = Y.answer.presentation.rank in
        let test : Source → Bool = is_qualifying Y.answer c in
        let d : Source = commutator (suc j) (suc i) in
        let passes : is_qualifying Y.answer c (commutator (suc j) (suc i)) ≡ true =
        ap₂ (λ (x y : Bool). x && y) (eq-eqb (weight_at Y.answer j) c w) (eq-eqb (weight_at Y.answer i) 1 v) in
        let within : Contains (all_commutators Y.answer.presentation.rank) (commutator (suc j) (suc i)) =
        contains-commutators (numbers_from 1 n) (suc j) d (Contains-numbers_from 1 n (suc j) (omega arith) (omega arith))
        (contains-map (λ (k : ℕ). commutator (suc j) k) (numbers_from 1 j) (suc i)
        (Contains-numbers_from 1 j (suc i) (omega arith) (omega arith))) in
        relation-spanned d
        (Contains-append_left (filter test (all_commutators n)) (filter test (all_powers n)) d
        (Contains-filter test (all_commutators n) d within passes))

    pub power-spanned : (j : ℕ) → j < Y.answer.presentation.rank → weight_at Y.answer j ≡ c
        → InSpan Y.answer.presentation.prime Y.width (qualifying_rows Y c) (row_at Y (power (suc j)))
    power-spanned j l w =
        let n : ℕ = Y.answer.presentation.rank in
        let test : Source → Bool = is_qualifying Y.answer c in
        let d : Source = power (suc j) in
        let within : Contains (all_powers Y.answer.presentation.rank) (power (suc j)) =
        contains-map power (numbers_from 1 n) (suc j) (Contains-numbers_from 1 n (suc j) (omega arith) (omega arith)) in
        relation-spanned d
        (Contains-append_right (filter test (all_commutators n)) (filter test (all_powers n)) d
        (Contains-filter test (all_powers n) d within (eq-eqb (weight_at Y.answer j) c w)))
