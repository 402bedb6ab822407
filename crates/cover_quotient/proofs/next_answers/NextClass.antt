-- Where there is a tail, the class of the next answer is one more, and cut to the class before, the next answer is the answer
-- that it was made of.
use Rattle.std.proofs.Common.{◌≡◌, ℕ, zero, suc, ◌+◌, ◌-◌, ◌<◌, ◌≤◌, Bool, false, leb, List, [], ◌∷◌, ◌++◌, get_or, length, map, take}
use Rattle.std.proofs.Common.{replicate, refl, ap, ap₂, sym, ◌∙◌, arith}
use Rattle.std.proofs.lemmas.Bool.{leb-true, false_from_ne_true}
use Rattle.std.proofs.Math.Seq.{take-append_seam}
use Rattle.pq_base.specs.Presentation.{Presentation}
use Rattle.pq_base.specs.Answer.{Definition as Source, AreWeights, last_or_zero, class_of}
use Rattle.pq_base.specs.Canonical.{one_more_where, count_up_to, rank_up_to, cut_powers, cut_commutators, up_to_class}
use Rattle.pc_presentation.specs.Rowed.{followed_by, tables_followed_by, tail_powers, tail_commutators, flat}
use Rattle.p_cover.specs.RowedAnswer.{RowedAnswer, IsRowedAnswer, rowed}
use Rattle.cover_quotient.specs.NextAnswer.{next_answer}
use Rattle.pq_base.proofs.LastWeights.{first-at_most_last, last-followed}
use Rattle.pq_base.proofs.NormalLists.{normal-entry}
use Rattle.pq_base.proofs.Restrictions.{cut_to, same_answers, count-one_more}

-- how many weights are at most the class before
count-later : (k n : ℕ) → count_up_to k (replicate n (suc k)) ≡ 0
count-later k zero = refl
count-later k (suc n) =
    let later : leb (suc k) k ≡ false = false_from_ne_true (leb (suc k) k) (λ e. let l = leb-true (suc k) k e in omega arith) in
    ap (λ (b : Bool). one_more_where b (count_up_to k (replicate n (suc k)))) later ∙ count-later k n

count-followed : (least k n : ℕ) (ws : List ℕ) → AreWeights least ws → last_or_zero ws ≤ k
    → count_up_to k (ws ++ replicate n (suc k)) ≡ length ws
count-followed least k n [] h l = count-later k n
count-followed least k n (v ∷ []) h l = count-one_more k v (replicate n (suc k)) l ∙ ap suc (count-later k n)
count-followed least k n (v ∷ u ∷ ws) h l =
    let first = first-at_most_last least v (u ∷ ws) h in
    count-one_more k v (u ∷ (ws ++ replicate n (suc k))) (omega arith) ∙ ap suc (count-followed v k n (u ∷ ws) h.2 l)

-- a list cut where it was followed by another
take-front : (m : ℕ) (e x : List ℕ) → length e ≡ m → take m (e ++ x) ≡ e
take-front m e x h = ap (λ (i : ℕ). take i (e ++ x)) (sym h) ∙ take-append_seam e x

take-followed_by : (m : ℕ) (xs ys : List (List ℕ)) → length xs ≡ length ys → ((i : ℕ) → i < length xs → length (get_or xs i []) ≡ m)
    → map (take m) (followed_by xs ys) ≡ xs
take-followed_by m [] ys e h = refl
take-followed_by m (x ∷ xs) [] e h = absurd (omega arith)
take-followed_by m (x ∷ xs) (y ∷ ys) e h =
    ap₂ (λ (l : List ℕ) (ls : List (List ℕ)). l ∷ ls) (take-front m x y (h 0 (omega arith)))
    (take-followed_by m xs ys (omega arith) (λ i l. h (suc i) (omega arith)))

-- right sides cut where they were followed by rows
cut_powers-followed : (n : ℕ) (xs ys zs : List (List ℕ)) → length xs ≡ n → length ys ≡ n
    → ((i : ℕ) → i < n → suc i + length (get_or xs i []) ≡ n)
    → cut_powers n (followed_by xs ys ++ zs) ≡ xs
cut_powers-followed zero [] ys zs c d h = refl
cut_powers-followed zero (x ∷ xs) ys zs c d h = absurd (omega arith)
cut_powers-followed (suc n) [] ys zs c d h = absurd (omega arith)
cut_powers-followed (suc n) (x ∷ xs) [] zs c d h = absurd (omega arith)
cut_powers-followed (suc n) (x ∷ xs) (y ∷ ys) zs c d h =
    let first : suc 0 + length x ≡ suc n = h 0 (omega arith) in
    ap₂ (λ (l : List ℕ) (ls : List (List ℕ)). l ∷ ls) (take-front n x y (omega arith))
    (cut_powers-followed n xs ys zs (omega arith) (omega arith)
    (λ i l. let later : suc (suc i) + length (get_or xs i []) ≡ suc n = h (suc i) (omega arith) in omega arith))

-- rows of right sides, each as long as there are generators after it, and rows for them
record AreSides (n : ℕ) (xs ys : List (List (List ℕ))) : Type 0 where
  pub lengths : (j : ℕ) → j < n → length (get_or xs j []) ≡ length (get_or ys j [])
  pub sides : (j i : ℕ) → j < n → i < length (get_or xs j []) → suc j + length (get_or (get_or xs j []) i []) ≡ n

cut_commutators-followed : (n : ℕ) (xs ys zs : List (List (List ℕ))) → length xs ≡ n → length ys ≡ n → AreSides n xs ys
    → cut_commutators n (tables_followed_by xs ys ++ zs) ≡ xs
cut_commutators-followed zero [] ys zs c d h = refl
cut_commutators-followed zero (x ∷ xs) ys zs c d h = absurd (omega arith)
cut_commutators-followed (suc n) [] ys zs c d h = absurd (omega arith)
cut_commutators-followed (suc n) (x ∷ xs) [] zs c d h = absurd (omega arith)
cut_commutators-followed (suc n) (x ∷ xs) (y ∷ ys) zs c d h =
    let first : (i : ℕ) → i < length x → length (get_or x i []) ≡ n =
    λ i l. let side : suc 0 + length (get_or x i []) ≡ suc n = h.sides 0 i (omega arith) l in omega arith in
    ap₂ (λ (l : List (List ℕ)) (ls : List (List (List ℕ))). l ∷ ls) (take-followed_by n x y (h.lengths 0 (omega arith)) first)
    (cut_commutators-followed n xs ys zs (omega arith) (omega arith) (record {
      lengths = λ j l. h.lengths (suc j) (omega arith);
      sides = λ j i l m.
          let later : suc (suc j) + length (get_or (get_or xs j []) i []) ≡ suc n = h.sides (suc j) i (omega arith) m in
          omega arith;
    }))

module _ (Y : RowedAnswer) (is : IsRowedAnswer Y) (sources : List Source) where
  abbrev P : Presentation
  P = Y.answer.presentation

  pub next-class : 1 ≤ Y.width → class_of (next_answer Y sources) ≡ suc (class_of Y.answer)
  next-class some =
      let less : ℕ = Y.width - 1 in
      let width : Y.width ≡ suc less = omega arith in
      ap (λ (q : ℕ). last_or_zero (Y.answer.weights ++ replicate q (suc (class_of Y.answer)))) width
      ∙ last-followed Y.answer.weights (suc (class_of Y.answer)) less

  same-rank : rank_up_to (next_answer Y sources) (class_of Y.answer) ≡ P.rank
  same-rank =
      count-followed 1 (class_of Y.answer) Y.width Y.answer.weights is.answer.weights (omega arith) ∙ is.answer.weight_count

  same-powers : cut_powers P.rank (flat (rowed Y)).powers ≡ P.powers
  same-powers =
      cut_powers-followed P.rank P.powers Y.rows.powers (tail_powers Y.width) is.answer.presentation.power_count is.presentation.power_count
      (λ i l. (is.answer.presentation.power_sides i l).count)

  same-commutators : cut_commutators P.rank (flat (rowed Y)).commutators ≡ P.commutators
  same-commutators =
      cut_commutators-followed P.rank P.commutators Y.rows.commutators (tail_commutators P.rank Y.width)
      is.answer.presentation.commutator_count is.presentation.commutator_count (record {
        lengths = λ j l. is.answer.presentation.commutator_counts j l ∙ sym (is.presentation.commutator_counts j l);
        sides = λ j i l m.
            let c = is.answer.presentation.commutator_counts j l in
            (is.answer.presentation.commutator_sides j i l (omega arith)).count;
      })

  same-weights : take P.rank (next_answer Y sources).weights ≡ Y.answer.weights
  same-weights = take-front P.rank Y.answer.weights (replicate Y.width (suc (class_of Y.answer))) is.answer.weight_count

  same-definitions : take P.rank (Y.answer.definitions ++ sources) ≡ Y.answer.definitions
  same-definitions =
      ap (λ (i : ℕ). take i (Y.answer.definitions ++ sources)) (sym is.answer.definition_count)
      ∙ take-append_seam Y.answer.definitions sources

  same-images : map (take P.rank) (next_answer Y sources).images ≡ Y.answer.images
  same-images =
      take-followed_by P.rank Y.answer.images Y.image_rows (is.answer.image_count ∙ sym is.image_count)
      (λ i l. (normal-entry P.prime P.rank Y.answer.images i is.answer.images l).count)

  pub next-restricts : up_to_class (next_answer Y sources) (class_of Y.answer) ≡ Y.answer
  next-restricts =
      ap (cut_to (next_answer Y sources)) same-rank
      ∙ same_answers (cut_to (next_answer Y sources) P.rank) Y.answer (record {
        prime = refl;
        rank = refl;
        powers = same-powers;
        commutators = same-commutators;
        weights = same-weights;
        names = refl;
        definitions = same-definitions;
        images = same-images;
      })
