-- Answers cut to a class: cut to the class of the answer or a greater one nothing is left out, and cut to two classes one after
-- the other is cut to the smaller one.
use Rattle.std.proofs.Common.{◌≡◌, ℕ, zero, suc, ◌+◌, ◌<◌, ◌≤◌, Bool, leb, List, [], ◌∷◌, get_or, length, map, take, inl, inr, refl, ap}
use Rattle.std.proofs.Common.{ap₂, sym, ◌∙◌, arith}
use Rattle.std.proofs.lemmas.Bool.{cases_lt, le-leb, leb-true, false_from_ne_true}
use Rattle.std.proofs.lemmas.List.{take_all}
use Rattle.pq_base.specs.Presentation.{Presentation, IsPresentation}
use Rattle.pq_base.specs.Answer.{Answer, Definition as Source, IsAnswer, AreWeights, AreNormal, last_or_zero, class_of}
use Rattle.pq_base.specs.Canonical.{one_more_where, count_up_to, rank_up_to, cut_powers, cut_commutators, first_generators, up_to_class}
use Rattle.pq_base.specs.Laws.{RestrictionsCompose, RestrictionsAreWhole}
use Rattle.pq_base.proofs.LastWeights.{first-at_most_last}
use Rattle.pq_base.proofs.NormalLists.{normal-entry}

-- an answer cut to n generators
abbrev pub cut_to : Answer → ℕ → Answer
cut_to A n = record {
  presentation = first_generators n A.presentation;
  weights = take n A.weights;
  names = A.names;
  definitions = take n A.definitions;
  images = map (take n) A.images;
}

-- two answers whose parts are the same
pub record SameParts (A B : Answer) : Type 0 where
  pub prime : A.presentation.prime ≡ B.presentation.prime
  pub rank : A.presentation.rank ≡ B.presentation.rank
  pub powers : A.presentation.powers ≡ B.presentation.powers
  pub commutators : A.presentation.commutators ≡ B.presentation.commutators
  pub weights : A.weights ≡ B.weights
  pub names : A.names ≡ B.names
  pub definitions : A.definitions ≡ B.definitions
  pub images : A.images ≡ B.images

pub same_presentations : (P Q : Presentation) → P.prime ≡ Q.prime → P.rank ≡ Q.rank → P.powers ≡ Q.powers → P.commutators ≡ Q.commutators
    → P ≡ Q
same_presentations P Q a b c d =
    ap₂ (λ (p n : ℕ). record { prime = p; rank = n; powers = P.powers; commutators = P.commutators }) a b
    ∙ ap₂ (λ (xs : List (List ℕ)) (ys : List (List (List ℕ))). record { prime = Q.prime; rank = Q.rank; powers = xs; commutators = ys }) c d

pub same_answers : (A B : Answer) → SameParts A B → A ≡ B
same_answers A B s =
    ap₂ (λ (P : Presentation) (ws : List ℕ).
    record { presentation = P; weights = ws; names = A.names; definitions = A.definitions; images = A.images })
    (same_presentations A.presentation B.presentation s.prime s.rank s.powers s.commutators) s.weights
    ∙ ap₂ (λ (ns : List (List ℕ)) (ds : List Source).
    record { presentation = B.presentation; weights = B.weights; names = ns; definitions = ds; images = A.images })
    s.names s.definitions
    ∙ ap (λ (es : List (List ℕ)).
    record { presentation = B.presentation; weights = B.weights; names = B.names; definitions = B.definitions; images = es }) s.images

-- weights that are counted, and weights that aren't
pub count-one_more : (k w : ℕ) (ws : List ℕ) → w ≤ k → count_up_to k (w ∷ ws) ≡ suc (count_up_to k ws)
count-one_more k w ws h = ap (λ (b : Bool). one_more_where b (count_up_to k ws)) (le-leb w k h)

count-no_more : (k w : ℕ) (ws : List ℕ) → k < w → count_up_to k (w ∷ ws) ≡ count_up_to k ws
count-no_more k w ws h =
    ap (λ (b : Bool). one_more_where b (count_up_to k ws)) (false_from_ne_true (leb w k) (λ e. let l = leb-true w k e in omega arith))

pub count-all : (least k : ℕ) (ws : List ℕ) → AreWeights least ws → last_or_zero ws ≤ k → count_up_to k ws ≡ length ws
count-all least k [] h l = refl
count-all least k (v ∷ []) h l = count-one_more k v [] l
count-all least k (v ∷ u ∷ ws) h l =
    let first = first-at_most_last least v (u ∷ ws) h in
    count-one_more k v (u ∷ ws) (omega arith) ∙ ap suc (count-all v k (u ∷ ws) h.2 l)

count-none : (least k : ℕ) (ws : List ℕ) → AreWeights least ws → k < least → count_up_to k ws ≡ 0
count-none least k [] h l = refl
count-none least k (w ∷ ws) h l =
    let more : least ≤ w = h.0 in
    count-no_more k w ws (omega arith) ∙ count-none w k ws h.2 (omega arith)

-- the weights up to a class that are up to a smaller one
count-taken : (least j k : ℕ) (ws : List ℕ) → AreWeights least ws → j ≤ k → count_up_to j (take (count_up_to k ws) ws) ≡ count_up_to j ws
count-taken least j k [] h l = refl
count-taken least j k (w ∷ ws) h l = elim (cases_lt k w) [
  | inl later ↦
      let none : count_up_to k (w ∷ ws) ≡ 0 = count-no_more k w ws later ∙ count-none w k ws h.2 later in
      ap (λ (m : ℕ). count_up_to j (take m (w ∷ ws))) none
      ∙ sym (count-no_more j w ws (omega arith) ∙ count-none w j ws h.2 (omega arith))
  | inr now ↦
      ap (λ (m : ℕ). count_up_to j (take m (w ∷ ws))) (count-one_more k w ws now)
      ∙ ap (one_more_where (leb w j)) (count-taken w j k ws h.2 l)
]

count-grows : (least j k : ℕ) (ws : List ℕ) → AreWeights least ws → j ≤ k → count_up_to j ws ≤ count_up_to k ws
count-grows least j k [] h l = omega arith
count-grows least j k (w ∷ ws) h l = elim (cases_lt j w) [
  | inl later ↦
      let none : count_up_to j (w ∷ ws) ≡ 0 = count-no_more j w ws later ∙ count-none w j ws h.2 later in
      omega arith
  | inr now ↦
      let less = count-one_more j w ws now in
      let more = count-one_more k w ws (omega arith) in
      let rest = count-grows w j k ws h.2 l in
      omega arith
]

-- lists cut twice
take-take : {X : Type 0} (m n : ℕ) (xs : List X) → m ≤ n → take m (take n xs) ≡ take m xs
take-take zero n xs h = refl
take-take (suc m) zero xs h = absurd (omega arith)
take-take (suc m) (suc n) [] h = refl
take-take {X} (suc m) (suc n) (x ∷ xs) h = ap (λ (l : List X). x ∷ l) (take-take m n xs (omega arith))

take-take_each : (m n : ℕ) (xs : List (List ℕ)) → m ≤ n → map (take m) (map (take n) xs) ≡ map (take m) xs
take-take_each m n [] h = refl
take-take_each m n (x ∷ xs) h = ap₂ (λ (l : List ℕ) (ls : List (List ℕ)). l ∷ ls) (take-take m n x h) (take-take_each m n xs h)

cut_powers-twice : (m n : ℕ) (xs : List (List ℕ)) → m ≤ n → cut_powers m (cut_powers n xs) ≡ cut_powers m xs
cut_powers-twice zero n xs h = refl
cut_powers-twice (suc m) zero xs h = absurd (omega arith)
cut_powers-twice (suc m) (suc n) [] h = refl
cut_powers-twice (suc m) (suc n) (x ∷ xs) h =
    ap₂ (λ (l : List ℕ) (ls : List (List ℕ)). l ∷ ls) (take-take m n x (omega arith)) (cut_powers-twice m n xs (omega arith))

cut_commutators-twice : (m n : ℕ) (xs : List (List (List ℕ))) → m ≤ n → cut_commutators m (cut_commutators n xs) ≡ cut_commutators m xs
cut_commutators-twice zero n xs h = refl
cut_commutators-twice (suc m) zero xs h = absurd (omega arith)
cut_commutators-twice (suc m) (suc n) [] h = refl
cut_commutators-twice (suc m) (suc n) (x ∷ xs) h =
    ap₂ (λ (l : List (List ℕ)) (ls : List (List (List ℕ))). l ∷ ls) (take-take_each m n x (omega arith))
    (cut_commutators-twice m n xs (omega arith))

-- cut to a class, and then to a smaller one
pub restrictions-compose : (A : Answer) → AreWeights 1 A.weights → (j k : ℕ) → j ≤ k → up_to_class (up_to_class A k) j ≡ up_to_class A j
restrictions-compose A weights j k l =
    let m : ℕ = rank_up_to A j in
    let n : ℕ = rank_up_to A k in
    let less = count-grows 1 j k A.weights weights l in
    ap (cut_to (up_to_class A k)) (count-taken 1 j k A.weights weights l)
    ∙ same_answers (cut_to (up_to_class A k) m) (up_to_class A j) (record {
      prime = refl;
      rank = refl;
      powers = cut_powers-twice m n A.presentation.powers less;
      commutators = cut_commutators-twice m n A.presentation.commutators less;
      weights = take-take m n A.weights less;
      names = refl;
      definitions = take-take m n A.definitions less;
      images = take-take_each m n A.images less;
    })

-- lists cut to their lengths
take-each : (n : ℕ) (xs : List (List ℕ)) → ((i : ℕ) → i < length xs → length (get_or xs i []) ≤ n) → map (take n) xs ≡ xs
take-each n [] h = refl
take-each n (x ∷ xs) h =
    ap₂ (λ (l : List ℕ) (ls : List (List ℕ)). l ∷ ls) (take_all n x (h 0 (omega arith))) (take-each n xs (λ i l. h (suc i) (omega arith)))

cut_powers-all : (n : ℕ) (xs : List (List ℕ)) → length xs ≡ n → ((i : ℕ) → i < n → suc i + length (get_or xs i []) ≡ n)
    → cut_powers n xs ≡ xs
cut_powers-all zero [] c h = refl
cut_powers-all zero (x ∷ xs) c h = absurd (omega arith)
cut_powers-all (suc n) [] c h = absurd (omega arith)
cut_powers-all (suc n) (x ∷ xs) c h =
    let first : suc 0 + length x ≡ suc n = h 0 (omega arith) in
    ap₂ (λ (l : List ℕ) (ls : List (List ℕ)). l ∷ ls) (take_all n x (omega arith))
    (cut_powers-all n xs (omega arith)
    (λ i l. let later : suc (suc i) + length (get_or xs i []) ≡ suc n = h (suc i) (omega arith) in omega arith))

cut_commutators-all : (n : ℕ) (xs : List (List (List ℕ))) → length xs ≡ n
    → ((j i : ℕ) → j < n → i < length (get_or xs j []) → suc j + length (get_or (get_or xs j []) i []) ≡ n) → cut_commutators n xs ≡ xs
cut_commutators-all zero [] c h = refl
cut_commutators-all zero (x ∷ xs) c h = absurd (omega arith)
cut_commutators-all (suc n) [] c h = absurd (omega arith)
cut_commutators-all (suc n) (x ∷ xs) c h =
    ap₂ (λ (l : List (List ℕ)) (ls : List (List (List ℕ))). l ∷ ls)
    (take-each n x (λ i l. let side : suc 0 + length (get_or x i []) ≡ suc n = h 0 i (omega arith) l in omega arith))
    (cut_commutators-all n xs (omega arith)
    (λ j i l m.
    let later : suc (suc j) + length (get_or (get_or xs j []) i []) ≡ suc n = h (suc j) i (omega arith) m in
    omega arith))

-- what of an answer's conditions is needed to leave nothing out
pub record HasExactLists (A : Answer) : Type 0 where
  pub presentation : IsPresentation A.presentation
  pub weight_count : length A.weights ≡ A.presentation.rank
  pub weights : AreWeights 1 A.weights
  pub images : AreNormal A.presentation.prime A.presentation.rank A.images
  pub definition_count : length A.definitions ≡ A.presentation.rank

pub exact-lists : (A : Answer) → IsAnswer A → HasExactLists A
exact-lists A is = record {
  presentation = is.presentation;
  weight_count = is.weight_count;
  weights = is.weights;
  images = is.images;
  definition_count = is.definition_count;
}

-- cut to its class or a greater one
pub restriction-whole : (A : Answer) → HasExactLists A → (k : ℕ) → class_of A ≤ k → up_to_class A k ≡ A
restriction-whole A is k l =
    let n : ℕ = A.presentation.rank in
    let weights = is.weight_count in
    let definitions = is.definition_count in
    ap (cut_to A) (count-all 1 k A.weights is.weights l ∙ is.weight_count)
    ∙ same_answers (cut_to A n) A (record {
      prime = refl;
      rank = refl;
      powers = cut_powers-all n A.presentation.powers is.presentation.power_count (λ i h. (is.presentation.power_sides i h).count);
      commutators =
          cut_commutators-all n A.presentation.commutators is.presentation.commutator_count
          (λ j i h m. let c = is.presentation.commutator_counts j h in (is.presentation.commutator_sides j i h (omega arith)).count);
      weights = take_all n A.weights (omega arith);
      names = refl;
      definitions = take_all n A.definitions (omega arith);
      images = take-each n A.images (λ i h. let c = (normal-entry A.presentation.prime n A.images i is.images h).count in omega arith);
    })

pub restrictions_compose : RestrictionsCompose
restrictions_compose A is j k l = restrictions-compose A is.weights j k l

pub restrictions_are_whole : RestrictionsAreWhole
restrictions_are_whole A is k l = restriction-whole A (exact-lists A is) k l
