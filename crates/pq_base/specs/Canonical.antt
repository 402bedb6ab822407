-- The order in which definitions are preferred, and the answers that follow it.
-- From: this project's own order. It is a property of the answer alone, with no tails and no span.
use Rattle.std.specs.Prelude.{◌≡◌, ◌≢◌, ◌⊎◌, ◌<◌, ◌≤◌, ◌+◌, ◌-◌, ℕ, zero, suc, pred, Bool, true, false, ◌&&◌, ◌||◌, not, eqb, leb, List, []}
use Rattle.std.specs.Prelude.{◌∷◌, ◌++◌, get_or, length, map, take, drop, replicate, filter}
use Rattle.pq_base.specs.Presentation.{Presentation, power_side, commutator_side}
use Rattle.pq_base.specs.Answer.{Answer, Definition, class_of, weight_at, definition_at}
use Rattle.pq_base.specs.Answer.Definition.{image, commutator, power}

-- n numbers from a on
abbrev pub numbers_from : ℕ → ℕ → List ℕ
numbers_from a zero = []
numbers_from a (suc n) = a ∷ numbers_from (suc a) n

-- the weight of generator j, counted from 1
abbrev pub weight_of : Answer → ℕ → ℕ
weight_of A zero = 0
weight_of A (suc k) = weight_at A k

abbrev pub same_definition : Definition → Definition → Bool
same_definition (image i) (image k) = eqb i k
same_definition (commutator j i) (commutator l k) = eqb j l && eqb i k
same_definition (power i) (power k) = eqb i k
same_definition _ _ = false

abbrev pub is_among : Definition → List Definition → Bool
is_among d [] = false
is_among d (e ∷ es) = same_definition d e || is_among d es

-- the commutators of generator j with those before it
abbrev pub commutators_of : ℕ → List Definition
commutators_of j = map (λ i. commutator j i) (numbers_from 1 (pred j))

abbrev pub commutators_up_to : List ℕ → List Definition
commutators_up_to [] = []
commutators_up_to (j ∷ js) = commutators_of j ++ commutators_up_to js

abbrev pub all_commutators : ℕ → List Definition
all_commutators n = commutators_up_to (numbers_from 1 n)

abbrev pub all_powers : ℕ → List Definition
all_powers n = map power (numbers_from 1 n)

abbrev pub all_images : ℕ → List Definition
all_images m = map image (numbers_from 1 m)

-- the relations that span the next layer, at class k: [a_j,a_i] with weights k and 1, a_j^p with weight k
abbrev pub is_qualifying : Answer → ℕ → Definition → Bool
is_qualifying A k (image i) = false
is_qualifying A k (commutator j i) = eqb (weight_of A j) k && eqb (weight_of A i) 1
is_qualifying A k (power j) = eqb (weight_of A j) k

-- relations and images at class k, the preferred ones first
abbrev pub preferred : Answer → ℕ → List Definition
preferred A zero = all_images (length A.names)
preferred A (suc k) =
    filter (is_qualifying A (suc k)) (all_commutators A.presentation.rank)
    ++ (filter (is_qualifying A (suc k)) (all_powers A.presentation.rank)
    ++ (filter (λ d. not (is_qualifying A (suc k) d)) (all_commutators A.presentation.rank)
    ++ (filter (λ d. not (is_qualifying A (suc k) d)) (all_powers A.presentation.rank)
    ++ all_images (length A.names))))

-- the want order at class k: definitions are left out
abbrev pub want_order : Answer → ℕ → List Definition
want_order A k = filter (λ d. not (is_among d A.definitions)) (preferred A k)

abbrev pub one_more_where : Bool → ℕ → ℕ
one_more_where true n = suc n
one_more_where false n = n

-- how many weights are at most k
abbrev pub count_up_to : ℕ → List ℕ → ℕ
count_up_to k [] = 0
count_up_to k (w ∷ ws) = one_more_where (leb w k) (count_up_to k ws)

-- the rank of the answer up to class k
abbrev pub rank_up_to : Answer → ℕ → ℕ
rank_up_to A k = count_up_to k A.weights

-- right sides of n generators, each cut to the generators that stay
abbrev pub cut_powers : ℕ → List (List ℕ) → List (List ℕ)
cut_powers zero sides = []
cut_powers (suc n) [] = []
cut_powers (suc n) (e ∷ es) = take n e ∷ cut_powers n es

abbrev pub cut_commutators : ℕ → List (List (List ℕ)) → List (List (List ℕ))
cut_commutators zero rows = []
cut_commutators (suc n) [] = []
cut_commutators (suc n) (row ∷ rows) = map (take n) row ∷ cut_commutators n rows

-- the presentation on its first n generators
abbrev pub first_generators : ℕ → Presentation → Presentation
first_generators n P = record {
  prime = P.prime;
  rank = n;
  powers = cut_powers n P.powers;
  commutators = cut_commutators n P.commutators;
}

-- the answer without its generators of weight above k
abbrev pub up_to_class : Answer → ℕ → Answer
up_to_class A k = record {
  presentation = first_generators (rank_up_to A k) A.presentation;
  weights = take (rank_up_to A k) A.weights;
  names = A.names;
  definitions = take (rank_up_to A k) A.definitions;
  images = map (take (rank_up_to A k)) A.images;
}

-- how many generators of weight k + 1 there are
abbrev pub new_count : Answer → ℕ → ℕ
new_count A k = rank_up_to A (suc k) - rank_up_to A k

-- the exponents of the generators of weight k + 1 in a list of exponents of the generators from place i on
abbrev pub new_exponents : Answer → ℕ → ℕ → List ℕ → List ℕ
new_exponents A k i e = take (new_count A k) (drop (rank_up_to A k - i) e)

-- the new part of a relation or an image at class k
abbrev pub new_part : Answer → ℕ → Definition → List ℕ
new_part A k (image zero) = []
new_part A k (image (suc i)) = new_exponents A k 0 (get_or A.images i [])
new_part A k (commutator zero i) = []
new_part A k (commutator (suc j) zero) = []
new_part A k (commutator (suc j) (suc i)) = new_exponents A k (suc j) (commutator_side A.presentation j i)
new_part A k (power zero) = []
new_part A k (power (suc j)) = new_exponents A k (suc j) (power_side A.presentation j)

-- n entries, all 0 but a 1 at place i
abbrev pub unit : ℕ → ℕ → List ℕ
unit zero i = []
unit (suc n) zero = 1 ∷ replicate n 0
unit (suc n) (suc i) = 0 ∷ unit n i

-- a definition that is allowed at class k: an image at class 0, else a qualifying relation
abbrev pub IsAllowed : Answer → ℕ → Definition → Type 0
IsAllowed A zero (image i) = Unit {0}
IsAllowed A zero _ = ⊥
IsAllowed A (suc k) d = is_qualifying A (suc k) d ≡ true

-- the entry defines the next generator of weight k + 1, and its new part is that generator alone
pub record DefinesNext (A : Answer) (k met : ℕ) (d : Definition) : Type 0 where
  pub one_left : met < new_count A k
  pub defined : definition_at A (rank_up_to A k + met) ≡ d
  pub new_generator : new_part A k d ≡ unit (new_count A k) met
  pub allowed : IsAllowed A k d

-- the entry defines no new generator, and its new part has none but those met
pub record DefinesNone (A : Answer) (k met : ℕ) (d : Definition) : Type 0 where
  pub none_defined : (g : ℕ) → g < new_count A k → definition_at A (rank_up_to A k + g) ≢ d
  pub met_alone : (g : ℕ) → met ≤ g → get_or (new_part A k d) g 0 ≡ 0

-- the entries are met one after the other, the first so many generators of weight k + 1 being met before; at the end all are
abbrev pub AreMet : Answer → ℕ → ℕ → List Definition → Type 0
AreMet A k met [] = met ≡ new_count A k
AreMet A k met (d ∷ ds) = (DefinesNext A k met d × AreMet A k (suc met) ds) ⊎ (DefinesNone A k met d × AreMet A k met ds)

-- right sides obey the weights: [a_j,a_i] has generators of weight at least the sum, a_i^p of weight at least one more
pub record ObeysWeights (A : Answer) : Type 0 where
  pub commutators : (j i m : ℕ) → j < A.presentation.rank → i < j → get_or (commutator_side A.presentation j i) m 0 ≢ 0
      → weight_at A j + weight_at A i ≤ weight_at A (suc j + m)
  pub powers : (i m : ℕ) → i < A.presentation.rank → get_or (power_side A.presentation i) m 0 ≢ 0
      → suc (weight_at A i) ≤ weight_at A (suc i + m)

-- the entries define the generators in turn, class by class
abbrev pub TakesTurns : Answer → Type 0
TakesTurns A = (k : ℕ) → k < class_of A → AreMet A k 0 (want_order (up_to_class A k) k)

pub record IsCanonical (A : Answer) : Type 0 where
  pub weights : ObeysWeights A
  pub turns : TakesTurns A
