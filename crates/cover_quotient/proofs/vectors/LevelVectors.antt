-- Cuts, ready answers and qualifying rows at small values: the dihedral group of order eight, and the group of order two with
-- one tail.
use Rattle.std.proofs.Common.{◌≡◌, ℕ, zero, suc, ◌<◌, ◌≤◌, ℤ, pos, negsuc, List, [], ◌∷◌, get_or, length, refl, sym, subst, arith}
use Rattle.pq_base.specs.SignedWord.{HasLetters}
use Rattle.pq_base.specs.Presentation.{IsNormal, word_from, power_word}
use Rattle.pq_base.specs.Joined.{Joined, IsConsistent}
use Rattle.pq_base.specs.Elementary.{elementary}
use Rattle.pq_base.specs.Answer.{Answer}
use Rattle.pq_base.specs.Answer.Definition.{image, commutator, power}
use Rattle.pq_base.proofs.words.JoinedLaws.{joined-refl, joined-from_equal}
use Rattle.pq_base.proofs.ElementaryLaws.{elementary_laws}
use Rattle.pc_presentation.specs.Rowed.{IsRowed}
use Rattle.pq_base.proofs.vectors.Answers.{answer_of_order_eight}
use Rattle.p_cover.specs.RowedAnswer.{RowedAnswer, rowed}
use Rattle.pc_presentation.proofs.rows.FlatWords.{power-with_row}
use Rattle.pc_presentation.proofs.rows.Projections.{sub-row_word, joined-projected}
use Rattle.pc_presentation.specs.CutLaws.{cut_word, ReachesLater}
use Rattle.cover_quotient.specs.Levels.{IsReady, IsSpanned, qualifying_relations, qualifying_rows}

-- a3 is cut off
cut_after_two : cut_word 2 answer_of_order_eight.presentation (pos 3 ∷ pos 1 ∷ negsuc 2 ∷ negsuc 1 ∷ []) ≡ pos 1 ∷ negsuc 1 ∷ []
cut_after_two = refl

-- what qualifies at each class
qualifying_at_one : qualifying_relations answer_of_order_eight 1 ≡ commutator 2 1 ∷ power 1 ∷ power 2 ∷ []
qualifying_at_one = refl

qualifying_at_two : qualifying_relations answer_of_order_eight 2 ≡ commutator 3 1 ∷ commutator 3 2 ∷ power 3 ∷ []
qualifying_at_two = refl

-- it is not ready at class 1, where [a2,a1] would have the empty word, and a3 no greater weight
is_dihedral_not_ready : IsReady answer_of_order_eight 1 → ⊥
is_dihedral_not_ready r = let least = r.weights 2 (omega arith) in absurd (omega arith)

-- a1 of order two
abbrev group_of_order_two : Answer
group_of_order_two = record {
  presentation = elementary 2 1;
  weights = 1 ∷ [];
  names = (120 ∷ []) ∷ [];
  definitions = image 1 ∷ [];
  images = (1 ∷ []) ∷ [];
}

consistent_two : IsConsistent (elementary 2 1)
consistent_two = (elementary_laws 2 1 (omega arith)).consistent

no_letters : (w : List ℤ) → HasLetters 0 w → w ≡ []
no_letters [] h = refl
no_letters (pos zero ∷ w) h = absurd h.0
no_letters (pos (suc i) ∷ w) h = let l = h.0 in absurd (omega arith)
no_letters (negsuc i ∷ w) h = let l = h.0 in absurd (omega arith)

first_weight : (j : ℕ) → j < 1 → get_or (1 ∷ []) j 0 ≤ 1
first_weight zero l = omega arith
first_weight (suc j) l = absurd (omega arith)

empty_square : (l : ℕ) → l < 1 → power_word (elementary 2 1) l ≡ []
empty_square zero l = refl
empty_square (suc j) l = absurd (omega arith)

is_two_ready : IsReady group_of_order_two 1
is_two_ready = record {
  consistent = consistent_two;
  weights = first_weight;
  powers = λ l b w. empty_square l b;
  commutators = λ l i b m w. absurd (omega arith);
  below = λ w h. joined-from_equal _ (no_letters w h);
}

-- a1 is a word of the generators from the first on, and none of those after it
is_a1_first : ReachesLater (elementary 2 1) 0 (pos 1 ∷ [])
is_a1_first = record {
  exponents = 1 ∷ [];
  normal = record { count = refl; below = (omega arith, tt) };
  joined = joined-refl (elementary 2 1) (pos 1 ∷ []);
}

abbrev are_same : List ℕ → List ℕ → Type 0
are_same e f = e ≡ f

one_as_zero : Joined (elementary 2 1) (pos 1 ∷ []) [] → are_same (1 ∷ []) (0 ∷ [])
one_as_zero c =
    consistent_two.unique (1 ∷ []) (0 ∷ [])
    (record { count = refl; below = (omega arith, tt) }) (record { count = refl; below = (omega arith, tt) }) c

abbrev begins_with_zero : List ℕ → Type 0
begins_with_zero [] = Unit {0}
begins_with_zero (zero ∷ x) = Unit {0}
begins_with_zero (suc a ∷ x) = ⊥

is_a1_nontrivial : Joined (elementary 2 1) (pos 1 ∷ []) [] → ⊥
is_a1_nontrivial c = subst (λ (x : List ℕ). begins_with_zero x) (sym (one_as_zero c)) tt

is_a1_not_later : ReachesLater (elementary 2 1) 1 (pos 1 ∷ []) → ⊥
is_a1_not_later r = no_exponents r.exponents r.normal r.joined
  where
    no_exponents : (e : List ℕ) → IsNormal 2 0 e → Joined (elementary 2 1) (pos 1 ∷ []) (word_from 1 e) → ⊥
    no_exponents [] h c = is_a1_nontrivial c
    no_exponents (x ∷ e) h c = let l = h.count in absurd (omega arith)

-- the square of a1 is the tail
abbrev with_tail : RowedAnswer
with_tail = record {
  answer = group_of_order_two;
  width = 1;
  rows = record { powers = (1 ∷ []) ∷ []; commutators = [] ∷ [] };
  image_rows = (0 ∷ []) ∷ [];
}

row_of_square : qualifying_rows with_tail 1 ≡ (1 ∷ []) ∷ []
row_of_square = refl

square_row : (i : ℕ) → i < 1 → IsNormal 2 1 (get_or ((1 ∷ []) ∷ []) i [])
square_row zero l = record { count = refl; below = (omega arith, tt) }
square_row (suc i) l = absurd (omega arith)

no_commutators : (j : ℕ) → j < 1 → length (get_or {A = List (List ℕ)} ([] ∷ []) j []) ≡ j
no_commutators zero l = refl
no_commutators (suc j) l = absurd (omega arith)

is_rowed : IsRowed (rowed with_tail)
is_rowed = record {
  base = (elementary_laws 2 1 (omega arith)).presentation;
  power_count = refl;
  power_rows = square_row;
  commutator_count = refl;
  commutator_counts = no_commutators;
  commutator_rows = λ j i l m. absurd (omega arith);
}

-- so it is spanned by that row, and a1 is not
is_square_spanned : IsSpanned with_tail ((1 ∷ []) ∷ []) (pos 1 ∷ pos 1 ∷ [])
is_square_spanned = record {
  row = 1 ∷ [];
  span = record { coefficients = 1 ∷ []; fits = record { count = refl; below = (omega arith, tt) }; sum = refl };
  joined = power-with_row (rowed with_tail) is_rowed 0 (omega arith);
}

is_a1_not_spanned : IsSpanned with_tail ((1 ∷ []) ∷ []) (pos 1 ∷ []) → ⊥
is_a1_not_spanned s =
    is_a1_nontrivial
    (subst (λ (w : List ℤ). Joined (elementary 2 1) (pos 1 ∷ []) w) (sub-row_word 1 1 s.row)
    (joined-projected (rowed with_tail) is_rowed s.joined))
