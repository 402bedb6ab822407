-- The overlap rows of the cover of the cyclic group of order four, modulo which it is the cyclic group of order eight.
use Rattle.std.proofs.Common.{◌≡◌, ℕ, zero, suc, ◌<◌, pos, List, [], ◌∷◌, length, get_or, refl, ap, sym, arith}
use Rattle.std.specs.List.{Contains}
use Rattle.std.proofs.lemmas.List.Elements.{All-cons, All-nil}
use Rattle.fp_echelon.specs.Reduced.{BasisRow}
use Rattle.pc_presentation.specs.Rowed.{RowedPresentation, flat}
use Rattle.pc_presentation.specs.Collection.{plain_push_from, plain_push}
use Rattle.pc_presentation.specs.Overlaps.{Overlap, IsOverlap}
use Rattle.pc_presentation.specs.Overlaps.Overlap.{triple, left, right, own}
use Rattle.pc_presentation.specs.OverlapRows.{overlap_row}
use Rattle.cover_quotient.specs.Carried.{carried_presentation}
use Rattle.cover_quotient.specs.Kept.{kept_rows}
use Rattle.cover_quotient.specs.OverlapRows.{IsOverlapRow, AreOverlapRows}
use Rattle.cover_quotient.specs.SpanLaws.{carried_letters}

-- a2 is the square of a1; the commutator and the square of a2 carry tails
abbrev cyclic_cover : RowedPresentation
cyclic_cover = record {
  base = record { prime = 2; rank = 2; powers = (1 ∷ []) ∷ [] ∷ []; commutators = [] ∷ ([] ∷ []) ∷ [] };
  width = 2;
  power_rows = (0 ∷ 0 ∷ []) ∷ (0 ∷ 1 ∷ []) ∷ [];
  commutator_rows = [] ∷ ((1 ∷ 0 ∷ []) ∷ []) ∷ [];
}

-- the square of a1 commutes with a1, so the commutator's tail is trivial
own_overlap : overlap_row cyclic_cover (plain_push cyclic_cover) (own 0) ≡ 1 ∷ 0 ∷ []
unfolding plain_push_from
own_overlap = refl

left_overlap : overlap_row cyclic_cover (plain_push cyclic_cover) (left 1 0) ≡ 0 ∷ 0 ∷ []
unfolding plain_push_from
left_overlap = refl

right_overlap : overlap_row cyclic_cover (plain_push cyclic_cover) (right 1 0) ≡ 0 ∷ 0 ∷ []
unfolding plain_push_from
right_overlap = refl

own_overlap_of_second : overlap_row cyclic_cover (plain_push cyclic_cover) (own 1) ≡ 0 ∷ 0 ∷ []
unfolding plain_push_from
own_overlap_of_second = refl

-- these are all overlaps
abbrev overlap_rows : List (List ℕ)
overlap_rows = (1 ∷ 0 ∷ []) ∷ (0 ∷ 0 ∷ []) ∷ []

every_overlap : (o : Overlap) → IsOverlap 2 o → Contains overlap_rows (overlap_row cyclic_cover (plain_push cyclic_cover) o)
every_overlap (triple k j i) h = let a = h.0 in let b = h.1 in let c = h.2 in absurd (omega arith)
every_overlap (left zero i) h = let a = h.0 in absurd (omega arith)
every_overlap (left (suc zero) zero) h = (1, (let l : 1 < length overlap_rows = omega arith in l), sym left_overlap)
every_overlap (left (suc zero) (suc i)) h = let a = h.0 in absurd (omega arith)
every_overlap (left (suc (suc j)) i) h = let b = h.1 in absurd (omega arith)
every_overlap (right zero i) h = let a = h.0 in absurd (omega arith)
every_overlap (right (suc zero) zero) h = (1, (let l : 1 < length overlap_rows = omega arith in l), sym right_overlap)
every_overlap (right (suc zero) (suc i)) h = let a = h.0 in absurd (omega arith)
every_overlap (right (suc (suc j)) i) h = let b = h.1 in absurd (omega arith)
every_overlap (own zero) h = (0, (let l : 0 < length overlap_rows = omega arith in l), sym own_overlap)
every_overlap (own (suc zero)) h = (1, (let l : 1 < length overlap_rows = omega arith in l), sym own_overlap_of_second)
every_overlap (own (suc (suc i))) h = absurd (omega arith)

rows_of_cover : AreOverlapRows cyclic_cover (plain_push cyclic_cover) overlap_rows
rows_of_cover = record {
  every = every_overlap;
  only =
      All-cons (IsOverlapRow cyclic_cover (plain_push cyclic_cover)) (1 ∷ 0 ∷ []) ((0 ∷ 0 ∷ []) ∷ [])
      (record { overlap = own 0; is_overlap = omega arith; same = own_overlap })
      (All-cons (IsOverlapRow cyclic_cover (plain_push cyclic_cover)) (0 ∷ 0 ∷ []) []
      (record { overlap = own 1; is_overlap = omega arith; same = own_overlap_of_second })
      (All-nil (IsOverlapRow cyclic_cover (plain_push cyclic_cover))));
}

-- the zero row alone is not all of them
not_both : (n : ℕ) → n ≡ 0 → n ≡ 1 → ⊥
not_both n e f = absurd (omega arith)

without_own : Contains ((0 ∷ 0 ∷ []) ∷ []) (overlap_row cyclic_cover (plain_push cyclic_cover) (own 0)) → ⊥
without_own (zero, l, e) =
    not_both (get_or (overlap_row cyclic_cover (plain_push cyclic_cover) (own 0)) 0 0)
    (ap (λ (r : List ℕ). get_or r 0 0) (sym e)) (ap (λ (r : List ℕ). get_or r 0 0) own_overlap)
without_own (suc k, l, e) = absurd (omega arith)

too_few_rows : AreOverlapRows cyclic_cover (plain_push cyclic_cover) ((0 ∷ 0 ∷ []) ∷ []) → ⊥
too_few_rows h = without_own (h.every (own 0) (omega arith))

-- modulo them
abbrev commutator_trivial : List BasisRow
commutator_trivial = record { pivot = 1; row = 1 ∷ 0 ∷ []; coefficients = 1 ∷ [] } ∷ []

-- what is left is cyclic of order eight
cyclic_of_order_eight : flat (carried_presentation 1 (kept_rows 2 2 commutator_trivial) cyclic_cover) ≡ record {
  prime = 2;
  rank = 3;
  powers = (1 ∷ 0 ∷ []) ∷ (1 ∷ []) ∷ [] ∷ [];
  commutators = [] ∷ ((0 ∷ []) ∷ []) ∷ ([] ∷ [] ∷ []) ∷ [];
}
cyclic_of_order_eight = refl

-- its generators, and the words of the two tails
letters_of_cover : carried_letters 2 (kept_rows 2 2 commutator_trivial) ≡ (pos 1 ∷ []) ∷ (pos 2 ∷ []) ∷ [] ∷ (pos 3 ∷ []) ∷ []
letters_of_cover = refl
