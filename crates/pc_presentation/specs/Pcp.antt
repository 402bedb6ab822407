-- Presentations with tails: weights of the generators, and for each relation one of the tails or none.
-- A tail stands for a central generator of order p that the relation's right side ends with.
use Rattle.std.specs.Prelude.{◌≡◌, ◌<◌, ◌≤◌, ◌-◌, ℕ, zero, suc, List, [], ◌∷◌, get_or, length, map, Option, Some, None, replicate, cond}
use Rattle.std.specs.Prelude.{eqb}
use Rattle.pq_base.specs.Presentation.{Presentation, IsPresentation}
use Rattle.pq_base.specs.Limits.{max_rank}
use Rattle.pq_base.specs.Prime.{IsOffered}
use Rattle.pq_base.specs.Elementary.{elementary}
use Rattle.pc_presentation.specs.declared.syllable.Syllable.{Syllable}
use Rattle.pc_presentation.specs.declared.relation.Relation.{Relation}
use Rattle.pc_presentation.specs.Syllable.{spread, syllables_of}
use Rattle.pc_presentation.specs.Relation.{IsRelation, IsTail, side_start, PerRelation, entry_at, with_entry, per_relation}
use Rattle.pc_presentation.specs.Store.{Entry, stored_at}

-- tails count from 1
pub record TailedPresentation : Type 0 where
  pub presentation : Presentation
  pub weights : List ℕ
  pub tails : ℕ
  pub tail_table : PerRelation (Option ℕ)

abbrev pub tail_of : TailedPresentation → Relation → Option ℕ
tail_of T r = entry_at None T.tail_table r

-- the right sides of a presentation
abbrev pub sides_of : Presentation → PerRelation (List ℕ)
sides_of P = record { powers = P.powers; commutators = P.commutators }

-- the right side of a relation: the exponents of the generators from `side_start` on
abbrev pub right_side : Presentation → Relation → List ℕ
right_side P r = entry_at [] (sides_of P) r

-- the right side of a relation as a sparse word
abbrev pub side_word : Presentation → Relation → List Syllable
side_word P r = syllables_of (side_start r) (right_side P r)

-- the exponents of n tails: 1 at the given one, counted from 1, and 0 elsewhere
abbrev pub unit_row : ℕ → ℕ → List ℕ
unit_row zero t = []
unit_row (suc n) t = cond (eqb t 1) 1 0 ∷ unit_row n (t - 1)

abbrev pub row_of : ℕ → Option ℕ → List ℕ
row_of n None = replicate n 0
row_of n (Some t) = unit_row n t

-- the row over the tails that each relation carries
abbrev pub tail_rows : TailedPresentation → PerRelation (List ℕ)
tail_rows T = record {
  powers = map (row_of T.tails) T.tail_table.powers;
  commutators = map (λ row. map (row_of T.tails) row) T.tail_table.commutators;
}

-- a table with exactly an entry for each relation of n generators
pub record HasShape {X : Type 0} (n : ℕ) (t : PerRelation X) : Type 0 where
  pub power_count : length t.powers ≡ n
  pub row_count : length t.commutators ≡ n
  pub row_lengths : (j : ℕ) → j < n → length (get_or t.commutators j []) ≡ j

-- the relation has an empty right side and no tail
pub record IsBareRelation (T : TailedPresentation) (r : Relation) : Type 0 where
  pub side : right_side T.presentation r ≡ replicate (T.presentation.rank - side_start r) 0
  pub tail : tail_of T r ≡ None

-- the right side of a relation replaced
abbrev pub with_side : Presentation → Relation → List ℕ → Presentation
with_side P r e = let sides = with_entry (sides_of P) r e in
    record { prime = P.prime; rank = P.rank; powers = sides.powers; commutators = sides.commutators }

-- a relation replaced: its right side is a sparse word
abbrev pub with_relation : TailedPresentation → Relation → List Syllable → Option ℕ → TailedPresentation
with_relation T r word tail = record {
  presentation = with_side T.presentation r (spread (T.presentation.rank - side_start r) (side_start r) word);
  weights = T.weights;
  tails = T.tails;
  tail_table = with_entry T.tail_table r tail;
}

-- every right side is empty, and no relation has a tail
abbrev pub plain_presentation : ℕ → List ℕ → ℕ → TailedPresentation
plain_presentation p weights tails = record {
  presentation = elementary p (length weights);
  weights = weights;
  tails = tails;
  tail_table = per_relation (length weights) (λ _. None);
}

pub record IsTailedPresentation (T : TailedPresentation) : Type 0 where
  pub prime : IsOffered T.presentation.prime
  pub presentation : IsPresentation T.presentation
  pub rank_limit : T.presentation.rank ≤ max_rank
  pub weight_count : length T.weights ≡ T.presentation.rank
  pub tail_shape : HasShape T.presentation.rank T.tail_table
  pub tails : (r : Relation) → IsRelation T.presentation.rank r → IsTail T.tails (tail_of T r)

-- the presentation of a list of entries
abbrev pub tailed_presentation : ℕ → List ℕ → ℕ → List Entry → TailedPresentation
tailed_presentation p weights tails entries =
    let n = length weights in
    let sides = per_relation n (λ r. spread (n - side_start r) (side_start r) (stored_at n entries r).word) in
    record {
      presentation = record { prime = p; rank = n; powers = sides.powers; commutators = sides.commutators };
      weights = weights;
      tails = tails;
      tail_table = per_relation n (λ r. (stored_at n entries r).tail);
    }
