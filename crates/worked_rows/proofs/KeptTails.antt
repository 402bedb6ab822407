-- Tails that may be kept: each column without a pivot has to be one of these, and a relation without syllables has the empty word.
use native.Mathlib.Numerals.{unary_clauses}
use Rattle.std.proofs.Common.{◌≡◌, ◌≤◌, ◌-◌, ℕ, zero, suc, List, [], ◌∷◌, length, get_or, refl, arith}
use Rattle.std.proofs.lemmas.List.Elements.{All-map}
use Rattle.pq_base.specs.Presentation.{word_from, power_side, commutator_side}
use Rattle.pq_base.specs.Answer.{Answer, class_of}
use Rattle.pq_base.specs.Answer.Definition.{image}
use Rattle.fp_echelon.specs.Reduced.{BasisRow, IsPivot}
use Rattle.pc_presentation.specs.declared.relation.Relation.{Relation}
use Rattle.pc_presentation.specs.declared.relation.Relation.TheVariants.{Power, Commutator}
use Rattle.pc_presentation.specs.Syllable.{syllables_of}
use Rattle.pc_presentation.specs.Relation.{IsRelation, side_start}
use Rattle.pc_presentation.specs.Pcp.{right_side}
use Rattle.p_cover.specs.Sources.{relation_source}
use Rattle.p_cover.specs.Covers.{CoverOf}
use Rattle.cover_quotient.specs.Kept.{kept_columns}
use Rattle.cover_quotient.specs.Defining.{HasEmptySide, MayBeKept, KeptMayBeKept}
use Rattle.cover_quotient.proofs.kept_tails.KeptColumns.{all_kept}

-- the tail at a column, counted from 1, may be kept
abbrev pub MayAt : CoverOf → ℕ → Type 0
MayAt C t = MayBeKept C.answer (class_of C.answer) (get_or C.sources (t - 1) (image 0))

pub all_may : (C : CoverOf) (bs : List BasisRow)
    → ((t : ℕ) → 1 ≤ t → t ≤ length C.sources → ¬ IsPivot t bs → MayAt C t) → KeptMayBeKept C bs
all_may C bs may =
    All-map (MayBeKept C.answer (class_of C.answer)) (λ c. get_or C.sources (c - 1) (image 0)) (kept_columns (length C.sources) bs)
    (λ i d l. let kept = all_kept (length C.sources) bs i d l in
    may (get_or (kept_columns (length C.sources) bs) i d) kept.first kept.last kept.no_pivot)

-- exponents without syllables are those of the empty word
no_letters : (k m : ℕ) (es : List ℕ) → length (syllables_of k es) ≡ 0 → word_from m es ≡ []
no_letters k m [] h = refl
no_letters k m (zero ∷ es) h = no_letters (suc k) (suc m) es h
no_letters k m (suc e ∷ es) h = absurd (omega arith)

pub empty_side : (A : Answer) (n : ℕ) (r : Relation) → IsRelation n r
    → length (syllables_of (side_start r) (right_side A.presentation r)) ≡ 0 → HasEmptySide A (relation_source r)
empty_side A n (Power zero) h e = let first = h.0 in absurd (omega arith)
empty_side A n (Power (suc i)) h e = no_letters (suc i) (suc i) (power_side A.presentation i) (simp unary_clauses at e)
empty_side A n (Commutator zero i) h e = let less = h.1 in absurd (omega arith)
empty_side A n (Commutator (suc j) zero) h e = let first = h.0 in absurd (omega arith)
empty_side A n (Commutator (suc j) (suc i)) h e =
    no_letters (suc j) (suc j) (commutator_side A.presentation j i) (simp unary_clauses at e)
