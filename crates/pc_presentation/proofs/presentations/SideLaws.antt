-- The right sides of the relations of a presentation, and their sparse words: a side has an exponent below the prime for each
-- generator after its place, and its word stands for it.
use Rattle.std.proofs.Common.{◌≡◌, ℕ, ◌+◌, ◌-◌, List, length, ap, sym, ◌∙◌, subst, arith}
use Rattle.pq_base.specs.Table.{AllBelow}
use Rattle.pq_base.specs.Presentation.{Presentation, IsPresentation}
use Rattle.pc_presentation.specs.declared.syllable.Syllable.{Syllable}
use Rattle.pc_presentation.specs.declared.relation.Relation.{Relation}
use Rattle.pc_presentation.specs.declared.relation.Relation.TheVariants.{Power, Commutator}
use Rattle.pc_presentation.specs.Syllable.{spread, AreLater}
use Rattle.pc_presentation.specs.Relation.{IsRelation, side_start}
use Rattle.pc_presentation.specs.Pcp.{right_side, side_word}
use Rattle.pc_presentation.proofs.presentations.SyllableLaws.{spread-syllables_of}
use Rattle.pc_presentation.proofs.quotients.TailedLaws.{later-syllables_of}

-- the generators of the word come after the place of the side
pub side-later : (P : Presentation) (r : Relation) (w : List Syllable) → w ≡ side_word P r → AreLater (side_start r) w
side-later P r w q =
    subst (AreLater (side_start r)) (sym q) (later-syllables_of (side_start r) (side_start r) (right_side P r) (omega arith))

module _ (P : Presentation) (is : IsPresentation P) where
  -- an exponent for each generator after the place
  pub right_side-count : (r : Relation) → IsRelation P.rank r → side_start r + length (right_side P r) ≡ P.rank
  right_side-count (Power i) h =
      let c = (is.power_sides (i - 1) (omega arith)).count in
      omega arith
  right_side-count (Commutator j i) h =
      let c = (is.commutator_sides (j - 1) (i - 1) (omega arith) (omega arith)).count in
      omega arith

  -- each below the prime
  pub right_side-below : (r : Relation) → IsRelation P.rank r → AllBelow P.prime (right_side P r)
  right_side-below (Power i) h = (is.power_sides (i - 1) (omega arith)).below
  right_side-below (Commutator j i) h = (is.commutator_sides (j - 1) (i - 1) (omega arith) (omega arith)).below

  -- the sparse word of a right side stands for it
  pub spread-side_word : (r : Relation) (n : ℕ) → IsRelation P.rank r → n ≡ P.rank
      → spread (n - side_start r) (side_start r) (side_word P r) ≡ right_side P r
  spread-side_word r n h e =
      let count = right_side-count r h in
      let long : n - side_start r ≡ length (right_side P r) = omega arith in
      ap (λ (m : ℕ). spread m (side_start r) (side_word P r)) long ∙ spread-syllables_of (side_start r) (right_side P r)
