-- The right sides of relations by the numbers of their generators: they are spelled in generators after those of the left
-- side, and with their tails they are the sides and rows at the places of these generators.
use Rattle.std.proofs.Common.{◌≡◌, ℕ, suc, ◌-◌, ◌<◌, ◌≤◌, Option, List, ap, sym, ◌∙◌, subst, arith}
use Rattle.pq_base.specs.Presentation.{power_side, commutator_side}
use Rattle.pc_presentation.specs.declared.syllable.Syllable.{Syllable}
use Rattle.pc_presentation.specs.declared.relation.Relation.{Relation}
use Rattle.pc_presentation.specs.declared.relation.Relation.TheVariants.{Power, Commutator}
use Rattle.pc_presentation.specs.Syllable.{AreGenerators}
use Rattle.pc_presentation.specs.Relation.{IsRelation, side_start}
use Rattle.pc_presentation.specs.Pcp.{TailedPresentation, IsTailedPresentation, right_side, side_word, row_of, tail_of}
use Rattle.pc_presentation.specs.Rowed.{power_row, commutator_row}
use Rattle.pc_presentation.specs.Collection.{Configuration, spelled}
use Rattle.pc_presentation.specs.Tailed.{rowed_presentation, sparse_configuration, side_with_tail}
use Rattle.pc_presentation.proofs.quotients.TailedLaws.{power_side-with_tail, commutator_side-with_tail, places_of-syllables_of}
use Rattle.pc_presentation.proofs.quotients.TailedLaws.{generators-syllables_of}
use Rattle.pc_presentation.proofs.presentations.SideLaws.{right_side-count}

module _ (T : TailedPresentation) (is : IsTailedPresentation T) where
  pub side-generators : (r : Relation) → IsRelation T.presentation.rank r → (w : List Syllable)
      → w ≡ side_word T.presentation r → AreGenerators T.presentation.rank w
  side-generators r h w q =
      let count = right_side-count T.presentation is.presentation r h in
      subst (AreGenerators T.presentation.rank) (sym q)
      (generators-syllables_of T.presentation.rank (side_start r) (right_side T.presentation r) (omega arith))

  -- at places
  pub power_side-numbered : (i : ℕ) → 1 ≤ i → i ≤ T.presentation.rank
      → side_with_tail T (Power i)
      ≡ record {
        word = spelled (suc (i - 1)) (power_side (rowed_presentation T).base (i - 1));
        row = power_row (rowed_presentation T) (i - 1);
      }
  power_side-numbered i one last =
      let a : i ≡ suc (i - 1) = omega arith in
      ap (λ (k : ℕ). side_with_tail T (Power k)) a ∙ power_side-with_tail T is (i - 1) (omega arith)

  pub commutator_side-numbered : (j i : ℕ) → 1 ≤ i → i < j → j ≤ T.presentation.rank
      → side_with_tail T (Commutator j i)
      ≡ record {
        word = spelled (suc (j - 1)) (commutator_side (rowed_presentation T).base (j - 1) (i - 1));
        row = commutator_row (rowed_presentation T) (j - 1) (i - 1);
      }
  commutator_side-numbered j i one less last =
      let a : j ≡ suc (j - 1) = omega arith in
      let b : i ≡ suc (i - 1) = omega arith in
      ap (λ (k : ℕ). side_with_tail T (Commutator k i)) a ∙ ap (λ (k : ℕ). side_with_tail T (Commutator (suc (j - 1)) k)) b
      ∙ commutator_side-with_tail T is (j - 1) (i - 1) (omega arith) (omega arith)

-- what is read of a relation
pub side-read : (T : TailedPresentation) (r : Relation) (w : List Syllable) (t : Option ℕ) → w ≡ side_word T.presentation r
    → t ≡ tail_of T r → sparse_configuration T.tails w t ≡ side_with_tail T r
side-read T r w t q u =
    ap (λ (v : List Syllable). sparse_configuration T.tails v t) q
    ∙ ap (λ (v : List ℕ). let c : Configuration = record { word = v; row = row_of T.tails t } in c)
    (places_of-syllables_of (side_start r) (right_side T.presentation r))
    ∙ ap (λ (x : Option ℕ). let c : Configuration =
    record { word = spelled (side_start r) (right_side T.presentation r); row = row_of T.tails x } in c) u
