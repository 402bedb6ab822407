-- The right sides of relations, and the images of given generators, as they are read: with what the left side spells they make the
-- entry word, and their generators are those of the answer.
use Rattle.std.proofs.Common.{◌≡◌, ℕ, zero, suc, ◌+◌, ◌-◌, ◌≤◌, ℤ, List, [], ◌++◌, get_or, length, ap, ap₂, sym, ◌∙◌, subst, arith}
use Rattle.std.proofs.Math.ListN.{get_or-map}
use Rattle.pq_base.specs.SignedWord.{inv, sub}
use Rattle.pq_base.specs.Presentation.{Presentation, word_from, normal_word}
use Rattle.pq_base.specs.Answer.{Answer, Definition as Source, IsAnswer, spelled}
use Rattle.pq_base.specs.Answer.Definition.{image}
use Rattle.pq_base.specs.EntryWords.{IsSourceOf, spelling_words}
use Rattle.pq_base.proofs.NormalLists.{normal-entry}
use Rattle.pq_base.proofs.words.SpelledLists.{side_word, entry_word-spelled}
use Rattle.pc_presentation.specs.declared.syllable.Syllable.{Syllable}
use Rattle.pc_presentation.specs.declared.relation.Relation.{Relation}
use Rattle.pc_presentation.specs.declared.relation.Relation.TheVariants.{Power, Commutator}
use Rattle.pc_presentation.specs.Syllable.{letters_of, syllables_of, AreGenerators}
use Rattle.pc_presentation.specs.Relation.{side_start}
use Rattle.pc_presentation.specs.Pcp.{right_side}
use Rattle.pc_presentation.proofs.presentations.SyllableLaws.{letters_of-syllables_of}
use Rattle.pc_presentation.proofs.quotients.TailedLaws.{generators-syllables_of}
use Rattle.p_cover.specs.Sources.{relation_source}
use Rattle.p_cover.specs.CoverLaws.{IsSource}
use Rattle.p_cover.proofs.SourceNumbers.{source-by_name}
use Rattle.endo_lift.specs.Values.{IsRightSide}

right_side-is : (A : Answer) (d : Source) (w : List Syllable) → IsSourceOf A d → letters_of w ≡ side_word A d → IsRightSide A d w
right_side-is A d w h q =
    entry_word-spelled A d h
    ∙ ap (λ (u : List ℤ). inv (sub u (spelling_words A)) ++ spelled A.presentation.prime (spelling_words A) d) (sym q)

-- a right side as it is read
pub record IsRead (A : Answer) (d : Source) (w : List Syllable) : Type 0 where
  pub side : IsRightSide A d w
  pub generators : AreGenerators A.presentation.rank w

module _ (A : Answer) (is : IsAnswer A) where
  side_word-relation : (r : Relation) → IsSourceOf A (relation_source r)
      → side_word A (relation_source r) ≡ word_from (side_start r) (right_side A.presentation r)
  side_word-relation (Power zero) h = absurd h
  side_word-relation (Power (suc j)) h =
      let place : suc j - 1 ≡ j = omega arith in
      ap (λ (n : ℕ). word_from (suc j) (get_or A.presentation.powers n [])) (sym place)
  side_word-relation (Commutator zero i) h = absurd h
  side_word-relation (Commutator (suc j) zero) h = absurd h
  side_word-relation (Commutator (suc j) (suc i)) h =
      let first : suc j - 1 ≡ j = omega arith in
      let second : suc i - 1 ≡ i = omega arith in
      ap₂ (λ (m n : ℕ). word_from (suc j) (get_or (get_or A.presentation.commutators m []) n [])) (sym first) (sym second)

  right_side-count : (r : Relation) → IsSource A (relation_source r)
      → side_start r + length (right_side A.presentation r) ≤ A.presentation.rank
  right_side-count (Power i) h =
      let c = (is.presentation.power_sides (i - 1) (omega arith)).count in
      omega arith
  right_side-count (Commutator j i) h =
      let c = (is.presentation.commutator_sides (j - 1) (i - 1) (omega arith) (omega arith)).count in
      omega arith

  -- the right side of a relation d, which is read from the presentation of a cover
  pub relation-read : (r : Relation) (d : Source) (P : Presentation) (w : List Syllable) → relation_source r ≡ d → IsSourceOf A d
      → P ≡ A.presentation → w ≡ syllables_of (side_start r) (right_side P r) → IsRead A d w
  relation-read r d P w q h same read =
      let e : List ℕ = right_side A.presentation r in
      let source : IsSourceOf A (relation_source r) = subst (IsSourceOf A) (sym q) h in
      let word : w ≡ syllables_of (side_start r) (right_side A.presentation r) =
      read ∙ ap (λ (R : Presentation). syllables_of (side_start r) (right_side R r)) same in
      subst (λ (x : Source). IsRead A x w) q (record {
        side = right_side-is A (relation_source r) w source
            (ap letters_of word ∙ letters_of-syllables_of (side_start r) e ∙ sym (side_word-relation r source));
        generators = subst (AreGenerators A.presentation.rank) (sym word)
            (generators-syllables_of A.presentation.rank (side_start r) e
            (right_side-count r (source-by_name A is (relation_source r) source)));
      })

  image-side : (i : ℕ) (w : List Syllable) → IsSourceOf A (image i) → w ≡ syllables_of 0 (get_or A.images (i - 1) [])
      → IsRightSide A (image i) w
  image-side zero w h q = absurd h
  image-side (suc i) w h q =
      let place : suc i - 1 ≡ i = omega arith in
      right_side-is A (image (suc i)) w h
      (ap letters_of q ∙ letters_of-syllables_of 0 (get_or A.images (suc i - 1) [])
      ∙ ap (λ (n : ℕ). normal_word (get_or A.images n [])) place ∙ sym (get_or-map normal_word A.images i []))

  -- the image of a given generator
  pub image-read : (i : ℕ) (d : Source) (es : List (List ℕ)) (w : List Syllable) → image i ≡ d → IsSourceOf A d
      → es ≡ A.images → w ≡ syllables_of 0 (get_or es (i - 1) []) → IsRead A d w
  image-read i d es w q h same read =
      let source : IsSourceOf A (image i) = subst (IsSourceOf A) (sym q) h in
      let word : w ≡ syllables_of 0 (get_or A.images (i - 1) []) =
      read ∙ ap (λ (fs : List (List ℕ)). syllables_of 0 (get_or fs (i - 1) [])) same in
      let numbers = source-by_name A is (image i) source in
      let names = is.image_count in
      let count = (normal-entry A.presentation.prime A.presentation.rank A.images (i - 1) is.images (omega arith)).count in
      subst (λ (x : Source). IsRead A x w) q (record {
        side = image-side i w source word;
        generators = subst (AreGenerators A.presentation.rank) (sym word)
            (generators-syllables_of A.presentation.rank 0 (get_or A.images (i - 1) []) (omega arith));
      })
