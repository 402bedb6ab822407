-- Full covers leave out definitions alone, which hold; and a light cover leaves out heavy commutators, whose tails are trivial in
-- the full cover. So both owe what they leave out.
use Rattle.std.proofs.Common.{◌≡◌, ℕ, zero, suc, ◌+◌, ◌<◌, List, length, refl, ap, sym, ◌∙◌, subst, arith, inl, inr}
use Rattle.pq_base.specs.Table.{Table, IsGroup, AllBelow, InLevel}
use Rattle.pq_base.specs.Answer.{Answer, Definition as Source, IsAnswer, class_of}
use Rattle.pq_base.specs.Answer.Definition.{image, commutator, power}
use Rattle.pq_base.specs.Canonical.{IsCanonical}
use Rattle.pq_base.specs.EntryWords.{IsSourceOf, entry_word}
use Rattle.pq_base.proofs.groups.Groups.{Group, value_in}
use Rattle.pq_base.proofs.groups.LevelGroups.{level_group, same_one-level}
use Rattle.pq_base.proofs.tables.TableGroup.{Element, elements}
use Rattle.pq_base.proofs.tables.TableSeries.{table_level-zero}
use Rattle.p_cover.specs.RowedAnswer.{row_at, tails_word}
use Rattle.p_cover.specs.Covers.{CoverOf, IsCover, all_sources, cover_on}
use Rattle.p_cover.proofs.PartLaws.{part_of_itself}
use Rattle.cover_quotient.specs.Fits.{Fits, tail_element, LeftOutFit}
use Rattle.cover_quotient.specs.Stages.{Condition, OwesWhatItLeavesOut, Obeying, full_cover_of, IsHeavy, IsLightCover}
use Rattle.cover_quotient.specs.StageLaws.{FullCoversOwe, LightCoversOwe}
use Rattle.cover_quotient.proofs.canonical_answers.HeavyTails.{heavy_tails_are_trivial}
use Rattle.cover_quotient.proofs.fitting.CoverFits.{given-number, cover-central, cover-left_out}
use Rattle.cover_quotient.proofs.fitting.CoverValues.{entry_elements, cover-entries}
use Rattle.cover_quotient.proofs.fitting.TailValues.{with_tails}
use Rattle.cover_quotient.proofs.fitting.ExactImages.{left_out-holds}
use Rattle.cover_quotient.proofs.fitting.FittingLaws.{full_covers_fit}
use Rattle.cover_quotient.proofs.fitting.JustifiedValues.{empty-justified}

pub full-owes : (Adm : Condition) (given : List (List ℕ)) (C : CoverOf) → IsCover C → C.sources ≡ all_sources C.answer
    → OwesWhatItLeavesOut Adm given C
full-owes Adm given C is full = record { cover = is; left_out = λ T f c a fits. full_covers_fit T f c C a.group a.elements is full }

module _ (T : Table) (f : List ℕ) (c : ℕ) (g : IsGroup T) (below : AllBelow T.size f) (A : Answer) (is : IsAnswer A)
    (fits : Fits T f c A) where
  abbrev p : ℕ
  p = A.presentation.prime

  abbrev Q : Group
  Q = level_group T g A.presentation.prime (suc c)

  abbrev F : List (Element T)
  F = elements T f below

  cover : IsCover (full_cover_of A)
  cover = record { answer = is; sources = part_of_itself (all_sources A) }

  left : LeftOutFit T f c (full_cover_of A)
  left = full_covers_fit T f c (full_cover_of A) g below cover refl

  -- what a commutator with a trivial tail in the full cover fails by
  heavy-level : IsCanonical A → (j i : ℕ) → j < A.presentation.rank → i < j → IsHeavy A (commutator (suc j) (suc i))
      → InLevel T A.presentation.prime (suc c) (tail_element T f A (commutator (suc j) (suc i)))
  heavy-level canonical j i l b heavy =
      let d : Source = commutator (suc j) (suc i) in
      let some = is.presentation.prime in
      let out = cover-left_out T g f below c (full_cover_of A) cover some left fits in
      let entry = cover-entries Q F A is (all_sources A) out (commutator (suc j) (suc i)) (l, b) in
      let trivial =
      empty-justified Q F A is some (all_sources A) (part_of_itself (all_sources A))
      (cover-central T g f below c (full_cover_of A) cover some left fits)
      out (row_at (cover_on A (all_sources A)) (commutator (suc j) (suc i)))
      (heavy_tails_are_trivial (full_cover_of A) cover canonical (suc j) (suc i) (omega arith) (omega arith) (omega arith) heavy) in
      subst (λ (x : ℕ). InLevel T p (suc c) x) (given-number T g p (suc c) f below A (entry_word A d))
      (same_one-level T g p (suc c) (value_in Q F (entry_word A d))
      (Q.transitive {x = value_in Q F (entry_word A (commutator (suc j) (suc i)))}
      {y = value_in Q (with_tails Q F A is (entry_elements Q F A (all_sources A)))
      (tails_word (cover_on A (all_sources A)) (row_at (cover_on A (all_sources A)) (commutator (suc j) (suc i))))}
      {z = Q.one} entry trivial))

  heavy-holds : IsCanonical A → (d : Source) → IsSourceOf A d → IsHeavy A d → InLevel T A.presentation.prime (suc c) (tail_element T f A d)
  heavy-holds canonical (image i) s heavy = absurd heavy
  heavy-holds canonical (commutator zero i) s heavy = absurd s
  heavy-holds canonical (commutator (suc j) zero) s heavy = absurd s
  heavy-holds canonical (commutator (suc j) (suc i)) s heavy = heavy-level canonical j i s.0 s.1 heavy
  heavy-holds canonical (power j) s heavy = absurd heavy

pub light-owes : (Adm : Condition) (given : List (List ℕ)) (C : CoverOf) → IsLightCover C → OwesWhatItLeavesOut Adm given C
light-owes Adm given C light = record {
  cover = light.cover;
  left_out = λ T f c a fits d s e. elim (light.left_out d s e) [
    | inl defines ↦
        subst (λ (x : ℕ). InLevel T C.answer.presentation.prime (suc c) x)
        (sym (left_out-holds T a.group f a.elements C.answer light.cover.answer d s defines))
        (table_level-zero T a.group C.answer.presentation.prime (suc c))
    | inr heavy ↦ heavy-holds T f c a.group a.elements C.answer light.cover.answer fits light.canonical d s heavy
  ];
}

pub full_covers_owe : FullCoversOwe
full_covers_owe L C is full = full-owes (Obeying L) L.names C is full

pub light_covers_owe : LightCoversOwe
light_covers_owe L C light = light-owes (Obeying L) L.names C light
