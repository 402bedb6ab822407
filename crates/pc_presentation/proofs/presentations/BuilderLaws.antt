-- A presentation in the making: how it begins, and what one relation more makes of it. Relations that weren't given stay bare.
use Rattle.std.proofs.Common.{◌≡◌, ◌≢◌, ℕ, Option, Bool, true, false, List, length, replicate, ap, sym, ◌∙◌, subst, inl, inr}
use Rattle.std.proofs.Math.ListN.{set}
use Rattle.std.proofs.lemmas.Bool.{cases_eq}
use Rattle.pc_presentation.specs.declared.syllable.Syllable.{Syllable}
use Rattle.pc_presentation.specs.declared.relation.Relation.{Relation}
use Rattle.pc_presentation.specs.Relation.{IsRelation, PerRelation, relation_number, relation_count}
use Rattle.pc_presentation.specs.Pcp.{TailedPresentation, IsTailedPresentation, HasShape, plain_presentation, with_relation}
use Rattle.pc_presentation.specs.Builder.{Draft, empty_draft, extended, WasGiven, OthersAreBare, flags_of}
use Rattle.pc_presentation.proofs.presentations.RelationNumbers.{relation_number-injective}
use Rattle.pc_presentation.proofs.presentations.PutLaws.{flags_replaced}
use Rattle.pc_presentation.proofs.presentations.PlainLaws.{no_flags}
use Rattle.pc_presentation.proofs.presentations.BareRelations.{IsBareRelation-plain, IsBareRelation-with_other}
use Rattle.pc_presentation.proofs.normal_tables.EntryLaws.{entry_at-with_entry_same, entry_at-with_entry_other}

-- the draft of a presentation and its flags
abbrev pub draft : TailedPresentation → List Bool → Draft
draft T flags = record { built = T; given = flags_of T.presentation.rank flags }

pub draft-empty : (p tails m : ℕ) (weights : List ℕ) (T : TailedPresentation) (flags : List Bool) → T ≡ plain_presentation p weights tails
    → flags ≡ replicate m false → draft T flags ≡ empty_draft p weights tails
draft-empty p tails m weights T flags e f =
    ap (λ (t : TailedPresentation). draft t flags) e
    ∙ ap (draft (plain_presentation p weights tails)) f
    ∙ ap (λ (g : PerRelation Bool). let d : Draft = record { built = plain_presentation p weights tails; given = g } in d)
    (no_flags (length weights) m)

pub draft-extended : (T U : TailedPresentation) (flags : List Bool) (r : Relation) (word : List Syllable) (tail : Option ℕ) (k : ℕ)
    → length flags ≡ relation_count T.presentation.rank → IsRelation T.presentation.rank r → k ≡ relation_number T.presentation.rank r
    → U ≡ with_relation T r word tail → draft U (set flags k true) ≡ extended (draft T flags) r word tail
draft-extended T U flags r word tail k long h e f =
    ap (λ (t : TailedPresentation). draft t (set flags k true)) f
    ∙ ap (λ (i : ℕ). draft (with_relation T r word tail) (set flags i true)) e
    ∙ ap (λ (g : PerRelation Bool). let d : Draft = record { built = with_relation T r word tail; given = g } in d)
    (sym (flags_replaced T.presentation.rank flags r true long h))

pub OthersAreBare-empty : (p tails : ℕ) (weights : List ℕ) → OthersAreBare (empty_draft p weights tails)
OthersAreBare-empty p tails weights = λ r h ne. IsBareRelation-plain p tails weights r h

pub OthersAreBare-extended : (D : Draft) (r : Relation) (word : List Syllable) (tail : Option ℕ) → IsTailedPresentation D.built
    → HasShape D.built.presentation.rank D.given → IsRelation D.built.presentation.rank r → OthersAreBare D
    → OthersAreBare (extended D r word tail)
OthersAreBare-extended D r word tail is shape h bare = λ q l ne.
    let n : ℕ = D.built.presentation.rank in
    elim (cases_eq (relation_number n q) (relation_number n r)) [
      | inl e ↦ absurd (ne (subst (WasGiven (extended D r word tail)) (sym (relation_number-injective n q r l h e))
          (entry_at-with_entry_same n D.given false shape r true h)))
      | inr other ↦
          let apart : q ≢ r = λ (e : q ≡ r). other (ap (relation_number n) e) in
          IsBareRelation-with_other D.built is r word tail h q l apart
          (bare q l (λ given. ne (entry_at-with_entry_other n D.given false shape r true h q l apart ∙ given)))
    ]
