-- Relations with an empty word: their right sides are zeros, and without a tail they are bare. A generator that commutes with each
-- later one that an element has finds these relations bare.
use Rattle.std.proofs.Common.{◌≡◌, ◌≢◌, ℕ, suc, ◌+◌, ◌-◌, ◌<◌, ◌≤◌, Option, None, Some, is_some, Bool, true, false, not, IsTrue, List, []}
use Rattle.std.proofs.Common.{◌∷◌, get_or, length, replicate, refl, ap, sym, ◌∙◌, subst, arith, inl, inr}
use Rattle.std.proofs.lemmas.Bool.Decides.{eqb_tells}
use Rattle.pc_presentation.specs.declared.syllable.Syllable.{Syllable}
use Rattle.pc_presentation.specs.declared.relation.Relation.{Relation}
use Rattle.pc_presentation.specs.declared.relation.Relation.TheVariants.{Commutator}
use Rattle.pc_presentation.specs.Syllable.{spread, syllables_of}
use Rattle.pc_presentation.specs.Relation.{IsRelation, side_start}
use Rattle.pc_presentation.specs.Pcp.{TailedPresentation, IsTailedPresentation, IsBareRelation, right_side, side_word, tail_of}
use Rattle.pc_presentation.specs.Commuting.{IsBare}
use Rattle.pc_presentation.specs.CommutingLaws.{PassesBarely}
use Rattle.pc_presentation.specs.Tailed.{Element, rowed_presentation}
use Rattle.pc_presentation.proofs.presentations.SyllableParts.{syllables_of-zeros}
use Rattle.pc_presentation.proofs.presentations.PlainLaws.{spread-nil}
use Rattle.pc_presentation.proofs.presentations.SideLaws.{spread-side_word}
use Rattle.pc_presentation.proofs.presentations.BareRelations.{IsBare-relation, IsBareRelation-bare}

pub no_syllables : (w : List Syllable) → length w ≡ 0 → w ≡ []
no_syllables [] h = refl
no_syllables (s ∷ w) h = absurd (omega arith)

no_tail : (t : Option ℕ) (b : Bool) → is_some t ≡ not b → IsTrue b → t ≡ None
no_tail None b e h = refl
no_tail (Some x) true e h = cc
no_tail (Some x) false e h = cc

is_none-None : (t : Option ℕ) (b : Bool) → is_some t ≡ not b → t ≡ None → IsTrue b
is_none-None None true e h = refl
is_none-None None false e h = cc
is_none-None (Some x) b e h = cc

module _ (T : TailedPresentation) (is : IsTailedPresentation T) where
  pub side-empty : (r : Relation) (w : List Syllable) → IsRelation T.presentation.rank r
      → w ≡ side_word T.presentation r → length w ≡ 0
      → right_side T.presentation r ≡ replicate (T.presentation.rank - side_start r) 0
  side-empty r w h q none =
      sym (spread-side_word T.presentation is.presentation r T.presentation.rank h refl)
      ∙ ap (spread (T.presentation.rank - side_start r) (side_start r)) (sym q ∙ no_syllables w none)
      ∙ spread-nil (T.presentation.rank - side_start r) (side_start r)

  pub bare-empty : (r : Relation) (w : List Syllable) (t : Option ℕ) (b : Bool) → IsRelation T.presentation.rank r
      → w ≡ side_word T.presentation r → length w ≡ 0 → t ≡ tail_of T r → is_some t ≡ not b → IsTrue b → IsBareRelation T r
  bare-empty r w t b h q none u is_none true_b = record { side = side-empty r w h q none; tail = sym u ∙ no_tail t b is_none true_b }

  -- the generators with numbers j + 1 > g
  bare-numbered : (g j : ℕ) → 1 ≤ g → g ≤ j → j < T.presentation.rank → IsBareRelation T (Commutator (j + 1) g)
      → IsBare (rowed_presentation T) j (g - 1)
  bare-numbered g j one later within b =
      let number : g ≡ suc (g - 1) = omega arith in
      let place : j + 1 ≡ suc j = omega arith in
      IsBare-relation T is j (g - 1) within (omega arith)
      (subst (λ (k : ℕ). IsBareRelation T (Commutator (suc j) k)) number (subst (λ (l : ℕ). IsBareRelation T (Commutator l g)) place b))

  -- one letter more that is passed barely
  pub passes-more : (e : Element) (g j : ℕ) → 1 ≤ g → g ≤ j → j < T.presentation.rank
      → ((k : ℕ) → g - 1 < k → k < j → get_or e.state.exponents k 0 ≢ 0 → IsBare (rowed_presentation T) k (g - 1))
      → (get_or e.state.exponents j 0 ≢ 0 → IsBareRelation T (Commutator (j + 1) g))
      → (k : ℕ) → g - 1 < k → k < j + 1 → get_or e.state.exponents k 0 ≢ 0 → IsBare (rowed_presentation T) k (g - 1)
  passes-more e g j one later within passed here k after before some = elim (eqb_tells k j) [
    | inl t ↦
        let same : j ≡ k = sym t.1 in
        subst (λ (i : ℕ). IsBare (rowed_presentation T) i (g - 1)) same
        (bare-numbered g j one later within
        (here (subst (λ (i : ℕ). get_or e.state.exponents i 0 ≢ 0) (sym same) some)))
    | inr f ↦ let ne : k ≢ j = f.1 in passed k after (omega arith) some
  ]

  pub bare-passed : (e : Element) (g j : ℕ) → 1 ≤ g → g ≤ j → j < T.presentation.rank → PassesBarely (rowed_presentation T) e.state (g - 1)
      → get_or e.state.exponents j 0 ≢ 0 → IsBareRelation T (Commutator (j + 1) g)
  bare-passed e g j one later within passes some =
      let number : suc (g - 1) ≡ g = omega arith in
      let place : suc j ≡ j + 1 = omega arith in
      subst (λ (k : ℕ). IsBareRelation T (Commutator (j + 1) k)) number
      (subst (λ (l : ℕ). IsBareRelation T (Commutator l (suc (g - 1)))) place
      (IsBareRelation-bare T is j (g - 1) within (omega arith) (passes j (omega arith) within some)))

-- and back
pub empty-bare : (T : TailedPresentation) (r : Relation) (w : List Syllable) → w ≡ side_word T.presentation r
    → IsBareRelation T r → w ≡ []
empty-bare T r w q b = q ∙ ap (syllables_of (side_start r)) b.side ∙ syllables_of-zeros (side_start r) (T.presentation.rank - side_start r)

pub is_none-bare : (T : TailedPresentation) (r : Relation) (t : Option ℕ) (b : Bool) → t ≡ tail_of T r → is_some t ≡ not b
    → IsBareRelation T r → IsTrue b
is_none-bare T r t b q is_none bare = is_none-None t b is_none (q ∙ bare.tail)
