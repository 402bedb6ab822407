-- What one relation more does to the presentation of a cover in the making: it stays faithful, and nothing that was given is
-- lost.
use Rattle.std.proofs.Common.{◌≡◌, ◌≢◌, ◌⊎◌, ◌<◌, ◌+◌, ◌-◌, ℕ, true, false, Option, Some, None, List, [], get_or, length, refl, ap, sym}
use Rattle.std.proofs.Common.{◌∙◌, subst, inl, inr, arith}
use Rattle.std.proofs.lemmas.Bool.{cases_lt, false_from_ne_true}
use Rattle.std.proofs.lemmas.List.Elements.{All-from_get_or}
use Rattle.pq_base.specs.Presentation.{IsPresentation}
use Rattle.pq_base.specs.Answer.{Answer, Definition as Source}
use Rattle.pq_base.specs.Answer.Definition.{image, commutator, power}
use Rattle.pq_base.specs.Canonical.{same_definition}
use Rattle.pq_base.proofs.vectors.CanonicalTests.{same-definition_refl}
use Rattle.pc_presentation.specs.declared.relation.Relation.{Relation}
use Rattle.pc_presentation.specs.declared.relation.Relation.TheVariants.{Power as PowerOf, Commutator as CommutatorOf}
use Rattle.pc_presentation.specs.Syllable.{spread}
use Rattle.pc_presentation.specs.Relation.{IsRelation, side_start}
use Rattle.pc_presentation.specs.Pcp.{right_side, side_word, sides_of, tail_of}
use Rattle.pc_presentation.specs.Builder.{Draft, WasGiven, extended}
use Rattle.pc_presentation.proofs.presentations.RelationNumbers.{same_or_other}
use Rattle.pc_presentation.proofs.presentations.SideLaws.{spread-side_word}
use Rattle.pc_presentation.proofs.normal_tables.EntryLaws.{with_entry-shape, entry_at-with_entry_same, entry_at-with_entry_other}
use Rattle.p_cover.specs.Sources.{relation_source, place_in}
use Rattle.p_cover.specs.Given.{IsFaithful, IsBegun, Gives, GoesOn, Completes}
use Rattle.p_cover.proofs.PlaceLaws.{same_definition-eq, place_in-outside, place_from-first, same_power, same_first, same_second}

power_no_commutator : (i j k : ℕ) → power i ≢ commutator j k
power_no_commutator i j k e = cc

power_no_image : (i k : ℕ) → power i ≢ image k
power_no_image i k e = cc

commutator_no_image : (j i k : ℕ) → commutator j i ≢ image k
commutator_no_image j i k e = cc

-- a relation is one source
pub relation_source-injective : (q r : Relation) → relation_source q ≡ relation_source r → q ≡ r
relation_source-injective (PowerOf i) (PowerOf k) e = ap PowerOf (same_power i k e)
relation_source-injective (PowerOf i) (CommutatorOf l k) e = absurd (power_no_commutator i l k e)
relation_source-injective (CommutatorOf j i) (PowerOf k) e = absurd (power_no_commutator k j i (sym e))
relation_source-injective (CommutatorOf j i) (CommutatorOf l k) e =
    ap (λ (x : ℕ). CommutatorOf x i) (same_first j i l k e) ∙ ap (CommutatorOf l) (same_second j i l k e)

-- and no image
pub relation_no_image : (q : Relation) (k : ℕ) → relation_source q ≢ image k
relation_no_image (PowerOf i) k e = power_no_image i k e
relation_no_image (CommutatorOf j i) k e = commutator_no_image j i k e

module _ (A : Answer) (is : IsPresentation A.presentation) where
  module _ (ds : List Source) (D : Draft) (f : IsFaithful A ds D) (r : Relation) (h : IsRelation A.presentation.rank r)
      (tail : Option ℕ) where
    abbrev longer : Draft
    longer = extended D r (side_word A.presentation r) tail

    abbrev side : List ℕ
    side = spread (D.built.presentation.rank - side_start r) (side_start r) (side_word A.presentation r)

    given_here : WasGiven longer r
    given_here = entry_at-with_entry_same A.presentation.rank D.given false f.given_shape r true h

    given_before : (q : Relation) → IsRelation A.presentation.rank q → q ≢ r → WasGiven longer q → WasGiven D q
    given_before q l ne g = sym (entry_at-with_entry_other A.presentation.rank D.given false f.given_shape r true h q l ne) ∙ g

    given_still : (q : Relation) → IsRelation A.presentation.rank q → WasGiven D q → WasGiven longer q
    given_still q l g = elim (same_or_other A.presentation.rank q r l h) [
      | inl e ↦ subst (WasGiven longer) (sym e) given_here
      | inr ne ↦ entry_at-with_entry_other A.presentation.rank D.given false f.given_shape r true h q l ne ∙ g
    ]

    faithful_extended : tail ≡ place_in ds (relation_source r) → IsFaithful A ds longer
    faithful_extended place = record {
      prime = f.prime;
      rank = f.rank;
      weights = f.weights;
      tails = f.tails;
      side_shape = with_entry-shape A.presentation.rank (sides_of D.built.presentation) [] f.side_shape r side h;
      tail_shape = with_entry-shape A.presentation.rank D.built.tail_table None f.tail_shape r tail h;
      given_shape = with_entry-shape A.presentation.rank D.given false f.given_shape r true h;
      sides = λ q l g. elim (same_or_other A.presentation.rank q r l h) [
        | inl e ↦
            subst (λ (x : Relation). right_side longer.built.presentation x ≡ right_side A.presentation x) (sym e)
            (entry_at-with_entry_same A.presentation.rank (sides_of D.built.presentation) [] f.side_shape r side h
            ∙ spread-side_word A.presentation is r D.built.presentation.rank h f.rank)
        | inr ne ↦
            entry_at-with_entry_other A.presentation.rank (sides_of D.built.presentation) [] f.side_shape r side h q l ne
            ∙ f.sides q l (given_before q l ne g)
      ];
      tail_numbers = λ q l g. elim (same_or_other A.presentation.rank q r l h) [
        | inl e ↦
            subst (λ (x : Relation). tail_of longer.built x ≡ place_in ds (relation_source x)) (sym e)
            (entry_at-with_entry_same A.presentation.rank D.built.tail_table None f.tail_shape r tail h ∙ place)
        | inr ne ↦
            entry_at-with_entry_other A.presentation.rank D.built.tail_table None f.tail_shape r tail h q l ne
            ∙ f.tail_numbers q l (given_before q l ne g)
      ];
    }

  -- a relation of which the list says the place
  module _ (ds : List Source) (D E : Draft) (k : ℕ) (b : IsBegun A ds k D) (inside : k < length ds) where
    -- what was given up to a place, and what stands there
    up_to_here : (F : Draft) (here : Source) → get_or ds k (image 0) ≡ here
        → ((q : Relation) → IsRelation A.presentation.rank q → WasGiven D q → WasGiven F q)
        → ((q : Relation) → IsRelation A.presentation.rank q → here ≡ relation_source q → WasGiven F q)
        → (i : ℕ) (q : Relation) → i < k + 1 → IsRelation A.presentation.rank q → get_or ds i (image 0) ≡ relation_source q → WasGiven F q
    up_to_here F here at still now i q l m e = elim (cases_lt i k) [
      | inl below ↦ still q m (b.listed i q below m e)
      | inr above ↦
          let place : k ≡ i = omega arith in
          now q m (sym at ∙ ap (λ (x : ℕ). get_or ds x (image 0)) place ∙ e)
    ]

    place_of_listed : (r : Relation) → get_or ds k (image 0) ≡ relation_source r → IsRelation A.presentation.rank r → ¬ WasGiven D r
        → Some (k + 1) ≡ place_in ds (relation_source r)
    place_of_listed r here h new =
        let next : k + 1 ≡ 1 + k = omega arith in
        ap Some next
        ∙ sym (place_from-first 1 k ds (relation_source r) inside
        (λ i l. false_from_ne_true (same_definition (relation_source r) (get_or ds i (image 0)))
        (λ t. new (b.listed i r l h (sym (same_definition-eq (relation_source r) (get_or ds i (image 0)) t)))))
        (ap (same_definition (relation_source r)) here ∙ same-definition_refl (relation_source r)))

    pub begun-more : (r : Relation) → get_or ds k (image 0) ≡ relation_source r → IsRelation A.presentation.rank r
        → Gives D E r (side_word A.presentation r) (Some (k + 1)) → IsBegun A ds (k + 1) E
    begun-more r here h g = elim g [
      | inl new ↦
          subst (IsBegun A ds (k + 1)) (sym new.1) (record {
            faithful = faithful_extended ds D b.faithful r h (Some (k + 1)) (place_of_listed r here h new.0);
            listed = up_to_here (extended D r (side_word A.presentation r) (Some (k + 1))) (relation_source r) here
                (given_still ds D b.faithful r h (Some (k + 1)))
                (λ q m e. subst (WasGiven (extended D r (side_word A.presentation r) (Some (k + 1)))) (relation_source-injective r q e)
                (given_here ds D b.faithful r h (Some (k + 1))));
          })
      | inr old ↦
          subst (IsBegun A ds (k + 1)) (sym old.1) (record {
            faithful = b.faithful;
            listed =
                up_to_here D (relation_source r) here (λ q m w. w) (λ q m e. subst (WasGiven D) (relation_source-injective r q e) old.0);
          })
    ]

    pub begun-past_image : (i : ℕ) → get_or ds k (image 0) ≡ image i → IsBegun A ds (k + 1) D
    begun-past_image i here = record {
      faithful = b.faithful;
      listed = up_to_here D (image i) here (λ q m w. w) (λ q m e. absurd (relation_no_image q i (sym e)));
    }

  -- a relation that isn't on the list, or was given before
  pub goes_on-one : (D E : Draft) (r : Relation) → IsRelation A.presentation.rank r → Gives D E r (side_word A.presentation r) None
      → Completes A (λ q. q ≡ r) D E
  goes_on-one D E r h g ds b = elim g [
    | inl new ↦
        let place : None ≡ place_in ds (relation_source r) =
        sym (place_in-outside (λ d. d ≢ relation_source r) ds (relation_source r)
        (All-from_get_or (λ d. d ≢ relation_source r) ds (image 0)
        (λ i l (e : get_or ds i (image 0) ≡ relation_source r). new.0 (b.listed i r l h e)))
        (λ n. n refl)) in
        subst (GoesOn A (λ q. q ≡ r) ds D) (sym new.1) (record {
          begun = record {
            faithful = faithful_extended ds D b.faithful r h None place;
            listed = λ i q l m e. given_still ds D b.faithful r h None q m (b.listed i q l m e);
          };
          kept = given_still ds D b.faithful r h None;
          given = λ q m e. subst (WasGiven (extended D r (side_word A.presentation r) None)) (sym e) (given_here ds D b.faithful r h None);
        })
    | inr old ↦
        subst (GoesOn A (λ q. q ≡ r) ds D) (sym old.1)
        (record { begun = b; kept = λ q m w. w; given = λ q m e. subst (WasGiven D) (sym e) old.0 })
  ]

-- one thing after the other
pub goes_on-then : (A : Answer) (P Q R : Relation → Type 0) (D E F : Draft) → Completes A P D E → Completes A Q E F
    → ((q : Relation) → IsRelation A.presentation.rank q → R q → P q ⊎ Q q) → Completes A R D F
goes_on-then A P Q R D E F first second either ds b =
    let x : GoesOn A P ds D E = first ds b in
    let y : GoesOn A Q ds E F = second ds x.begun in
    record {
      begun = y.begun;
      kept = λ q l g. y.kept q l (x.kept q l g);
      given = λ q l r. elim (either q l r) [
        | inl p ↦ y.kept q l (x.given q l p)
        | inr s ↦ y.given q l s
      ];
    }

pub goes_on-none : (A : Answer) (R : Relation → Type 0) (D : Draft) → ((q : Relation) → IsRelation A.presentation.rank q → ¬ R q)
    → Completes A R D D
goes_on-none A R D none ds b = record { begun = b; kept = λ q l g. g; given = λ q l r. absurd (none q l r) }
