-- Answers are equal where their parts are: a presentation by its prime, its rank and the right sides of its relations, as each list has the
-- length that the rank gives it.
use Rattle.std.proofs.Common.{◌≡◌, ◌↔◌, ◌<◌, ◌+◌, ◌-◌, ℕ, Bool, true, false, ◌&&◌, ◌==◌, IsTrue, List, [], get_or, length, refl, ap, ap₂}
use Rattle.std.proofs.Common.{sym, ◌∙◌, subst, arith}
use Rattle.std.specs.Bool.{Decides}
use Rattle.std.proofs.lemmas.List.{ext_get_or}
use Rattle.std.proofs.lemmas.Bool.Decides.{Decides-eqb}
use Rattle.pq_base.specs.Presentation.{Presentation, IsPresentation, power_side, commutator_side}
use Rattle.pq_base.specs.Answer.{Answer, Definition, IsAnswer, definition_at}
use Rattle.pq_base.specs.Answer.Definition.{image}
use Rattle.pq_base.proofs.NormalLists.{normal-entry}
use Rattle.pc_presentation.specs.declared.syllable.Syllable.{Syllable}
use Rattle.pc_presentation.specs.declared.relation.Relation.TheVariants.{Power, Commutator}
use Rattle.pc_presentation.specs.Syllable.{syllable, spread, syllables_of}
use Rattle.pc_presentation.specs.Pcp.{right_side}
use Rattle.pc_presentation.proofs.presentations.SyllableLaws.{spread-syllables_of}

both : (x y : Bool) → (x && y) ≡ true → (x ≡ true) × (y ≡ true)
both true true h = (refl, refl)
both true false h = cc
both false y h = cc

pub syllable_decides : (a b : Syllable) → Decides ((a.generator == b.generator) && (a.exponent == b.exponent)) (a ≡ b)
syllable_decides a b = (
  λ h. let parts = both (a.generator == b.generator) (a.exponent == b.exponent) h in
      ap₂ syllable ((Decides-eqb a.generator b.generator).0 parts.0) ((Decides-eqb a.exponent b.exponent).0 parts.1),
  λ e. ap₂ (λ (x y : Bool). x && y) ((Decides-eqb a.generator b.generator).1 (ap (λ (s : Syllable). s.generator) e))
      ((Decides-eqb a.exponent b.exponent).1 (ap (λ (s : Syllable). s.exponent) e)),
)

-- lists of one length are equal where their sparse words are
pub syllables-decide : (k : ℕ) (x y : List ℕ) → length x ≡ length y → syllables_of k x ≡ syllables_of k y → x ≡ y
syllables-decide k x y long same =
    sym (spread-syllables_of k x) ∙ ap (λ (w : List Syllable). spread (length x) k w) same
    ∙ ap (λ (n : ℕ). spread n k (syllables_of k y)) long ∙ spread-syllables_of k y

-- what a test of two sparse words says of the lists
pub words-decided : (k : ℕ) (x y : List ℕ) (v w : List Syllable) (b : Bool) → length x ≡ length y → v ≡ syllables_of k x
    → w ≡ syllables_of k y
    → (IsTrue b ↔ v ≡ w) → (IsTrue b ↔ x ≡ y)
words-decided k x y v w b long first second decided = (
  λ t. syllables-decide k x y long (sym first ∙ decided.0 t ∙ second),
  λ e. decided.1 (first ∙ ap (syllables_of k) e ∙ sym second),
)

-- presentations
module _ (P Q : Presentation) (is : IsPresentation P) (also : IsPresentation Q) (prime : P.prime ≡ Q.prime) (rank : P.rank ≡ Q.rank)
    (powers : (i : ℕ) → i < P.rank → right_side P (Power (i + 1)) ≡ right_side Q (Power (i + 1)))
    (commutators : (j i : ℕ) → j < P.rank → i < j
    → right_side P (Commutator (j + 1) (i + 1)) ≡ right_side Q (Commutator (j + 1) (i + 1))) where
  power-at : (i : ℕ) → i < P.rank → power_side P i ≡ power_side Q i
  power-at i l =
      subst (λ (n : ℕ). power_side P n ≡ power_side Q n) (let e : i + 1 - 1 ≡ i = omega arith in e) (powers i l)

  commutator-at : (j i : ℕ) → j < P.rank → i < j → commutator_side P j i ≡ commutator_side Q j i
  commutator-at j i l m =
      subst (λ (n : ℕ). commutator_side P j n ≡ commutator_side Q j n) (let e : i + 1 - 1 ≡ i = omega arith in e)
      (subst (λ (n : ℕ). commutator_side P n (i + 1 - 1) ≡ commutator_side Q n (i + 1 - 1)) (let e : j + 1 - 1 ≡ j = omega arith in e)
      (commutators j i l m))

  all_powers : P.powers ≡ Q.powers
  all_powers =
      let c = is.power_count in
      ext_get_or [] P.powers Q.powers (is.power_count ∙ rank ∙ sym also.power_count) (λ i l. power-at i (omega (arith, l, c)))

  row : (j : ℕ) → j < P.rank → get_or P.commutators j [] ≡ get_or Q.commutators j []
  row j l =
      let c = is.commutator_counts j l in
      ext_get_or [] (get_or P.commutators j []) (get_or Q.commutators j [])
      (is.commutator_counts j l ∙ sym (also.commutator_counts j (omega (arith, l, rank))))
      (λ i m. commutator-at j i l (omega (arith, m, c)))

  all_commutators : P.commutators ≡ Q.commutators
  all_commutators =
      let c = is.commutator_count in
      ext_get_or [] P.commutators Q.commutators (is.commutator_count ∙ rank ∙ sym also.commutator_count)
      (λ j l. row j (omega (arith, l, c)))

  pub presentations-equal : P ≡ Q
  presentations-equal =
      let make : ℕ → ℕ → List (List ℕ) → List (List (List ℕ)) → Presentation =
      λ p n x y. record { prime = p; rank = n; powers = x; commutators = y } in
      ap (λ (p : ℕ). make p P.rank P.powers P.commutators) prime
      ∙ ap (λ (n : ℕ). make Q.prime n P.powers P.commutators) rank
      ∙ ap₂ (λ (x : List (List ℕ)) (y : List (List (List ℕ))). make Q.prime Q.rank x y) all_powers all_commutators

-- answers
module _ (A B : Answer) (is : IsAnswer A) (also : IsAnswer B) (presentation : A.presentation ≡ B.presentation)
    (weights : A.weights ≡ B.weights)
    (names : A.names ≡ B.names) (definitions : (k : ℕ) → k < A.presentation.rank → definition_at A k ≡ definition_at B k)
    (images : (i : ℕ) → i < length A.names → get_or A.images i [] ≡ get_or B.images i []) where
  all_definitions : A.definitions ≡ B.definitions
  all_definitions =
      let c = is.definition_count in
      ext_get_or (image 0) A.definitions B.definitions
      (is.definition_count ∙ ap (λ (P : Presentation). P.rank) presentation ∙ sym also.definition_count)
      (λ k l. definitions k (omega (arith, l, c)))

  all_images : A.images ≡ B.images
  all_images =
      let c = is.image_count in
      ext_get_or [] A.images B.images (is.image_count ∙ ap (λ (ns : List (List ℕ)). length ns) names ∙ sym also.image_count)
      (λ i l. images i (omega (arith, l, c)))

  pub answers-equal : A ≡ B
  answers-equal =
      let make : Presentation → List ℕ → List (List ℕ) → List Definition → List (List ℕ) → Answer =
      λ P w n d i. record { presentation = P; weights = w; names = n; definitions = d; images = i } in
      ap₂ (λ (P : Presentation) (w : List ℕ). make P w A.names A.definitions A.images) presentation weights
      ∙ ap (λ (n : List (List ℕ)). make B.presentation B.weights n A.definitions A.images) names
      ∙ ap₂ (λ (d : List Definition) (i : List (List ℕ)). make B.presentation B.weights B.names d i) all_definitions all_images

-- images of answers of one rank have one length
pub image-length : (A B : Answer) → IsAnswer A → IsAnswer B → A.presentation.rank ≡ B.presentation.rank → length A.names ≡ length B.names
    → (i : ℕ) → i < length A.names → length (get_or A.images i []) ≡ length (get_or B.images i [])
image-length A B is also rank names i l =
    let c = is.image_count in
    let d = also.image_count in
    (normal-entry A.presentation.prime A.presentation.rank A.images i is.images (omega (arith, l, c))).count ∙ rank
    ∙ sym (normal-entry B.presentation.prime B.presentation.rank B.images i also.images (omega (arith, l, d, names))).count

pub weights-equal : (v w : List ℕ) (n m : ℕ) → length v ≡ n → length w ≡ m → n ≡ m → ((i : ℕ) → i < n → get_or v i 0 ≡ get_or w i 0)
    → v ≡ w
weights-equal v w n m first second same each =
    ext_get_or 0 v w (first ∙ same ∙ sym second) (λ i l. each i (omega (arith, l, first)))
