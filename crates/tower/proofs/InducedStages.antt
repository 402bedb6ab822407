-- In the largest quotient of the iterated relators each endomorphism induces one: elements that obey the iterated relators go to such
-- elements, as the image of an iterated relator along endomorphisms is one again, so a word that dies has value 0 there too.
use Rattle.std.proofs.Common.{◌≡◌, ℕ, zero, suc, ◌<◌, ℤ, List, [], ◌∷◌, get_or, length, map, ap, sym, ◌∙◌, subst, arith}
use Rattle.std.proofs.lemmas.List.{length-map, ext_get_or}
use Rattle.std.proofs.Math.ListN.{get_or-map}
use Rattle.pq_base.specs.SignedWord.{sub}
use Rattle.pq_base.specs.LPresentation.{LPresentation, IsLPresentation, IsRelator, AreEndos, Obeys, part}
use Rattle.pq_base.specs.LPresentation.IsRelator.{fixed_relator, iterated_relator}
use Rattle.pq_base.specs.LPresentation.Part.{iterated_part}
use Rattle.pq_base.specs.Table.{Table, IsGroup, AllBelow, HasTableClass, value}
use Rattle.pq_base.specs.Joined.{Joined}
use Rattle.pq_base.specs.Answer.{Answer, image_words}
use Rattle.pq_base.specs.Largest.{FactorsOnce, IsLargest}
use Rattle.pq_base.proofs.words.LetterLaws.{HasLetters-sub}
use Rattle.pq_base.proofs.words.AlongLaws.{value-along}
use Rattle.pq_base.proofs.tables.TableGroup.{value-sub, value-joined}
use Rattle.pc_presentation.specs.NormalTable.{normal_table, NormalWordsAreATable}
use Rattle.pc_presentation.proofs.normal_tables.LevelWords.{tables_have_the_class}
use Rattle.cover_quotient.specs.Stages.{image_numbers, IsStage}
use Rattle.cover_quotient.proofs.fitting.FitsStart.{values-below}
use Rattle.cover_quotient.proofs.stages.FirstStages.{stages_are_largest}
use Rattle.cover_quotient.proofs.stages.ImageNumbers.{own-table, image_numbers-below, value-image_numbers, AreWords-image_words}
use Rattle.endo_lift.specs.Lifts.{Induces}

-- elements of a table of class c that obey an L-presentation, and its largest quotient of class c
module _ (L : LPresentation) (p c : ℕ) (A : Answer) (largest : IsLargest L p c A)
    (T : Table) (f : List ℕ) (g : IsGroup T) (class : HasTableClass T p c) (obeys : Obeys T f L) where
  through : FactorsOnce T f A
  through = largest.universal T f g class obeys

  -- they are the values of the images
  factored : f ≡ map (value T through.through) (image_words A)
  factored =
      let long : length (map (value T through.through) (image_words A)) ≡ length A.images =
      length-map (image_words A) (value T through.through) ∙ length-map A.images _ in
      let images : length A.images ≡ length L.names = largest.answer.image_count ∙ ap (λ (ns : List (List ℕ)). length ns) largest.names in
      let count = obeys.count in
      ext_get_or 0 f (map (value T through.through) (image_words A)) (omega arith)
      (λ i l. sym (get_or-map (value T through.through) (image_words A) i [] ∙ through.factors.images i (omega arith)))

  -- so a word that dies has value 0
  pub died-zero : (w : List ℤ) → Joined A.presentation (sub w (image_words A)) [] → value T f w ≡ 0
  died-zero w dies =
      let e : List ℕ = through.through in
      ap (λ (h : List ℕ). value T h w) factored
      ∙ sym (value-sub T g e through.factors.elements w (image_words A))
      ∙ value-joined T g e through.factors.elements A.presentation through.factors.relators dies

length-endo : (n : ℕ) (endos : List (List (List ℤ))) (e : ℕ) → e < length endos → AreEndos n endos → length (get_or endos e []) ≡ n
length-endo n [] e l are = absurd (omega arith)
length-endo n (f ∷ endos) zero l are = are.0
length-endo n (f ∷ endos) (suc e) l are = length-endo n endos e (omega arith) are.2

module _ (L : LPresentation) (is : IsLPresentation L) (p c : ℕ) (A : Answer) (stage : IsStage (part L iterated_part) p c A) (e : ℕ)
    (few : e < length L.endos) where
  abbrev T : Table
  T = normal_table A.presentation

  abbrev endo : List (List ℤ)
  endo = get_or L.endos e []

  table : NormalWordsAreATable A.presentation
  table = own-table A stage.answer stage.consistent

  below : AllBelow (normal_table A.presentation).size (image_numbers A)
  below = image_numbers-below A stage.answer stage.consistent

  -- the elements of the images, carried along the endomorphism
  abbrev carried : List ℕ
  carried = map (value (normal_table A.presentation) (image_numbers A)) (get_or L.endos e [])

  carried-below : AllBelow (normal_table A.presentation).size carried
  carried-below = values-below T table.group (image_numbers A) below endo

  carried-zero : (r : List ℤ) → IsRelator (part L iterated_part) r → value T carried r ≡ 0
  carried-zero r (fixed_relator i l) = absurd (omega arith)
  carried-zero r (iterated_relator s i numbers l) =
      sym (value-along T table.group (image_numbers A) below L.endos (suc e) s (get_or L.iterated i []))
      ∙ stage.admits.kills _ (iterated_relator (suc e ∷ s) i (few, numbers) l)

  carried-obeys : Obeys (normal_table A.presentation) carried (part L iterated_part)
  carried-obeys = record {
    count = length-map endo (value T (image_numbers A)) ∙ length-endo (length L.names) L.endos e few is.endo_words;
    elements = carried-below;
    kills = carried-zero;
  }

  class : HasTableClass (normal_table A.presentation) p c
  class =
      let largest = stages_are_largest (part L iterated_part) p c A stage in
      subst (λ (q : ℕ). HasTableClass T q c) stage.prime
      ((tables_have_the_class A.presentation stage.answer.presentation stage.consistent c).0 largest.class)

  pub stages_induce : Induces A (get_or L.endos e [])
  stages_induce w dies =
      let zero_there : value T carried w ≡ 0 =
      died-zero (part L iterated_part) p c A (stages_are_largest (part L iterated_part) p c A stage) T carried table.group class
      carried-obeys
      w dies in
      (table.joined (sub (sub w endo) (image_words A)) []
      (HasLetters-sub A.presentation.rank (sub w endo) (image_words A) (AreWords-image_words A stage.answer stage.consistent)) tt).1
      (sym (value-image_numbers A stage.answer stage.consistent (sub w endo))
      ∙ value-sub T table.group (image_numbers A) below w endo
      ∙ zero_there)
