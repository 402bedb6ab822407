-- Words of a consistent answer that obey the relators of a largest quotient: what the generators of the quotient spell under these
-- words satisfies the relations of the quotient, and makes its images these words.
use Rattle.std.proofs.Common.{◌≡◌, ℕ, ◌<◌, ℤ, List, [], ◌∷◌, length, get_or, map, ap, sym, ◌∙◌, subst, arith}
use Rattle.std.proofs.lemmas.List.{length-map, ext_get_or}
use Rattle.std.proofs.Math.ListN.{get_or-map}
use Rattle.pq_base.specs.SignedWord.{sub, HasLetters}
use Rattle.pq_base.specs.LPresentation.{LPresentation, IsRelator, AreWords, Obeys}
use Rattle.pq_base.specs.Table.{Table, AllBelow, HasTableClass, value}
use Rattle.pq_base.specs.Presentation.{IsRelatorOf}
use Rattle.pq_base.specs.Joined.{Joined, IsConsistent}
use Rattle.pq_base.specs.Series.{HasClass}
use Rattle.pq_base.specs.Answer.{Answer, IsAnswer, spell, image_words}
use Rattle.pq_base.specs.EntryWords.{spelling_words}
use Rattle.pq_base.specs.Largest.{FactorsOnce, IsLargest}
use Rattle.pq_base.proofs.words.LetterLaws.{HasLetters-get_or, HasLetters-sub}
use Rattle.pq_base.proofs.tables.TableGroup.{value-sub, value-letter, value-joined}
use Rattle.pc_presentation.specs.NormalTable.{normal_table, generator_numbers, NormalWordsAreATable}
use Rattle.pc_presentation.proofs.normal_tables.LevelWords.{tables_have_the_class}
use Rattle.cover_quotient.proofs.fitting.FitsStart.{values-below, length-spelling_words}
use Rattle.cover_quotient.proofs.stages.ImageNumbers.{own-table}

-- what the generators spell under words
abbrev pub spelled_under : Answer → List (List ℤ) → List (List ℤ)
spelled_under B F = map (λ (w : List ℤ). sub w F) (spelling_words B)

pub spelled_under-at : (B : Answer) (F : List (List ℤ)) (k : ℕ) → get_or (spelled_under B F) k [] ≡ sub (spell B k) F
spelled_under-at B F k = get_or-map (λ (w : List ℤ). sub w F) (spelling_words B) k []

-- substituted words are over the letters of what is put in
pub AreWords-map_sub : (n : ℕ) (F words : List (List ℤ)) → AreWords n F → AreWords n (map (λ (w : List ℤ). sub w F) words)
AreWords-map_sub n F [] are = tt
AreWords-map_sub n F (w ∷ words) are = (HasLetters-sub n w F are, AreWords-map_sub n F words are)

pub spelled_under-words : (B : Answer) (n : ℕ) (F : List (List ℤ)) → AreWords n F → AreWords n (spelled_under B F)
spelled_under-words B n F are = AreWords-map_sub n F (spelling_words B) are

module _ (M : LPresentation) (p c : ℕ) (B : Answer) (largest : IsLargest M p c B) (A : Answer) (is : IsAnswer A)
    (consistent : IsConsistent A.presentation) (class : HasClass A.presentation c) (prime : A.presentation.prime ≡ p)
    (F : List (List ℤ)) (words : AreWords A.presentation.rank F) (count : length F ≡ length M.names)
    (obeyed : (r : List ℤ) → IsRelator M r → Joined A.presentation (sub r F) []) where
  abbrev T : Table
  T = normal_table A.presentation

  abbrev gens : List ℕ
  gens = generator_numbers A.presentation

  table : NormalWordsAreATable A.presentation
  table = own-table A is consistent

  abbrev v : List ℤ → ℕ
  v = value (normal_table A.presentation) (generator_numbers A.presentation)

  abbrev f : List ℕ
  f = map (value (normal_table A.presentation) (generator_numbers A.presentation)) F

  f-below : AllBelow (normal_table A.presentation).size f
  f-below = values-below T table.group gens table.generators F

  obeys : Obeys (normal_table A.presentation) f M
  obeys = record {
    count = length-map F v ∙ count;
    elements = f-below;
    kills = λ r e.
        sym (value-sub T table.group gens table.generators r F)
        ∙ value-joined T table.group gens table.generators A.presentation table.relators (obeyed r e);
  }

  table-class : HasTableClass (normal_table A.presentation) p c
  table-class = subst (λ (q : ℕ). HasTableClass T q c) prime ((tables_have_the_class A.presentation is.presentation consistent c).0 class)

  through : FactorsOnce (normal_table A.presentation) f B
  through = largest.universal T f table.group table-class obeys

  abbrev e : List ℕ
  e = through.through

  factored : f ≡ map (value (normal_table A.presentation) through.through) (image_words B)
  factored =
      let long : length (map (value T e) (image_words B)) ≡ length B.images =
      length-map (image_words B) (value T e) ∙ length-map B.images _ in
      let images : length B.images ≡ length M.names = largest.answer.image_count ∙ ap (λ (ns : List (List ℕ)). length ns) largest.names in
      let many = obeys.count in
      ext_get_or 0 f (map (value T e) (image_words B)) (omega arith)
      (λ i l. sym (get_or-map (value T e) (image_words B) i [] ∙ through.factors.images i (omega arith)))

  -- the value of what a generator spells is its element
  spelled-value : (k : ℕ) → k < B.presentation.rank → v (get_or (spelled_under B F) k []) ≡ get_or e k 0
  spelled-value k l =
      ap v (spelled_under-at B F k)
      ∙ value-sub T table.group gens table.generators (spell B k) F
      ∙ ap (λ (h : List ℕ). value T h (spell B k)) factored
      ∙ sym (value-sub T table.group e through.factors.elements (spell B k) (image_words B))
      ∙ sym (value-joined T table.group e through.factors.elements B.presentation through.factors.relators (largest.generated k l))
      ∙ value-letter T table.group e through.factors.elements k

  spelled-values : map v (spelled_under B F) ≡ e
  spelled-values =
      let long : length (map v (spelled_under B F)) ≡ B.presentation.rank =
      length-map (spelled_under B F) v ∙ length-map (spelling_words B) (λ (w : List ℤ). sub w F) ∙ length-spelling_words B largest.answer in
      let many = through.factors.count in
      ext_get_or 0 (map v (spelled_under B F)) e (omega arith)
      (λ i l. get_or-map v (spelled_under B F) i [] ∙ spelled-value i (omega arith))

  value-spelled : (w : List ℤ) → v (sub w (spelled_under B F)) ≡ value T e w
  value-spelled w =
      value-sub T table.group gens table.generators w (spelled_under B F) ∙ ap (λ (h : List ℕ). value T h w) spelled-values

  letters-under : (w : List ℤ) → HasLetters A.presentation.rank (sub w (spelled_under B F))
  letters-under w =
      HasLetters-sub A.presentation.rank w (spelled_under B F) (spelled_under-words B A.presentation.rank F words)

  -- so the relations are satisfied
  pub relators-satisfied : (r : List ℤ) → IsRelatorOf B.presentation r → Joined A.presentation (sub r (spelled_under B F)) []
  relators-satisfied r h =
      (table.joined (sub r (spelled_under B F)) [] (letters-under r) tt).1 (value-spelled r ∙ through.factors.relators r h)

  -- and the images are the words
  pub images-made : (i : ℕ) → i < length B.images
      → Joined A.presentation (get_or F i []) (sub (get_or (image_words B) i []) (spelled_under B F))
  images-made i l =
      let u : List ℤ = get_or (image_words B) i [] in
      (table.joined (get_or F i []) (sub u (spelled_under B F)) (HasLetters-get_or A.presentation.rank F i words) (letters-under u)).1
      (sym (value-spelled u ∙ through.factors.images i l ∙ get_or-map v F i []))
