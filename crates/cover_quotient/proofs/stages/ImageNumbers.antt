-- The elements of the images in the table of normal words of a consistent answer: words over the given generators have there the
-- values of what they become, so the elements obey an L-presentation exactly where the answer kills it.
use Rattle.std.proofs.Common.{◌≡◌, ℕ, ℤ, List, [], ◌∷◌, length, map, ap, sym, ◌∙◌, arith}
use Rattle.std.proofs.lemmas.List.{length-map}
use Rattle.pq_base.specs.SignedWord.{sub}
use Rattle.pq_base.specs.LPresentation.{LPresentation, Obeys, AreWords}
use Rattle.pq_base.specs.Table.{Table, AllBelow, value}
use Rattle.pq_base.specs.Presentation.{Presentation, normal_word}
use Rattle.pq_base.specs.Joined.{IsConsistent}
use Rattle.pq_base.specs.Answer.{Answer, IsAnswer, AreNormal, image_words}
use Rattle.pq_base.specs.Largest.{Kills}
use Rattle.pq_base.proofs.words.LetterLaws.{HasLetters-normal_word, HasLetters-sub}
use Rattle.pq_base.proofs.tables.TableGroup.{value-sub, value-joined}
use Rattle.pc_presentation.specs.NormalTable.{normal_table, generator_numbers, NormalWordsAreATable}
use Rattle.pc_presentation.proofs.normal_tables.NormalTableLaws.{normal_words_are_a_table}
use Rattle.cover_quotient.proofs.fitting.FitsStart.{values-below}
use Rattle.cover_quotient.specs.Stages.{image_numbers}
use Rattle.cover_quotient.specs.StageLaws.{TablesObeyWhatIsKilled}

AreWords-normal_words : (p n : ℕ) (es : List (List ℕ)) → AreNormal p n es → AreWords n (map normal_word es)
AreWords-normal_words p n [] h = tt
AreWords-normal_words p n (e ∷ es) h =
    let c = h.0.count in
    (HasLetters-normal_word n e (omega arith), AreWords-normal_words p n es h.1)

module _ (A : Answer) (is : IsAnswer A) (consistent : IsConsistent A.presentation) where
  abbrev P : Presentation
  P = A.presentation

  abbrev T : Table
  T = normal_table A.presentation

  abbrev gens : List ℕ
  gens = generator_numbers A.presentation

  pub own-table : NormalWordsAreATable A.presentation
  own-table = normal_words_are_a_table A.presentation is.presentation is.presentation.prime consistent

  pub length-image_numbers : length (image_numbers A) ≡ length A.images
  length-image_numbers = length-map (image_words A) (value T gens) ∙ length-map A.images normal_word

  pub image_numbers-below : AllBelow (normal_table A.presentation).size (image_numbers A)
  image_numbers-below = values-below T own-table.group gens own-table.generators (image_words A)

  pub value-image_numbers : (w : List ℤ)
      → value (normal_table A.presentation) (image_numbers A) w
      ≡ value (normal_table A.presentation) (generator_numbers A.presentation) (sub w (image_words A))
  value-image_numbers w = sym (value-sub T own-table.group gens own-table.generators w (image_words A))

  pub AreWords-image_words : AreWords A.presentation.rank (image_words A)
  AreWords-image_words = AreWords-normal_words P.prime P.rank A.images is.images

  module _ (L : LPresentation) (names : A.names ≡ L.names) where
    pub obeys-from_kills : Kills L A → Obeys (normal_table A.presentation) (image_numbers A) L
    obeys-from_kills kills = record {
      count = length-image_numbers ∙ is.image_count ∙ ap length names;
      elements = image_numbers-below;
      kills = λ r e. value-image_numbers r ∙ value-joined T own-table.group gens own-table.generators P own-table.relators (kills r e);
    }

    pub kills-from_obeys : Obeys (normal_table A.presentation) (image_numbers A) L → Kills L A
    kills-from_obeys obeys r e =
        (own-table.joined (sub r (image_words A)) [] (HasLetters-sub P.rank r (image_words A) AreWords-image_words) tt).1
        (sym (value-image_numbers r) ∙ obeys.kills r e)

pub tables_obey_what_is_killed : TablesObeyWhatIsKilled
tables_obey_what_is_killed L A is consistent names = (kills-from_obeys A is consistent L names, obeys-from_kills A is consistent L names)
