-- In largest quotients of one class of one presentation the same words die: the table of normal words of the one has the class and
-- obeys the presentation, so it is reached from the other, and a word that dies there has the value 0.
use Rattle.std.proofs.Common.{◌≡◌, ℕ, ℤ, List, [], length, map, ap, sym, ◌∙◌, subst, arith}
use Rattle.std.proofs.Math.ListN.{get_or-map}
use Rattle.pq_base.specs.SignedWord.{sub, HasLetters}
use Rattle.pq_base.specs.LPresentation.{LPresentation}
use Rattle.pq_base.specs.Table.{Table, HasTableClass, value}
use Rattle.pq_base.specs.Answer.{Answer, image_words}
use Rattle.pq_base.specs.Largest.{IsLargest, Factors, FactorsOnce}
use Rattle.pq_base.proofs.words.LetterLaws.{HasLetters-sub}
use Rattle.pq_base.proofs.tables.TableGroup.{value-sub, value-joined, value-agree}
use Rattle.pc_presentation.specs.NormalTable.{normal_table, NormalWordsAreATable}
use Rattle.pc_presentation.proofs.normal_tables.LevelWords.{tables_have_the_class}
use Rattle.cover_quotient.specs.Stages.{image_numbers}
use Rattle.cover_quotient.proofs.stages.ImageNumbers.{own-table, value-image_numbers, AreWords-image_words, obeys-from_kills}
use Rattle.unique_answers.specs.UniqueLaws.{DiesIn, LargestQuotientsKillTheSame}

module _ (L : LPresentation) (p c : ℕ) (A B : Answer) (a : IsLargest L p c A) (b : IsLargest L p c B) where
  abbrev T : Table
  T = normal_table B.presentation

  table : NormalWordsAreATable B.presentation
  table = own-table B b.answer b.consistent

  class : HasTableClass (normal_table B.presentation) p c
  class =
      subst (λ (q : ℕ). HasTableClass (normal_table B.presentation) q c) b.prime
      ((tables_have_the_class B.presentation b.answer.presentation b.consistent c).0 b.class)

  -- the elements of the images of the second, by way of the first
  through : FactorsOnce (normal_table B.presentation) (image_numbers B) A
  through = a.universal T (image_numbers B) table.group class (obeys-from_kills B b.answer b.consistent L b.names b.kills)

  value-through : (w : List ℤ) → HasLetters (length A.names) w
      → value T (image_numbers B) w ≡ value T through.through (sub w (image_words A))
  value-through w h =
      let f : Factors (normal_table B.presentation) (image_numbers B) A through.through = through.factors in
      let count : length A.images ≡ length A.names = a.answer.image_count in
      value-agree T (length A.names) (image_numbers B) (map (value T through.through) (image_words A))
      (λ i l. sym (get_or-map (value T through.through) (image_words A) i [] ∙ f.images i (omega arith))) w h
      ∙ sym (value-sub T table.group through.through f.elements w (image_words A))

  dies-along : (w : List ℤ) → HasLetters (length A.names) w → DiesIn A w → DiesIn B w
  dies-along w h dies =
      let f : Factors (normal_table B.presentation) (image_numbers B) A through.through = through.factors in
      let words = AreWords-image_words B b.answer b.consistent in
      (table.joined (sub w (image_words B)) [] (HasLetters-sub B.presentation.rank w (image_words B) words) tt).1
      (sym (value-image_numbers B b.answer b.consistent w)
      ∙ value-through w h
      ∙ value-joined T table.group through.through f.elements A.presentation f.relators dies)

pub largest_quotients_kill_the_same : LargestQuotientsKillTheSame
largest_quotients_kill_the_same L p c A B a b =
    let names : A.names ≡ B.names = a.names ∙ sym b.names in
    record {
      prime = a.prime ∙ sym b.prime;
      names = names;
      words = λ w h. (
        dies-along L p c A B a b w h,
        dies-along L p c B A b a w (subst (λ (n : ℕ). HasLetters n w) (ap length names) h),
      );
    }
