-- An answer that is the largest quotient of the class that it shows, and cut at the class before it the largest of that class,
-- is ready for the next class. A generator of the last weight dies in the cut answer, so in the table of normal words it lies in the
-- level before the last. Its commutators and its power then lie in the last level, which is trivial, and so do the right sides.
use Rattle.std.proofs.Common.{◌≡◌, ℕ, suc, ◌+◌, ◌-◌, ◌<◌, ◌≤◌, ℤ, List, [], ◌∷◌, ◌++◌, get_or, length, replicate, refl, ap, sym, ◌∙◌, subst}
use Rattle.std.proofs.Common.{arith, length-append, inl, inr}
use Rattle.std.proofs.lemmas.Bool.{cases_lt}
use Rattle.std.proofs.lemmas.List.{length-replicate}
use Rattle.pq_base.specs.SignedWord.{copies, comm, sub, HasLetters}
use Rattle.pq_base.specs.LPresentation.{LPresentation, Obeys}
use Rattle.pq_base.specs.Table.{Table, AllBelow, InLevel, HasTableClass, power, commutator, value}
use Rattle.pq_base.specs.Presentation.{Presentation, IsNormal, IsLaterSide, letter, word_from, normal_word, power_side, commutator_side}
use Rattle.pq_base.specs.Presentation.{power_word, commutator_word}
use Rattle.pq_base.specs.Joined.{Joined, IsConsistent}
use Rattle.pq_base.specs.Answer.{Answer, IsAnswer, class_of, weight_at, image_words, spell}
use Rattle.pq_base.specs.Canonical.{rank_up_to, first_generators, up_to_class}
use Rattle.pq_base.specs.Largest.{IsLargest}
use Rattle.pq_base.specs.EntryWords.{spelling_words}
use Rattle.pq_base.proofs.words.WordLaws.{sub-sub, sub-letter, word_from-zeros, word_from-zeros-append}
use Rattle.pq_base.proofs.words.LetterLaws.{HasLetters-letter, HasLetters-copies, HasLetters-comm, HasLetters-get_or}
use Rattle.pq_base.proofs.words.JoinedLaws.{joined-from_equal, joined-sym, joined-trans, power-joined, commutator-joined}
use Rattle.pq_base.proofs.words.SpellingLetters.{AreWords-spelling_words}
use Rattle.pq_base.proofs.LastWeights.{weights-within_class}
use Rattle.pq_base.proofs.tables.TableLaws.{value-below}
use Rattle.pq_base.proofs.tables.TableGroup.{value-copies, value-comm, value-joined}
use Rattle.pq_base.proofs.tables.TableSeries.{table_level-commutator, table_level-power}
use Rattle.pq_base.proofs.tables.LevelQuotients.{LevelQuotient, level-quotient_stands}
use Rattle.pq_base.proofs.KilledWords.{killed-level}
use Rattle.fp_rows.proofs.BelowLaws.{AllBelow-append}
use Rattle.pc_presentation.specs.NormalTable.{normal_table, generator_numbers, NormalWordsAreATable}
use Rattle.pc_presentation.specs.RowedLaws.{projection}
use Rattle.pc_presentation.specs.CutLaws.{cut_word}
use Rattle.pc_presentation.proofs.collecting.PlainRuns.{AllBelow-replicate}
use Rattle.pc_presentation.proofs.rows.Projections.{get_or-projection_past}
use Rattle.pc_presentation.proofs.cuts.CutSides.{images-cut, joined-cut}
use Rattle.pc_presentation.proofs.normal_tables.LevelWords.{tables_have_the_class}
use Rattle.cover_quotient.specs.Levels.{IsReady}
use Rattle.cover_quotient.specs.Stages.{image_numbers}
use Rattle.cover_quotient.proofs.canonical_answers.ClassesByWeight.{rank-within, weights-counted}
use Rattle.cover_quotient.proofs.stages.ImageNumbers.{own-table, image_numbers-below, value-image_numbers, obeys-from_kills}

-- a word that can't fail to be empty is empty
pub empty-stable : (w : List ℤ) → ¬ ¬ (w ≡ []) → w ≡ []
empty-stable [] h = refl
empty-stable (k ∷ w) h = absurd (h (λ e. absurd (no_letter k w e)))
  where
    no_letter : (k : ℤ) (w : List ℤ) → k ∷ w ≡ [] → ⊥
    no_letter k w e = cc

-- a right side that is trivial in a consistent presentation is empty
module _ (P : Presentation) (some : 0 < P.prime) (consistent : IsConsistent P) (l : ℕ) (e : List ℕ) (side : IsLaterSide P l e) where
  abbrev behind : List ℕ → List ℕ
  behind x = replicate {A = ℕ} (suc l) 0 ++ x

  behind-normal : (x : List ℕ) → length x ≡ length e → AllBelow P.prime x → IsNormal P.prime P.rank (behind x)
  behind-normal x same below =
      let zeros : length (replicate {A = ℕ} l 0) ≡ l = length-replicate l 0 in
      let long = side.count in
      record {
        count = omega (arith, length-append (replicate {A = ℕ} l 0) x);
        below = AllBelow-append P.prime (replicate {A = ℕ} (suc l) 0) x (AllBelow-replicate P.prime (suc l) 0 some) below;
      }

  behind-word : (x : List ℕ) → normal_word (behind x) ≡ word_from (suc l) x
  behind-word x =
      let place : 0 + suc l ≡ suc l = omega arith in
      word_from-zeros-append 0 (suc l) x ∙ ap (λ (k : ℕ). word_from k x) place

  no_side : normal_word (behind (replicate {A = ℕ} (length e) 0)) ≡ []
  no_side = behind-word (replicate (length e) 0) ∙ word_from-zeros (suc l) (length e)

  pub trivial_side-empty : Joined P (word_from (suc l) e) [] → word_from (suc l) e ≡ []
  trivial_side-empty trivial =
      let same : behind e ≡ behind (replicate (length e) 0) =
      consistent.unique (behind e) (behind (replicate (length e) 0)) (behind-normal e refl side.below)
      (behind-normal (replicate (length e) 0) (length-replicate (length e) 0) (AllBelow-replicate P.prime (length e) 0 some))
      (joined-trans (joined-from_equal P (behind-word e)) (joined-trans trivial (joined-from_equal P (sym no_side)))) in
      sym (behind-word e) ∙ ap normal_word same ∙ no_side

module _ (L : LPresentation) (p : ℕ) (A : Answer) (is : IsAnswer A) (some : 1 ≤ class_of A) (here : IsLargest L p (class_of A) A)
    (before : IsLargest L p (class_of A - 1) (up_to_class A (class_of A - 1))) where
  abbrev P : Presentation
  P = A.presentation

  abbrev k : ℕ
  k = class_of A - 1

  abbrev m : ℕ
  m = rank_up_to A (class_of A - 1)

  abbrev N : Table
  N = normal_table A.presentation

  abbrev gens : List ℕ
  gens = generator_numbers A.presentation

  within : m ≤ P.rank
  within = rank-within A is k

  table : NormalWordsAreATable P
  table = own-table A is here.consistent

  obeys : Obeys N (image_numbers A) L
  obeys = obeys-from_kills A is here.consistent L here.names here.kills

  -- generators of the last weight are cut off
  last-later : (l : ℕ) → l < P.rank → weight_at A l ≡ class_of A → m ≤ l
  last-later l b w = elim (cases_lt l m) [
    | inl first ↦ let less = weights-counted 1 k A.weights is.weights l first in absurd (omega arith)
    | inr later ↦ later
  ]

  -- so their spellings die in the cut answer
  spelling-dies : (l : ℕ) → l < P.rank → m ≤ l → Joined (first_generators m P) (sub (spell A l) (image_words (up_to_class A k))) []
  spelling-dies l b later =
      let q : ℕ = P.rank - m in
      let place : l ≡ m + (l - m) = omega arith in
      let nothing : cut_word m P (letter l) ≡ [] =
      sub-letter l (projection m q) ∙ ap (λ (i : ℕ). get_or (projection m q) i []) place ∙ get_or-projection_past m q (l - m) in
      let images : cut_word m P (sub (spell A l) (image_words A)) ≡ sub (spell A l) (image_words (up_to_class A k)) =
      sub-sub (spell A l) (image_words A) (projection m q) ∙ ap (sub (spell A l)) (images-cut m q A.images) in
      joined-trans (joined-from_equal (first_generators m P) (sym images))
      (joined-trans (joined-sym (joined-cut P is.presentation m within (here.generated l b)))
      (joined-from_equal (first_generators m P) nothing))

  module _ (Q : LevelQuotient N p k (image_numbers A)) (l : ℕ) (b : l < P.rank) (w : weight_at A l ≡ class_of A) where
    abbrev x : ℕ
    x = value N gens (letter l)

    -- they lie in the level before the last
    letter-level : InLevel N P.prime k x
    letter-level =
        let letters : HasLetters (length A.names) (spell A l) =
        subst (λ (n : ℕ). HasLetters n (spell A l)) is.image_count
        (HasLetters-get_or (length A.images) (spelling_words A) l (AreWords-spelling_words A is)) in
        let spelled : value N (image_numbers A) (spell A l) ≡ value N gens (letter l) =
        value-image_numbers A is here.consistent (spell A l)
        ∙ value-joined N table.group gens table.generators P table.relators (joined-sym (here.generated l b)) in
        subst (λ (q : ℕ). InLevel N q k x) (sym here.prime)
        (subst (λ (y : ℕ). InLevel N p k y) spelled
        (killed-level L p k (up_to_class A k) before N (image_numbers A) table.group obeys Q (spell A l) letters
        (spelling-dies l b (last-later l b w))))

    -- and the last is trivial
    last-trivial : (y : ℕ) → InLevel N P.prime (suc k) y → y ≡ 0
    last-trivial y h =
        let class : HasTableClass N P.prime (class_of A) =
        (tables_have_the_class P is.presentation here.consistent (class_of A)).0 here.class in
        let one_more : suc k ≡ class_of A = omega arith in
        class y (subst (λ (c : ℕ). InLevel N P.prime c y) one_more h)

    last-power : power_word P l ≡ []
    last-power =
        let value_zero : value N gens (copies (letter l) P.prime) ≡ 0 =
        value-copies N table.group gens table.generators (letter l) P.prime
        ∙ last-trivial (power N x P.prime) (table_level-power N table.group P.prime k x letter-level) in
        let trivial : Joined P (copies (letter l) P.prime) [] =
        (table.joined (copies (letter l) P.prime) [] (HasLetters-copies P.rank (letter l) P.prime (HasLetters-letter P.rank l b)) tt).1
        value_zero in
        let big = is.presentation.prime in
        trivial_side-empty P (omega arith) here.consistent l (power_side P l) (is.presentation.power_sides l b)
        (joined-trans (joined-sym (power-joined P l b)) trivial)

    last-commutator : (i : ℕ) → i < l → commutator_word P l i ≡ []
    last-commutator i a =
        let letters : HasLetters P.rank (letter i) = HasLetters-letter P.rank i (omega arith) in
        let value_zero : value N gens (comm (letter l) (letter i)) ≡ 0 =
        value-comm N table.group gens table.generators (letter l) (letter i)
        ∙ last-trivial (commutator N x (value N gens (letter i)))
        (table_level-commutator N table.group P.prime k x (value N gens (letter i)) letter-level
        (value-below N table.group gens table.generators (letter i))) in
        let trivial : Joined P (comm (letter l) (letter i)) [] =
        (table.joined (comm (letter l) (letter i)) [] (HasLetters-comm P.rank (letter l) (letter i) (HasLetters-letter P.rank l b) letters)
        tt).1
        value_zero in
        let big = is.presentation.prime in
        trivial_side-empty P (omega arith) here.consistent l (commutator_side P l i) (is.presentation.commutator_sides l i b a)
        (joined-trans (joined-sym (commutator-joined P l i b a)) trivial)

  quotient-stands : ¬ ¬ LevelQuotient N p k (image_numbers A)
  quotient-stands = level-quotient_stands N table.group p k (image_numbers A) (image_numbers-below A is here.consistent)

  pub largest-ready : IsReady A (class_of A)
  largest-ready = record {
    consistent = here.consistent;
    weights = λ i l. weights-within_class A is i l;
    powers = λ l b w. empty-stable (power_word P l) (λ fails. quotient-stands (λ Q. fails (last-power Q l b w)));
    commutators = λ l i b a w. empty-stable (commutator_word P l i) (λ fails. quotient-stands (λ Q. fails (last-commutator Q l b w i a)));
    below = before.class;
  }
