-- The largest quotient has the order of its rank. Its normal words are a table of as many elements as the order says. Each
-- relator has value 0 at the images, and each element is the value of a word over the images, by what the generators spell.
-- A map into another table sends each element to the value of its normal word.
use Rattle.std.proofs.Common.{◌≡◌, ℕ, ◌+◌, ◌<◌, ◌^◌, ℤ, List, [], ◌++◌, get_or, length, map, ap, ap₂, sym, ◌∙◌, subst, arith}
use Rattle.std.proofs.Math.ListN.{get_or-map}
use Rattle.pq_base.specs.SignedWord.{sub, HasLetters}
use Rattle.pq_base.specs.LPresentation.{LPresentation}
use Rattle.pq_base.specs.Table.{Table, IsGroup, AllBelow, HasTableClass, times, value}
use Rattle.pq_base.specs.Presentation.{Presentation, IsNormal, normal_word}
use Rattle.pq_base.specs.Joined.{Joined}
use Rattle.pq_base.specs.Answer.{Answer, image_words, spell}
use Rattle.pq_base.specs.Largest.{IsLargest, Factors, Carries, HasValue, HasOrder}
use Rattle.pq_base.proofs.words.LetterLaws.{HasLetters-append, HasLetters-normal_word, HasLetters-get_or, HasLetters-sub}
use Rattle.pq_base.proofs.tables.TableLaws.{value-below}
use Rattle.pq_base.proofs.tables.TableGroup.{value-append, value-letter, value-sub, value-joined, value-agree}
use Rattle.pq_base.specs.EntryWords.{spelling_words}
use Rattle.pc_presentation.specs.NormalTable.{list_from, digits, normal_table, generator_numbers, NormalWordsAreATable}
use Rattle.pc_presentation.proofs.rows.SingleRows.{length-list_from, get_or-list_from}
use Rattle.pc_presentation.proofs.normal_tables.DigitLaws.{digits-normal, number_of-digits}
use Rattle.pc_presentation.proofs.normal_tables.LevelWords.{tables_have_the_class}
use Rattle.pc_presentation.proofs.normal_tables.NormalTableLaws.{AllBelow-list_from}
use Rattle.cover_quotient.specs.OrderLaws.{LargestQuotientsHaveTheOrder}
use Rattle.cover_quotient.specs.Stages.{image_numbers}
use Rattle.cover_quotient.proofs.stages.ImageNumbers.{own-table, length-image_numbers, image_numbers-below, value-image_numbers}
use Rattle.cover_quotient.proofs.stages.ImageNumbers.{AreWords-image_words, obeys-from_kills}
use Rattle.pq_base.proofs.words.SpellingLetters.{AreWords-spelling_words}

module _ (L : LPresentation) (p k : ℕ) (A : Answer) (big : 1 < p) (is : IsLargest L p k A) where
  abbrev P : Presentation
  P = A.presentation

  abbrev T : Table
  T = normal_table A.presentation

  abbrev gens : List ℕ
  gens = generator_numbers A.presentation

  offered : 1 < A.presentation.prime
  offered = subst (λ (q : ℕ). 1 < q) (sym is.prime) big

  table : NormalWordsAreATable A.presentation
  table = own-table A is.answer is.consistent

  abbrev images : List ℕ
  images = image_numbers A

  images-below : AllBelow (normal_table A.presentation).size images
  images-below = image_numbers-below A is.answer is.consistent

  value-images : (w : List ℤ) → value T images w ≡ value T gens (sub w (image_words A))
  value-images w = value-image_numbers A is.answer is.consistent w

  -- each element by its normal word
  abbrev word_of : ℕ → List ℤ
  word_of x = normal_word (digits A.presentation.prime A.presentation.rank x)

  digits_are_normal : (x : ℕ) → IsNormal A.presentation.prime A.presentation.rank (digits A.presentation.prime A.presentation.rank x)
  digits_are_normal x = digits-normal P.prime P.rank x (omega (arith, offered))

  word_of-letters : (x : ℕ) → HasLetters A.presentation.rank (word_of x)
  word_of-letters x =
      let c = (digits_are_normal x).count in
      HasLetters-normal_word P.rank (digits P.prime P.rank x) (omega arith)

  word_of-value : (x : ℕ) → x < (normal_table A.presentation).size → value T gens (word_of x) ≡ x
  word_of-value x l =
      table.normal_words (digits P.prime P.rank x) (digits_are_normal x)
      ∙ number_of-digits P.prime P.rank x (omega (arith, offered)) (subst (λ (m : ℕ). x < m) table.size l)

  -- a generator is the value of what it spells
  spelled-value : (j : ℕ) → j < A.presentation.rank → get_or gens j 0 ≡ get_or (map (value T images) (spelling_words A)) j 0
  spelled-value j l =
      sym (value-letter T table.group gens table.generators j)
      ∙ value-joined T table.group gens table.generators P table.relators (is.generated j l)
      ∙ sym (value-images (spell A j))
      ∙ sym (get_or-map (value T images) (spelling_words A) j [])

  generated : (x : ℕ) → x < (normal_table A.presentation).size → HasValue T images (length L.names) x
  generated x l = record {
    word = sub (word_of x) (spelling_words A);
    letters =
        subst (λ (n : ℕ). HasLetters n (sub (word_of x) (spelling_words A))) (is.answer.image_count ∙ ap length is.names)
        (HasLetters-sub (length A.images) (word_of x) (spelling_words A) (AreWords-spelling_words A is.answer));
    is =
        value-sub T table.group images images-below (word_of x) (spelling_words A)
        ∙ sym (value-agree T P.rank gens (map (value T images) (spelling_words A)) spelled-value (word_of x) (word_of-letters x))
        ∙ word_of-value x l;
  }

  -- words of equal value are joined
  same-joined : (u v : List ℤ) → HasLetters A.presentation.rank u → HasLetters A.presentation.rank v
      → value T gens u ≡ value T gens v → Joined A.presentation u v
  same-joined u v l m e = (table.joined u v l m).1 e

  -- the map into another table
  module _ (U : Table) (g : List ℕ) (group : IsGroup U) (h : List ℕ) (through : Factors U g A h) where
    abbrev sent : List ℕ
    sent = list_from (λ (x : ℕ). value U h (word_of x)) 0 (normal_table A.presentation).size

    sent-at : (x : ℕ) → x < (normal_table A.presentation).size → get_or sent x 0 ≡ value U h (word_of x)
    sent-at x l =
        get_or-list_from (λ (x : ℕ). value U h (word_of x)) 0 (normal_table A.presentation).size x 0 l
        ∙ ap (λ (z : ℕ). value U h (word_of z)) (let e : 0 + x ≡ x = omega arith in e)

    same-sent : (u v : List ℤ) → HasLetters A.presentation.rank u → HasLetters A.presentation.rank v
        → value T gens u ≡ value T gens v → value U h u ≡ value U h v
    same-sent u v l m e = value-joined U group h through.elements P through.relators (same-joined u v l m e)

    sent-products : (a b : ℕ) → a < (normal_table A.presentation).size → b < (normal_table A.presentation).size
        → get_or sent (times T a b) 0 ≡ times U (get_or sent a 0) (get_or sent b 0)
    sent-products a b l m =
        let c : times T a b < (normal_table A.presentation).size = table.group.closed a b l m in
        sent-at (times T a b) c
        ∙ same-sent (word_of (times T a b)) (word_of a ++ word_of b) (word_of-letters (times T a b))
        (HasLetters-append P.rank (word_of a) (word_of b) (word_of-letters a) (word_of-letters b))
        (word_of-value (times T a b) c
        ∙ sym (value-append T table.group gens table.generators (word_of a) (word_of b)
        ∙ ap₂ (times T) (word_of-value a l) (word_of-value b m)))
        ∙ value-append U group h through.elements (word_of a) (word_of b)
        ∙ sym (ap₂ (times U) (sent-at a l) (sent-at b m))

    sent-images : (i : ℕ) → i < length images → get_or sent (get_or images i 0) 0 ≡ get_or g i 0
    sent-images i l =
        let w : List ℤ = get_or (image_words A) i [] in
        let at : get_or images i 0 ≡ value T gens (get_or (image_words A) i []) = get_or-map (value T gens) (image_words A) i [] in
        let x : ℕ = value T gens w in
        let below : value T gens (get_or (image_words A) i []) < (normal_table A.presentation).size =
        value-below T table.group gens table.generators w in
        let count = length-image_numbers A is.answer is.consistent in
        ap (λ (z : ℕ). get_or sent z 0) at
        ∙ sent-at x below
        ∙ same-sent (word_of x) w (word_of-letters x)
        (HasLetters-get_or P.rank (image_words A) i (AreWords-image_words A is.answer is.consistent)) (word_of-value x below)
        ∙ through.images i (omega arith)

    carries : Carries T images U g
    carries = record {
      map = sent;
      homomorphism = record {
        count = length-list_from (λ (x : ℕ). value U h (word_of x)) 0 (normal_table A.presentation).size;
        elements = AllBelow-list_from U.size (λ (x : ℕ). value U h (word_of x)) 0 (normal_table A.presentation).size
            (λ x. value-below U group h through.elements (word_of x));
        products = sent-products;
      };
      carries = sent-images;
    }

  pub has_order : HasOrder L p k A.presentation.rank
  has_order = record {
    table = T;
    images = images;
    group = table.group;
    size = table.size ∙ ap (λ (q : ℕ). q ^ P.rank) is.prime;
    class = subst (λ (q : ℕ). HasTableClass T q k) is.prime
        ((tables_have_the_class P is.answer.presentation is.consistent k).0 is.class);
    obeys = obeys-from_kills A is.answer is.consistent L is.names is.kills;
    generated = generated;
    universal = λ U g group class below.
        let once = is.universal U g group class below in
        carries U g group once.through once.factors;
  }

pub largest_quotients_have_the_order : LargestQuotientsHaveTheOrder
largest_quotients_have_the_order L p k A big is = has_order L p k A big is
