-- What the generators of an answer spell, carried along an endomorphism: the values of left sides, of right sides letter by letter,
-- and of the words that tails stand for.
use Rattle.std.proofs.Common.{◌≡◌, ℕ, ◌+◌, ◌-◌, ◌<◌, ◌≤◌, ℤ, pos, List, [], ◌∷◌, ◌++◌, get_or, length, map, take, ap, sym, ◌∙◌, subst}
use Rattle.std.proofs.Common.{arith, length-append, inl, inr}
use Rattle.std.proofs.lemmas.List.{get_or_append_left, get_or_push, get_or_default}
use Rattle.std.proofs.lemmas.Bool.{cases_lt}
use Rattle.pq_base.specs.SignedWord.{inv, copies, comm, sub, HasLetters}
use Rattle.pq_base.specs.LPresentation.{AreWords}
use Rattle.pq_base.specs.Answer.{Answer, Definition as Source, IsAnswer, definition_at, spell, spelled, word_at}
use Rattle.pq_base.specs.Answer.Definition.{image, commutator, power}
use Rattle.pq_base.specs.EntryWords.{spelling_words, entry_word}
use Rattle.pq_base.proofs.words.WordLaws.{sub-append, sub-inv, sub-copies, sub-comm}
use Rattle.pq_base.proofs.words.LetterLaws.{HasLetters-get_or}
use Rattle.pq_base.proofs.words.SpelledLists.{RefersBefore, spelled-at, definition-refers}
use Rattle.pc_presentation.specs.declared.syllable.Syllable.{Syllable}
use Rattle.pc_presentation.specs.Syllable.{letters_of, AreGenerators}
use Rattle.pc_presentation.proofs.presentations.SyllableLaws.{letters_of-more, sub-number, word_at-place}
use Rattle.pc_presentation.specs.Pcp.{TailedPresentation}
use Rattle.pc_presentation.specs.Collection.{State}
use Rattle.pc_presentation.specs.Arithmetic.{word_of}
use Rattle.pc_presentation.specs.Tailed.{Element, rowed_presentation, IsElement}
use Rattle.pc_presentation.specs.ImageElements.{states_of}
use Rattle.p_cover.specs.Covers.{CoverOf, IsCover, cover_presentation}
use Rattle.p_cover.specs.Images.{ImagesOf, AreLifted}
use Rattle.endo_lift.specs.Values.{IsValue, AreSpelled, IsUpTo, IsRightSide}
use Rattle.endo_lift.proofs.ValueLaws.{word_in, StandsFor, same_value, value-commutator, value-power, value-evaluated}

-- the image of a given generator is over the given generators
pub image-letters : (n : ℕ) (endo : List (List ℤ)) (d : Source) (i k : ℕ) (w u : List ℤ) → AreWords n endo → d ≡ image i
    → IsUpTo (length endo) k d → w ≡ get_or endo (i - 1) w → u ≡ w → HasLetters n u
image-letters n endo d i k w u words q up p r =
    let here : IsUpTo (length endo) k (image i) = subst (IsUpTo (length endo) k) q up in
    subst (HasLetters n) (sym (r ∙ p ∙ get_or_default endo (i - 1) w [] (omega (arith, here.0, here.1))))
    (HasLetters-get_or n endo (i - 1) words)

-- a generator whose definition refers to those before it spells what its definition says
pub spell-defined : (A : Answer) → IsAnswer A → (k : ℕ) → k < A.presentation.rank
    → spell A k ≡ spelled A.presentation.prime (spelling_words A) (definition_at A k)
spell-defined A is k l =
    let count : length A.definitions ≡ A.presentation.rank = is.definition_count in
    let none : 0 + k ≡ k = omega arith in
    ap (λ (n : ℕ). get_or (spelling_words A) n []) (sym none)
    ∙ spelled-at A.presentation.prime [] A.definitions k (omega arith)
    (subst (λ (n : ℕ). RefersBefore n (definition_at A k)) (sym none) (definition-refers A k (definition_at A k) (is.definitions k l)))

module _ (C : CoverOf) (endo : List (List ℤ)) (es : List Element) (spelled_values : AreSpelled C endo es) where
  abbrev S : List (List ℤ)
  S = spelling_words C.answer

  -- the value of a generator that is named by its number
  pub value-at : (j : ℕ) (a d : Element) → 1 ≤ j → j ≤ length es → a ≡ get_or es (j - 1) d
      → IsValue C (sub (word_at (spelling_words C.answer) j) endo) a
  value-at j a d one last q =
      same_value C (sub (spell C.answer (j - 1)) endo) (sub (word_at (spelling_words C.answer) j) endo) a
      (ap (λ (w : List ℤ). sub w endo) (sym (word_at-place S j one)))
      (subst (λ (e : Element). IsValue C (sub (spell C.answer (j - 1)) endo) e) (sym q) (spelled_values (j - 1) d (omega arith)))

  -- the values of what left sides spell: of a commutator, a power and a given generator
  module _ (T : TailedPresentation) (t : T ≡ cover_presentation C) (m : ℕ) (d : Source) (up : IsUpTo m (length es) d) (out : Element)
      (element : IsElement T out) where
    pub commutator-carried : (j i : ℕ) (a b : Element) → d ≡ commutator j i → a ≡ get_or es (j - 1) a → b ≡ get_or es (i - 1) b
        → StandsFor T out (comm (word_in T a) (word_in T b))
        → IsValue C (sub (spelled C.answer.presentation.prime (spelling_words C.answer) d) endo) out
    commutator-carried j i a b q p r joined =
        let here : IsUpTo m (length es) (commutator j i) = subst (IsUpTo m (length es)) q up in
        let u : List ℤ = word_at (spelling_words C.answer) j in
        let v : List ℤ = word_at (spelling_words C.answer) i in
        same_value C (comm (sub u endo) (sub v endo)) (sub (spelled C.answer.presentation.prime S d) endo) out
        (sym (ap (λ (x : Source). sub (spelled C.answer.presentation.prime S x) endo) q ∙ sub-comm u v endo))
        (value-commutator C T t (sub u endo) (sub v endo) a b out element joined (value-at j a a here.0 here.1 p)
        (value-at i b b here.2 here.3 r))

    pub power-carried : (j n : ℕ) (a : Element) → d ≡ power j → n ≡ C.answer.presentation.prime → a ≡ get_or es (j - 1) a
        → StandsFor T out (copies (word_in T a) n)
        → IsValue C (sub (spelled C.answer.presentation.prime (spelling_words C.answer) d) endo) out
    power-carried j n a q prime p joined =
        let here : IsUpTo m (length es) (power j) = subst (IsUpTo m (length es)) q up in
        let u : List ℤ = word_at (spelling_words C.answer) j in
        same_value C (copies (sub u endo) n) (sub (spelled C.answer.presentation.prime S d) endo) out
        (ap (copies (sub u endo)) prime
        ∙ sym (ap (λ (x : Source). sub (spelled C.answer.presentation.prime S x) endo) q ∙ sub-copies u C.answer.presentation.prime endo))
        (value-power C T t (sub u endo) n a out element joined (value-at j a a here.0 here.1 p))

    pub image-carried : IsCover C → (push : State → ℕ → State) (f : ImagesOf) → AreLifted C push f → m ≡ length endo
        → (i : ℕ) (w u : List ℤ) (fs : List Element) → d ≡ image i → w ≡ get_or endo (i - 1) w → u ≡ w → fs ≡ f.elements
        → StandsFor T out (sub u (map (word_of (rowed_presentation T)) (states_of fs)))
        → IsValue C (sub (spelled C.answer.presentation.prime (spelling_words C.answer) d) endo) out
    image-carried is push f lifted count i w u fs q p r elements joined =
        let here : IsUpTo m (length es) (image i) = subst (IsUpTo m (length es)) q up in
        let word : w ≡ get_or endo (i - 1) [] = p ∙ get_or_default endo (i - 1) w [] (omega (arith, here.0, here.1)) in
        same_value C w (sub (spelled C.answer.presentation.prime S d) endo) out
        (word ∙ sym (ap (λ (x : Source). sub (spelled C.answer.presentation.prime S x) endo) q ∙ sub-number i endo here.0))
        (value-evaluated C T t is push f lifted w u fs out r elements element joined)

  -- one value more
  pub spelled-more : (fs : List Element) (e : Element) → fs ≡ es ++ e ∷ [] → IsValue C (sub (spell C.answer (length es)) endo) e
      → AreSpelled C endo fs
  spelled-more fs e q h = subst (AreSpelled C endo) (sym q)
      (λ k d l. elim (cases_lt k (length es)) as (λ x. IsValue C (sub (spell C.answer k) endo) (get_or (es ++ e ∷ []) k d)) [
        | inl before ↦
            subst (λ (x : Element). IsValue C (sub (spell C.answer k) endo) x) (sym (get_or_append_left es (e ∷ []) d k before))
            (spelled_values k d before)
        | inr after ↦
            let long = length-append es (e ∷ []) in
            let place : length es ≡ k = omega arith in
            subst (λ (n : ℕ). IsValue C (sub (spell C.answer n) endo) (get_or (es ++ e ∷ []) k d)) place
            (subst (λ (x : Element). IsValue C (sub (spell C.answer (length es)) endo) x) (sym (get_or_push es e d k place)) h)
      ])

  -- one syllable more of a word
  pub syllable-more : (word : List Syllable) (i : ℕ) (s : Syllable) (d a g out : Element) → i < length word → s ≡ get_or word i s
      → AreGenerators (length es) word → g ≡ get_or es (s.generator - 1) d
      → ((u v : List ℤ) → IsValue C u a → IsValue C v g → IsValue C (u ++ copies v s.exponent) out)
      → IsValue C (sub (sub (letters_of (take i word)) (spelling_words C.answer)) endo) a
      → IsValue C (sub (sub (letters_of (take (i + 1) word)) (spelling_words C.answer)) endo) out
  syllable-more word i s d a g out l at generators q step h =
      let fits = generators i s l in
      let one : 1 ≤ s.generator = subst (λ (x : Syllable). 1 ≤ x.generator) (sym at) fits.0 in
      let last : s.generator ≤ length es = subst (λ (x : Syllable). x.generator ≤ length es) (sym at) fits.1 in
      let u : List ℤ = letters_of (take i word) in
      let v : List ℤ = word_at (spelling_words C.answer) s.generator in
      let more : letters_of (take (i + 1) word) ≡ letters_of (take i word) ++ copies (pos s.generator ∷ []) s.exponent =
      letters_of-more word i s l ∙ ap (λ (x : Syllable). letters_of (take i word) ++ copies (pos x.generator ∷ []) x.exponent) (sym at) in
      let carried : sub (sub (letters_of (take (i + 1) word)) S) endo ≡ sub (sub u S) endo ++ copies (sub v endo) s.exponent =
      ap (λ (w : List ℤ). sub (sub w S) endo) more
      ∙ ap (λ (w : List ℤ). sub w endo) (sub-append u (copies (pos s.generator ∷ []) s.exponent) S)
      ∙ sub-append (sub u S) (sub (copies (pos s.generator ∷ []) s.exponent) S) endo
      ∙ ap (λ (w : List ℤ). sub (sub u S) endo ++ w)
      (ap (λ (w : List ℤ). sub w endo) (sub-copies (pos s.generator ∷ []) s.exponent S)
      ∙ sub-copies (sub (pos s.generator ∷ []) S) s.exponent endo
      ∙ ap (λ (w : List ℤ). copies (sub w endo) s.exponent) (sub-number s.generator S one ∙ sym (word_at-place S s.generator one))) in
      same_value C (sub (sub u S) endo ++ copies (sub v endo) s.exponent) (sub (sub (letters_of (take (i + 1) word)) S) endo) out
      (sym carried)
      (step (sub (sub u S) endo) (sub v endo) h (value-at s.generator g d one last q))

-- the word that a tail stands for, by its right side and what its left side spells
pub entry-carried : (C : CoverOf) (endo : List (List ℤ)) (d : Source) (side : List Syllable) (out : Element) → IsRightSide C.answer d side
    → IsValue C (inv (sub (sub (letters_of side) (spelling_words C.answer)) endo)
    ++ sub (spelled C.answer.presentation.prime (spelling_words C.answer) d) endo) out
    → IsValue C (sub (entry_word C.answer d) endo) out
entry-carried C endo d side out right h =
    let r : List ℤ = sub (letters_of side) (spelling_words C.answer) in
    let l : List ℤ = spelled C.answer.presentation.prime (spelling_words C.answer) d in
    same_value C (inv (sub r endo) ++ sub l endo) (sub (entry_word C.answer d) endo) out
    (sym (ap (λ (w : List ℤ). sub w endo) right ∙ sub-append (inv r) l endo ∙ ap (λ (w : List ℤ). w ++ sub l endo) (sub-inv r endo))) h

-- the value of a definition is that of what the generator spells
pub next-spelled : (C : CoverOf) (endo : List (List ℤ)) → IsAnswer C.answer → (k n : ℕ) (d : Source) (e : Element)
    → k < C.answer.presentation.rank → n ≡ k → d ≡ definition_at C.answer k
    → IsValue C (sub (spelled C.answer.presentation.prime (spelling_words C.answer) d) endo) e
    → IsValue C (sub (spell C.answer n) endo) e
next-spelled C endo is k n d e l same q h =
    let A : Answer = C.answer in
    same_value C (sub (spelled A.presentation.prime (spelling_words A) d) endo) (sub (spell A n) endo) e
    (ap (λ (w : List ℤ). sub w endo)
    (ap (spelled A.presentation.prime (spelling_words A)) q ∙ sym (spell-defined A is k l) ∙ ap (spell A) (sym same))) h
