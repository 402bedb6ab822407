-- The words that the generators spell, one after the other: each is spelled by the words before it, and definitions that
-- follow add words at the end. The left side of a relation, in spelled generators, is what it spells as a definition.
use Rattle.std.proofs.Common.{◌≡◌, ℕ, zero, suc, ◌+◌, ◌<◌, ◌≤◌, ℤ, List, [], ◌∷◌, ◌++◌, get_or, length, map, refl, ap, ap₂, sym, ◌∙◌, subst}
use Rattle.std.proofs.Common.{arith, append_assoc, length-append}
use Rattle.std.proofs.lemmas.List.{append-nil, get_or_append_left, get_or-append-add}
use Rattle.std.specs.List.{All}
use Rattle.std.proofs.lemmas.List.Elements.{All-head, All-tail}
use Rattle.pq_base.specs.SignedWord.{inv, copies, comm, sub}
use Rattle.pq_base.specs.Presentation.{letter, power_word, commutator_word}
use Rattle.pq_base.specs.Answer.{Answer, Definition, IsAnswer, HasDefinition, definition_at, image_words, spelled, spellings, word_at}
use Rattle.pq_base.specs.Answer.Definition.{image, commutator, power}
use Rattle.pq_base.proofs.words.WordLaws.{sub-comm, sub-copies, sub-letter}
use Rattle.pq_base.specs.EntryWords.{IsSourceOf, spelling_words, entry_word}

-- a definition by generators before place n, counted from 0
abbrev pub RefersBefore : ℕ → Definition → Type 0
RefersBefore n (image i) = Unit {0}
RefersBefore n (commutator j i) = (j ≤ n) × (i ≤ n)
RefersBefore n (power j) = j ≤ n

word_at-left : (words more : List (List ℤ)) (j : ℕ) → j ≤ length words → word_at (words ++ more) j ≡ word_at words j
word_at-left words more zero l = refl
word_at-left words more (suc j) l = get_or_append_left words more [] j (omega arith)

module _ (p : ℕ) where
  spelled-grown : (words more : List (List ℤ)) (d : Definition) → RefersBefore (length words) d
      → spelled p (words ++ more) d ≡ spelled p words d
  spelled-grown words more (image i) h = refl
  spelled-grown words more (commutator j i) h = ap₂ comm (word_at-left words more j h.0) (word_at-left words more i h.1)
  spelled-grown words more (power j) h = ap (λ (w : List ℤ). copies w p) (word_at-left words more j h)

  pub spellings-append : (words : List (List ℤ)) (ds es : List Definition)
      → spellings p words (ds ++ es) ≡ spellings p (spellings p words ds) es
  spellings-append words [] es = refl
  spellings-append words (d ∷ ds) es = spellings-append (words ++ spelled p words d ∷ []) ds es

  -- definitions by the first words alone
  spellings-more : (base done : List (List ℤ)) (ds : List Definition) → All (RefersBefore (length base)) ds
      → spellings p (base ++ done) ds ≡ base ++ (done ++ map (spelled p base) ds)
  spellings-more base done [] h = ap (λ (ws : List (List ℤ)). base ++ ws) (sym (append-nil done))
  spellings-more base done (d ∷ ds) h =
      let here : RefersBefore (length base) d = All-head (RefersBefore (length base)) d ds h in
      let word : spelled p (base ++ done) d ≡ spelled p base d = spelled-grown base done d here in
      ap (λ (w : List ℤ). spellings p ((base ++ done) ++ w ∷ []) ds) word
      ∙ ap (λ (ws : List (List ℤ)). spellings p ws ds) (append_assoc base done (spelled p base d ∷ []))
      ∙ spellings-more base (done ++ spelled p base d ∷ []) ds (All-tail (RefersBefore (length base)) d ds h)
      ∙ ap (λ (ws : List (List ℤ)). base ++ ws) (append_assoc done (spelled p base d ∷ []) (map (spelled p base) ds))

  pub spellings-beside : (base : List (List ℤ)) (ds : List Definition) → All (RefersBefore (length base)) ds
      → spellings p base ds ≡ base ++ map (spelled p base) ds
  spellings-beside base ds h =
      ap (λ (ws : List (List ℤ)). spellings p ws ds) (sym (append-nil base)) ∙ spellings-more base [] ds h

  -- words stay
  spellings-grow : (words : List (List ℤ)) (ds : List Definition) → (more : List (List ℤ)) × (spellings p words ds ≡ words ++ more)
  spellings-grow words [] = ([], sym (append-nil words))
  spellings-grow words (d ∷ ds) =
      let rest = spellings-grow (words ++ spelled p words d ∷ []) ds in
      (spelled p words d ∷ rest.0, rest.1 ∙ append_assoc words (spelled p words d ∷ []) rest.0)

  pub spelled-at : (words : List (List ℤ)) (ds : List Definition) (m : ℕ) → m < length ds
      → RefersBefore (length words + m) (get_or ds m (image 0))
      → get_or (spellings p words ds) (length words + m) [] ≡ spelled p (spellings p words ds) (get_or ds m (image 0))
  unfolding spellings-grow
  spelled-at words [] m l h = absurd (omega arith)
  spelled-at words (d ∷ ds) zero l h =
      let none : length words + 0 ≡ length words = omega arith in
      let here : RefersBefore (length words) d = subst (λ (n : ℕ). RefersBefore n d) none h in
      let rest = spellings-grow words (d ∷ ds) in
      let tail = spellings-grow (words ++ spelled p words d ∷ []) ds in
      ap (λ (ws : List (List ℤ)). get_or ws (length words + 0) []) rest.1
      ∙ get_or-append-add words rest.0 0 []
      ∙ sym (spelled-grown words rest.0 d here)
      ∙ ap (λ (ws : List (List ℤ)). spelled p ws d) (sym rest.1)
  spelled-at words (d ∷ ds) (suc m) l h =
      let long = length-append words (spelled p words d ∷ []) in
      let place : length (words ++ spelled p words d ∷ []) + m ≡ length words + suc m = omega arith in
      ap (λ (n : ℕ). get_or (spellings p (words ++ spelled p words d ∷ []) ds) n []) (sym place)
      ∙ spelled-at (words ++ spelled p words d ∷ []) ds m (omega arith)
      (subst (λ (n : ℕ). RefersBefore n (get_or ds m (image 0))) (sym place) h)

-- the right side of a relation, and the word of an image
abbrev pub side_word : Answer → Definition → List ℤ
side_word A (image zero) = []
side_word A (image (suc i)) = word_at (image_words A) (suc i)
side_word A (commutator zero i) = []
side_word A (commutator (suc j) zero) = []
side_word A (commutator (suc j) (suc i)) = commutator_word A.presentation j i
side_word A (power zero) = []
side_word A (power (suc j)) = power_word A.presentation j

module _ (A : Answer) where
  -- the word of an entry, by what its left side spells
  pub entry_word-spelled : (d : Definition) → IsSourceOf A d
      → entry_word A d ≡ inv (sub (side_word A d) (spelling_words A)) ++ spelled A.presentation.prime (spelling_words A) d
  entry_word-spelled (image zero) h = absurd h
  entry_word-spelled (image (suc i)) h = refl
  entry_word-spelled (commutator zero i) h = absurd h
  entry_word-spelled (commutator (suc j) zero) h = absurd h
  entry_word-spelled (commutator (suc j) (suc i)) h =
      let S : List (List ℤ) = spelling_words A in
      ap (λ (w : List ℤ). inv (sub (commutator_word A.presentation j i) S) ++ w)
      (sub-comm (letter j) (letter i) S ∙ ap₂ comm (sub-letter j S) (sub-letter i S))
  entry_word-spelled (power zero) h = absurd h
  entry_word-spelled (power (suc j)) h =
      let S : List (List ℤ) = spelling_words A in
      ap (λ (w : List ℤ). inv (sub (power_word A.presentation j) S) ++ w)
      (sub-copies (letter j) A.presentation.prime S ∙ ap (λ (w : List ℤ). copies w A.presentation.prime) (sub-letter j S))

  -- what defines a generator
  pub definition-refers : (k : ℕ) (d : Definition) → HasDefinition A k d → RefersBefore k d
  definition-refers k (image i) h = tt
  definition-refers k (commutator zero i) h = absurd h
  definition-refers k (commutator (suc j) zero) h = absurd h
  definition-refers k (commutator (suc j) (suc i)) h = let a : i < j = h.1 in let b : j < k = h.2 in (omega arith, omega arith)
  definition-refers k (power zero) h = absurd h
  definition-refers k (power (suc j)) h = let b : j < k = h.1 in omega arith

  pub definition-side : (k : ℕ) (d : Definition) → HasDefinition A k d → side_word A d ≡ letter k
  definition-side k (image zero) h = absurd h
  definition-side k (image (suc i)) h = h.2
  definition-side k (commutator zero i) h = absurd h
  definition-side k (commutator (suc j) zero) h = absurd h
  definition-side k (commutator (suc j) (suc i)) h = h.3
  definition-side k (power zero) h = absurd h
  definition-side k (power (suc j)) h = h.2

  -- its entry is a word before itself, inverted
  pub definition-entry : IsAnswer A → (k : ℕ) → k < A.presentation.rank → IsSourceOf A (definition_at A k)
      → entry_word A (definition_at A k)
      ≡ inv (spelled A.presentation.prime (spelling_words A) (definition_at A k))
      ++ spelled A.presentation.prime (spelling_words A) (definition_at A k)
  definition-entry is k l source =
      let d : Definition = definition_at A k in
      let S : List (List ℤ) = spelling_words A in
      let count : length A.definitions ≡ A.presentation.rank = is.definition_count in
      let has : HasDefinition A k (definition_at A k) = is.definitions k l in
      let none : 0 + k ≡ k = omega arith in
      let at : get_or (spelling_words A) k [] ≡ spelled A.presentation.prime (spelling_words A) (definition_at A k) =
      ap (λ (n : ℕ). get_or (spelling_words A) n []) (sym none)
      ∙ spelled-at A.presentation.prime [] A.definitions k (omega arith)
      (subst (λ (n : ℕ). RefersBefore n (definition_at A k)) (sym none) (definition-refers k d has)) in
      entry_word-spelled d source
      ∙ ap (λ (w : List ℤ). inv (sub w S) ++ spelled A.presentation.prime S d) (definition-side k d has)
      ∙ ap (λ (w : List ℤ). inv w ++ spelled A.presentation.prime S d) (sub-letter k S ∙ at)
