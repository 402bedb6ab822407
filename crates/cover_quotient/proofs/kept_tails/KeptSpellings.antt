-- In the answer that kept tails make of a cover the old generators spell what they did, and a new one what its relation or
-- image fails by: the relation's side is empty.
use Rattle.std.proofs.Common.{◌≡◌, ℕ, zero, suc, ◌<◌, ℤ, List, [], ◌∷◌, ◌++◌, get_or, length, map, refl, ap, ap₂, sym, ◌∙◌, arith}
use Rattle.std.specs.List.{All}
use Rattle.std.proofs.lemmas.List.Elements.{All-head, All-tail}
use Rattle.std.proofs.Math.ListN.{get_or-map as entry-map}
use Rattle.pq_base.specs.SignedWord.{inv, sub}
use Rattle.pq_base.specs.Table.{Table, value}
use Rattle.pq_base.specs.Presentation.{normal_word, word_from}
use Rattle.pq_base.specs.Answer.{Answer, Definition, IsAnswer, class_of, image_words, spelled, spellings}
use Rattle.pq_base.specs.Answer.Definition.{image, commutator, power}
use Rattle.pq_base.proofs.words.WordLaws.{normal_word-append}
use Rattle.pc_presentation.specs.Rowed.{followed_by}
use Rattle.pc_presentation.proofs.rows.FlatLaws.{length-followed_by, get_or-followed_by}
use Rattle.p_cover.specs.RowedAnswer.{RowedAnswer}
use Rattle.pq_base.specs.EntryWords.{IsSourceOf, spelling_words, entry_word}
use Rattle.cover_quotient.specs.Fits.{spelled_elements, tail_element}
use Rattle.cover_quotient.specs.NextAnswer.{next_answer}
use Rattle.cover_quotient.specs.Defining.{HasEmptySide, MayBeKept}
use Rattle.pq_base.proofs.LastWeights.{no_weights}
use Rattle.cover_quotient.proofs.next_answers.NextSpellings.{spellings-next}
use Rattle.pq_base.proofs.words.SpelledLists.{side_word, entry_word-spelled}
use Rattle.cover_quotient.proofs.fitting.TailValues.{image_length}

-- a class of 0 is a rank of 0
pub class_zero-rank : (A : Answer) → IsAnswer A → class_of A ≡ 0 → A.presentation.rank ≡ 0
class_zero-rank A is e = sym is.weight_count ∙ no_weights A.weights is.weights e

-- the word of a list without entries
no_word : (e : List ℕ) → length e ≡ 0 → normal_word e ≡ []
no_word [] c = refl
no_word (x ∷ e) c = absurd (omega arith)

module _ (A : Answer) (is : IsAnswer A) where
  -- what may define has an empty side
  empty_side : (d : Definition) → IsSourceOf A d → HasEmptySide A d → side_word A d ≡ []
  empty_side (image i) s h = absurd h
  empty_side (commutator zero i) s h = absurd h
  empty_side (commutator (suc j) zero) s h = absurd h
  empty_side (commutator (suc j) (suc i)) s h = h
  empty_side (power zero) s h = absurd h
  empty_side (power (suc j)) s h = h

  pub defining_side : (c : ℕ) (d : Definition) → class_of A ≡ c → IsSourceOf A d → MayBeKept A c d → side_word A d ≡ []
  defining_side zero (image zero) e s h = absurd s
  defining_side zero (image (suc i)) e s h =
      let none = class_zero-rank A is e in
      entry-map normal_word A.images i []
      ∙ no_word (get_or A.images i []) (image_length A is i s ∙ none)
  defining_side zero (commutator j i) e s h = absurd h
  defining_side zero (power j) e s h = absurd h
  defining_side (suc k) d e s h = empty_side d s h

  pub defining_entry : (d : Definition) → IsSourceOf A d → MayBeKept A (class_of A) d
      → entry_word A d ≡ spelled A.presentation.prime (spelling_words A) d
  defining_entry d s h =
      entry_word-spelled A d s
      ∙ ap (λ (w : List ℤ). inv (sub w (spelling_words A)) ++ spelled A.presentation.prime (spelling_words A) d)
      (defining_side (class_of A) d refl s h)

map-append : (T : Table) (f : List ℕ) (xs ys : List (List ℤ)) → map (value T f) (xs ++ ys) ≡ map (value T f) xs ++ map (value T f) ys
map-append T f [] ys = refl
map-append T f (x ∷ xs) ys = ap (λ (l : List ℕ). value T f x ∷ l) (map-append T f xs ys)

module _ (T : Table) (f : List ℕ) (A : Answer) (is : IsAnswer A) where
  defined-values : (ds : List Definition) → All (IsSourceOf A) ds → All (MayBeKept A (class_of A)) ds
      → map (value T f) (map (spelled A.presentation.prime (spelling_words A)) ds) ≡ map (tail_element T f A) ds
  defined-values [] s h = refl
  defined-values (d ∷ ds) s h =
      ap₂ (λ (x : ℕ) (xs : List ℕ). x ∷ xs)
      (ap (value T f) (sym (defining_entry A is d (All-head (IsSourceOf A) d ds s) (All-head (MayBeKept A (class_of A)) d ds h))))
      (defined-values ds (All-tail (IsSourceOf A) d ds s) (All-tail (MayBeKept A (class_of A)) d ds h))

  pub next-elements : (Y : RowedAnswer) → Y.answer ≡ A → (ds : List Definition) → All (IsSourceOf A) ds → All (MayBeKept A (class_of A)) ds
      → spelled_elements T f (next_answer Y ds) ≡ spelled_elements T f A ++ map (tail_element T f A) ds
  next-elements Y e ds s h =
      let p : ℕ = A.presentation.prime in
      let S : List (List ℤ) = spelling_words A in
      ap (λ (B : Answer). map (value T f) (spellings B.presentation.prime [] (B.definitions ++ ds))) e
      ∙ ap (map (value T f)) (spellings-next A is ds s)
      ∙ map-append T f S (map (spelled p S) ds)
      ∙ ap (λ (l : List ℕ). map (value T f) S ++ l) (defined-values ds s h)

-- the image of a given generator
module _ (Y : RowedAnswer) (is : IsAnswer Y.answer) (rows : length Y.answer.images ≡ length Y.image_rows) (ds : List Definition) where
  pub next-image_count : length (next_answer Y ds).images ≡ length Y.answer.images
  next-image_count = length-followed_by Y.answer.images Y.image_rows rows

  pub next-image : (i : ℕ) → i < length Y.answer.images
      → get_or (image_words (next_answer Y ds)) i []
      ≡ get_or (image_words Y.answer) i [] ++ word_from Y.answer.presentation.rank (get_or Y.image_rows i [])
  next-image i l =
      let e : List ℕ = get_or Y.answer.images i [] in
      let x : List ℕ = get_or Y.image_rows i [] in
      entry-map normal_word (followed_by Y.answer.images Y.image_rows) i []
      ∙ ap normal_word (get_or-followed_by Y.answer.images Y.image_rows i rows)
      ∙ normal_word-append e x
      ∙ ap (λ (k : ℕ). normal_word e ++ word_from k x) (image_length Y.answer is i l)
      ∙ ap (λ (w : List ℤ). w ++ word_from Y.answer.presentation.rank x) (sym (entry-map normal_word Y.answer.images i []))
