-- Elements of a cover as values of words over the given generators, and the rows that values have.
-- From: the p-covering groups of Newman and O'Brien's method.
use Rattle.std.specs.Prelude.{◌≡◌, ◌≤◌, ◌<◌, ℕ, ℤ, List, [], ◌++◌, get_or, length}
use Rattle.pq_base.specs.SignedWord.{inv, sub}
use Rattle.pq_base.specs.Answer.{Answer, Definition as Source, spell, spelled}
use Rattle.pq_base.specs.Answer.Definition.{image, commutator, power}
use Rattle.pq_base.specs.EntryWords.{spelling_words, entry_word}
use Rattle.pc_presentation.specs.declared.syllable.Syllable.{Syllable}
use Rattle.pc_presentation.specs.Syllable.{letters_of}
use Rattle.pc_presentation.specs.Pcp.{TailedPresentation}
use Rattle.pc_presentation.specs.Arithmetic.{word_of}
use Rattle.pc_presentation.specs.Tailed.{Element, rowed_presentation, IsElement}
use Rattle.p_cover.specs.RowedAnswer.{rowed_images}
use Rattle.p_cover.specs.Covers.{CoverOf, cover_presentation, rowed_cover}
use Rattle.endo_lift.specs.declared.room.Room.{Room}
use Rattle.endo_lift.specs.Lifts.{AreJoinedIn}

-- an element of a cover whose word is joined to the value of a word
pub record IsValue (C : CoverOf) (w : List ℤ) (e : Element) : Type 0 where
  pub element : IsElement (cover_presentation C) e
  pub joined : AreJoinedIn C (word_of (rowed_presentation (cover_presentation C)) e.state) (sub w (rowed_images (rowed_cover C)))

-- elements are the values of what the first generators spell, carried along the endomorphism
abbrev pub AreSpelled : CoverOf → List (List ℤ) → List Element → Type 0
AreSpelled C endo es = (k : ℕ) (d : Element) → k < length es → IsValue C (sub (spell C.answer k) endo) (get_or es k d)

-- a definition or a relation by the given generators up to m, or by the generators up to n
abbrev pub IsUpTo : ℕ → ℕ → Source → Type 0
IsUpTo m n (image i) = (1 ≤ i) × (i ≤ m)
IsUpTo m n (commutator j i) = (1 ≤ j) × (j ≤ n) × (1 ≤ i) × (i ≤ n)
IsUpTo m n (power j) = (1 ≤ j) × (j ≤ n)

-- a right side: with what the left side spells it makes the entry word
abbrev pub IsRightSide : Answer → Source → List Syllable → Type 0
IsRightSide A d w = entry_word A d ≡ inv (sub (letters_of w) (spelling_words A)) ++ spelled A.presentation.prime (spelling_words A) d

-- elements to work in
pub record IsRoom (T : TailedPresentation) (r : Room) : Type 0 where
  pub value : IsElement T r.value
  pub factor : IsElement T r.factor
  pub product : IsElement T r.product

-- the row of a value
pub record IsRowOfValue (C : CoverOf) (w : List ℤ) (x : List ℕ) : Type 0 where
  pub element : Element
  pub value : IsValue C w element
  pub row : x ≡ element.state.row

-- the first n rows are those of values of the images of the words that the first n tails stand for
abbrev pub AreValueRows : CoverOf → List (List ℤ) → ℕ → List (List ℕ) → Type 0
AreValueRows C endo n rows = (t : ℕ) → t < n
    → IsRowOfValue C (sub (entry_word C.answer (get_or C.sources t (image 0))) endo) (get_or rows t [])
