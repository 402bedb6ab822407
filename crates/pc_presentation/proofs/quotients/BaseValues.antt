-- Without rows: over any collector the exponents of a value spell a word that is joined, in the base, to the word that was
-- evaluated, under the exponents of the images. So over a consistent base the exponents of a value are 0 exactly where
-- that word is joined to the empty word.
use Rattle.std.proofs.Common.{◌≡◌, ◌↔◌, ℕ, ◌<◌, ℤ, List, [], ◌++◌, length, map, ap, sym, ◌∙◌, arith}
use Rattle.pq_base.specs.SignedWord.{sub, HasLetters}
use Rattle.pq_base.specs.Presentation.{normal_word}
use Rattle.pq_base.specs.Joined.{Joined, IsConsistent}
use Rattle.pq_base.specs.Elementary.{zeros}
use Rattle.pq_base.proofs.words.WordLaws.{normal_word-zeros}
use Rattle.pq_base.proofs.words.JoinedLaws.{joined-sym, joined-trans, joined-from_equal}
use Rattle.pc_presentation.specs.Rowed.{RowedPresentation, IsRowed}
use Rattle.pc_presentation.specs.Collection.{State, IsState, identity, spelled, letters}
use Rattle.pc_presentation.specs.Arithmetic.{IsMeaning, product_by, evaluate_from, AreImages}
use Rattle.pc_presentation.proofs.rows.RowLaws.{identity-state}
use Rattle.pc_presentation.proofs.collecting.PlainRule.{spelled-zeros}
use Rattle.pc_presentation.proofs.collecting.PlainRuns.{AllBelow-spelled}
use Rattle.pc_presentation.proofs.consistent.LetterWords.{letters-spelled}
use Rattle.pc_presentation.proofs.consistent.Reached.{state_word, push_word-joined_base}
use Rattle.pc_presentation.proofs.quotients.WordValues.{value-joined}

-- the word of exponents
pub state_word-normal : (s : State) → state_word s ≡ normal_word s.exponents
state_word-normal s = letters-spelled 0 s.exponents

module _ (Y : RowedPresentation) (rowed : IsRowed Y) (big : 1 < Y.base.prime) (push : State → ℕ → State) (meaning : IsMeaning Y push) where
  one-word : state_word (identity Y Y.base.rank) ≡ []
  one-word = ap letters (spelled-zeros 0 Y.base.rank)

  product-joined_base : (u v : State) → IsState Y Y.base.rank u → IsState Y Y.base.rank v
      → Joined Y.base (state_word (product_by Y push u v)) (state_word u ++ state_word v)
  product-joined_base u v h i =
      let c = i.exponents.count in
      joined-sym (push_word-joined_base Y push meaning (spelled 0 v.exponents) u h
      (AllBelow-spelled Y.base.rank 0 v.exponents (omega arith)))

  pub value-joined_base : (f g : List State) (w : List ℤ) → AreImages Y push f g → HasLetters (length f) w
      → Joined Y.base (state_word (evaluate_from Y push f g (identity Y Y.base.rank) w)) (sub w (map state_word f))
  value-joined_base f g w images l =
      joined-trans
      (value-joined Y rowed big push meaning Y.base state_word one-word product-joined_base f g (identity Y Y.base.rank) w images
      (identity-state Y Y.base.rank (omega arith)) l)
      (joined-from_equal Y.base (ap (λ (v : List ℤ). v ++ sub w (map state_word f)) one-word))

-- over a consistent base
module _ (Y : RowedPresentation) (positive : 0 < Y.base.prime) (consistent : IsConsistent Y.base) where
  pub zero-exponents_joined : (s : State) (u : List ℤ) → IsState Y Y.base.rank s → Joined Y.base (state_word s) u
      → s.exponents ≡ zeros Y.base.rank ↔ Joined Y.base u []
  zero-exponents_joined s u h c = (
    λ q. joined-trans (joined-sym c)
        (joined-from_equal Y.base (state_word-normal s ∙ ap normal_word q ∙ normal_word-zeros Y.base.rank)),
    λ d. consistent.unique s.exponents (zeros Y.base.rank) h.exponents (identity-state Y Y.base.rank positive).exponents
        (joined-trans (joined-from_equal Y.base (sym (state_word-normal s)))
        (joined-trans c (joined-trans d (joined-from_equal Y.base (sym (normal_word-zeros Y.base.rank)))))),
  )
