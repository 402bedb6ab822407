-- Joined words: words that stand for one element of the presented group. A chain of words leads from the one to the
-- other, each made from the one before by putting in or taking out a cancelling pair or a relator.
-- From: the meaning of a presentation by generators and relators.
use Rattle.std.specs.Prelude.{◌≡◌, ℕ, ℤ, neg_ℤ, List, [], ◌∷◌, ◌++◌}
use Rattle.pq_base.specs.SignedWord.{HasLetters}
use Rattle.pq_base.specs.Presentation.{Presentation, IsRelatorOf, IsNormal, normal_word}

-- a word that stands for the neutral element by itself: a cancelling pair of any letter, or a relator
pub data IsTrivial (P : Presentation) : List ℤ → Type 0 where
  pair : (k : ℤ) → IsTrivial P (k ∷ neg_ℤ k ∷ [])
  relator : (r : List ℤ) → IsRelatorOf P r → IsTrivial P r

-- one trivial word put in or taken out
pub data Move (E : List ℤ → Type 0) : List ℤ → List ℤ → Type 0 where
  insert : (a x b : List ℤ) → E x → Move E (a ++ b) (a ++ (x ++ b))
  delete : (a x b : List ℤ) → E x → Move E (a ++ (x ++ b)) (a ++ b)

-- moves one after the other
pub data Chain (E : List ℤ → Type 0) : List ℤ → List ℤ → Type 0 where
  done : {u : List ℤ} → Chain E u u
  step : {u v w : List ℤ} → Move E u v → Chain E v w → Chain E u w

abbrev pub Joined : Presentation → List ℤ → List ℤ → Type 0
Joined P u v = Chain (IsTrivial P) u v

-- exponents of a normal word that a word is joined to
pub record Reaches (P : Presentation) (w : List ℤ) (e : List ℕ) : Type 0 where
  pub normal : IsNormal P.prime P.rank e
  pub joined : Joined P w (normal_word e)

-- distinct normal words are distinct elements, and each element has one: the order is the prime to the rank
pub record IsConsistent (P : Presentation) : Type 0 where
  pub unique : (e f : List ℕ) → IsNormal P.prime P.rank e → IsNormal P.prime P.rank f → Joined P (normal_word e) (normal_word f) → e ≡ f
  pub reached : (w : List ℤ) → HasLetters P.rank w → (e : List ℕ) × Reaches P w e
