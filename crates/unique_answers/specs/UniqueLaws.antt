-- One answer to one question. Each statement is the contract of a function of `laws`.
-- From: the uniqueness of reduced echelon forms, class by class, with this project's order of definitions.
use Rattle.std.specs.Prelude.{◌≡◌, ◌↔◌, ℕ, ℤ, List, [], length}
use Rattle.pq_base.specs.SignedWord.{sub, HasLetters}
use Rattle.pq_base.specs.LPresentation.{LPresentation}
use Rattle.pq_base.specs.Joined.{Joined, IsConsistent}
use Rattle.pq_base.specs.Answer.{Answer, IsAnswer, image_words}
use Rattle.pq_base.specs.Canonical.{up_to_class, IsCanonical}
use Rattle.pq_base.specs.Largest.{IsLargest}

-- cut to a class, a canonical answer is canonical
abbrev pub RestrictionsAreCanonical : Type 0
RestrictionsAreCanonical = (A : Answer) → IsAnswer A → IsCanonical A → (k : ℕ) → IsCanonical (up_to_class A k)

-- a word over the given generators is trivial in an answer
abbrev pub DiesIn : Answer → List ℤ → Type 0
DiesIn A w = Joined A.presentation (sub w (image_words A)) []

-- answers for the same prime and the same names in which the same words die
pub record KillTheSame (A B : Answer) : Type 0 where
  pub prime : A.presentation.prime ≡ B.presentation.prime
  pub names : A.names ≡ B.names
  pub words : (w : List ℤ) → HasLetters (length A.names) w → DiesIn A w ↔ DiesIn B w

-- such answers are equal where they are canonical and consistent
abbrev pub CanonicalAnswersAreDeterminedByWhatDies : Type 0
CanonicalAnswersAreDeterminedByWhatDies = (A B : Answer) → IsAnswer A → IsAnswer B → IsCanonical A → IsCanonical B
    → IsConsistent A.presentation → IsConsistent B.presentation → KillTheSame A B → A ≡ B

-- in largest quotients of one class of one presentation the same words die
abbrev pub LargestQuotientsKillTheSame : Type 0
LargestQuotientsKillTheSame = (L : LPresentation) (p c : ℕ) (A B : Answer) → IsLargest L p c A → IsLargest L p c B → KillTheSame A B

-- so there is one canonical answer to one question
abbrev pub CanonicalLargestQuotientsAreUnique : Type 0
CanonicalLargestQuotientsAreUnique = (L : LPresentation) (p c : ℕ) (A B : Answer) → IsLargest L p c A → IsCanonical A
    → IsLargest L p c B → IsCanonical B → A ≡ B
